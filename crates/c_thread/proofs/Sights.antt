-- The scope of a function that runs sees what the meaning of C says.
use Rattle.c_thread.proofs.Common.{◌≡◌, ℕ, ◌-◌, Bool, true, false, ◌||◌, List, [], map, get_or, is_some, if◌then◌else◌, slice_get, Some}
use Rattle.c_thread.proofs.Common.{None, Option, option_map, bytes_eq, sym, refl, ap, ◌∙◌, arith, length-map, option_or, if_found, named}
use Rattle.c_thread.proofs.Common.{Trail, unit_of, Program, array_named, func_named, is_object, var_in, Machine, Name, ObjectAddress}
use Rattle.c_thread.proofs.Common.{Running, depth_name, in_unit, value_in, var_found, units_at, AreStored, machine_of, objects_of, var_at}
use Rattle.c_thread.proofs.Common.{Naming, UnitNames, address_of, func_of, object_name, value_of, Held, ObjectId, Finds, number_in}
use Rattle.c_thread.proofs.Common.{AreObjectTables, held_vars, items_at, Sees, bytes_in, func_in, held_in, item_bytes, object_in, sight_of}
use Rattle.c_thread.proofs.Common.{UnitScope}
use Rattle.w2c_base.specs.declared.value.Value.TheVariants.{I32}
use Rattle.w2c_base.proofs.Options.{or_map}
use Rattle.c_objects.specs.declared.held.Held.TheVariants as held
use Rattle.c_objects.specs.declared.held.Object.{Object}
use Rattle.c_objects.specs.declared.held.Object.TheVariants as object
use Rattle.c_objects.specs.Objects.{memory_of, table_of}
use Rattle.c_thread.proofs.Assigns.{held_named, name_from}
use Rattle.c_thread.proofs.Seen.{present, stored_for, var_seen}

through : (names : Naming) (vs : List Held) (o : Option ℕ)
    → if_found o (λ i. option_map (value_of names) (slice_get vs i))
    ≡ option_map (value_of names) (if_found o (λ i. slice_get vs i))
through names vs None = refl
through names vs (Some i) = refl

module _ (names : Naming) (p : Program) (trail : Trail) (s : UnitScope) (r : Running) (locals : List Name) where
  abbrev machine : Machine
  machine = machine_of names s.depth trail s.store.now.units.items

  -- names of a unit's objects
  module _ (n : UnitNames) (here : slice_get names s.unit ≡ Some n) where
    address_so : (b : Object) (q : Name) → object_name n b ≡ q
        → address_of names (record { unit = s.unit; object = b }) ≡ record { unit = s.unit; name = q }
    address_so b q e =
        ap (λ o. record { unit = s.unit; name = elim o [ None ↦ [] | Some n ↦ object_name n b ] }) here
        ∙ ap (λ x. record { unit = s.unit; name = x }) e

    minus_none : (i : ℕ) → i - 0 ≡ i
    minus_none i = omega arith

    name_so : (q : Name) (xs : List Name) (i : ℕ) → number_in q xs ≡ Some i → get_or xs i [] ≡ q
    name_so q xs i e = ap (λ j. get_or xs j []) (sym (minus_none i)) ∙ name_from 0 i q xs e

    one_of : (q : Name) (a b c : Option ℕ) → number_in q n.vars ≡ a → number_in q n.memories ≡ b → number_in q n.tables ≡ c
        → (if is_some a || is_some b || is_some c then Some (record { unit = s.unit; name = q }) else None)
        ≡ option_map (address_of names) (option_map (λ o. record { unit = s.unit; object = o })
        (option_or (option_map object.Variable a) (option_or (option_map object.Memory b) (option_map object.Table c))))
    one_of q (Some i) b c e f g = ap Some (sym (address_so (object.Variable i) q (name_so q n.vars i e)))
    one_of q None (Some i) c e f g = ap Some (sym (address_so (object.Memory i) q (name_so q n.memories i f)))
    one_of q None None (Some i) e f g = ap Some (sym (address_so (object.Table i) q (name_so q n.tables i g)))
    one_of q None None None e f g = refl

    is_there : (q : Name) → AreStored names s.store.now.units.items
        → is_object machine (record { unit = s.unit; name = q }) ≡ is_some (number_in q n.vars) || is_some (number_in q n.memories)
        || is_some (number_in q n.tables)
    is_there q are =
        let x = stored_for names s.store.now.units.items s.unit n are here in
        let o = x.0 in
        let at_unit = units_at names names s.store.now.units.items s.unit n o here x.1 in
        ap (λ u. is_some (if_found u (λ o. named q o.vars)) || is_some (if_found u (λ o. named q o.memories))
        || is_some (if_found u (λ o. named q o.tables))) at_unit
        ∙ ap (λ b. b || is_some (named q (objects_of names n o).memories) || is_some (named q (objects_of names n o).tables))
        (present 0 q n.vars (map (value_of names) o.vars.items)
        (x.2.vars_count ∙ sym (length-map o.vars.items (value_of names))))
        ∙ ap (λ b. is_some (number_in q n.vars) || b || is_some (named q (objects_of names n o).tables))
        (present 0 q n.memories (map memory_of o.memories.items)
        (x.2.memories_count ∙ sym (length-map o.memories.items memory_of)))
        ∙ ap (λ b. is_some (number_in q n.vars) || is_some (number_in q n.memories) || b)
        (present 0 q n.tables (map (table_of names) o.tables.items)
        (x.2.tables_count ∙ sym (length-map o.tables.items (table_of names))))

  abbrev by_numbers : Option ℕ → Option ℕ → Option ℕ → Option ObjectAddress
  by_numbers a b c = option_map (address_of names) (option_map (λ o. record { unit = s.unit; object = o })
      (option_or (option_map object.Variable a) (option_or (option_map object.Memory b) (option_map object.Table c))))

  values_seen : (q : Name) → r.unit ≡ s.unit → r.vars ≡ held_vars names locals s.values.now → Finds s.locals.now (λ q. number_in q locals)
      → (are : AreObjectTables names p s.unit s.objects.now) → AreStored names s.store.now.units.items
      → value_in machine r q ≡ option_map (value_of names) (held_in s q)
  values_seen q unit vars finds are stored = go (bytes_eq q depth_name) refl
    where
      go : (b : Bool) → bytes_eq q depth_name ≡ b → value_in machine r q ≡ option_map (value_of names) (held_in s q)
      go true e = rw e refl
      go false e =
          let by_local = ap (named q) vars ∙ held_named names machine locals s.values.now q (held.Number (I32 0)) r []
          ∙ through names s.values.now (number_in q locals)
          ∙ ap (λ o. option_map (value_of names) (if_found o (λ i. slice_get s.values.now i))) (sym (finds q)) in
          let by_unit = ap (λ u. var_in machine (record { unit = u; name = q })) unit
          ∙ var_seen names s.depth trail s.store.now.units.items s.unit are.unit s.objects.now.vars q stored are.unit_is are.vars in
          rw e (ap (λ a. option_or a (var_in machine (in_unit r q))) by_local ∙ ap (option_or _) by_unit ∙ or_map (value_of names) _ _)

  -- the whole
  pub sees : r.unit ≡ s.unit → r.vars ≡ held_vars names locals s.values.now → unit_of s.items.now ≡ items_at p s.unit
      → Finds s.locals.now (λ q. number_in q locals)
      → AreObjectTables names p s.unit s.objects.now → AreStored names s.store.now.units.items → Sees names (sight_of s) p machine r
  sees unit vars items finds are stored = record {
    values_are = values_are;
    arrays_are = arrays_are;
    vars_are = vars_are;
    objects_are = objects_are;
    funcs_are = funcs_are;
  }
    where
      values_are : (q : Name) → value_in machine r q ≡ option_map (value_of names) (held_in s q)
      values_are q = values_seen q unit vars finds are stored

      arrays_are : (q : Name) → array_named p r.unit q ≡ bytes_in s q
      arrays_are q = ap (λ u. array_named p u q) unit ∙ are.arrays q
          ∙ ap (λ l. if_found (named q s.objects.now.arrays) (λ i. if_found (slice_get l i) item_bytes)) (sym items)

      vars_are : (at : ObjectId) → var_in machine (address_of names at) ≡ option_map (value_of names) (var_at s.store.now.units.items at)
      vars_are at = var_found names s.depth trail s.store.now.units.items at stored

      objects_are : (q : Name) → (if is_object machine (in_unit r q) then Some (in_unit r q) else None) ≡ option_map
          (address_of names) (object_in s q)
      objects_are q =
          ap (λ u. if is_object machine (record { unit = u; name = q }) then Some (record { unit = u; name = q }) else None) unit
          ∙ ap (λ b. if b then Some (record { unit = s.unit; name = q }) else None) (is_there are.unit are.unit_is q stored)
          ∙ one_of are.unit are.unit_is q (number_in q are.unit.vars) (number_in q are.unit.memories)
          (number_in q are.unit.tables) refl refl refl
          ∙ ap (λ a. by_numbers a (number_in q are.unit.memories) (number_in q are.unit.tables)) (sym (are.vars q))
          ∙ ap (λ b. by_numbers (named q s.objects.now.vars) b (number_in q are.unit.tables)) (sym (are.memories q))
          ∙ ap (by_numbers (named q s.objects.now.vars) (named q s.objects.now.memories)) (sym (are.tables q))

      funcs_are : (q : Name) → func_named p r.unit q ≡ option_map (func_of names) (func_in s q)
      funcs_are q = ap (λ u. func_named p u q) unit ∙ are.functions q
