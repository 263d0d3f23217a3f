-- Assignments in linked units.
use Rattle.c_thread.proofs.Common.{◌≡◌, ℕ, suc, ◌+◌, ◌-◌, ◌<◌, Bool, true, false, List, [], ◌∷◌, map, get_or, is_some, if◌then◌else◌}
use Rattle.c_thread.proofs.Common.{slice_get, slice_set, Some, None, Option, option_map, zip, bytes_eq, sym, refl, ap, ◌∙◌, arith}
use Rattle.c_thread.proofs.Common.{option_or, if_found, named, with_named, Trail, with_var, Machine, Name, Running, Stuck, Waiting}
use Rattle.c_thread.proofs.Common.{of_one_type, Stops, assign, depth_name, in_unit, next, with_vars, slice_get-map, set_mapped, var_found}
use Rattle.c_thread.proofs.Common.{AreStored, machine_of, var_at, Naming, UnitNames, address_of, object_name, value_of, Held, ObjectId}
use Rattle.c_thread.proofs.Common.{UnitObjects, entry_from, named-zip, with_named-zip, Finds, entry_in, number_in, assigned_in_unit}
use Rattle.c_thread.proofs.Common.{held_vars, put_at}
use Rattle.std.proofs.lemmas.Slice.Eq.{bytes_eq-Decides}
use Rattle.c_objects.specs.declared.held.Object.TheVariants as object
use Rattle.c_thread.proofs.Seen.{var_seen}

-- the name at the number that is found
pub name_from : (k i : ℕ) (q : Name) (xs : List Name) → entry_in k q (map Some xs) ≡ Some i → get_or xs (i - k) [] ≡ q
name_from k i q [] e = absurd cc
name_from k i q (x ∷ xs) e = go (name_from (k + 1) i q xs) (bytes_eq x q) refl e
  where
    go : (entry_in (k + 1) q (map Some xs) ≡ Some i → get_or xs (i - (k + 1)) [] ≡ q)
        → (b : Bool) → bytes_eq x q ≡ b → option_or (if b then Some k else None) (entry_in (k + 1) q (map Some xs)) ≡ Some i
        → get_or (x ∷ xs) (i - k) [] ≡ q
    go behind true is e =
        let same : i - k ≡ 0 = (let one : k ≡ i = cc in omega (arith, one)) in
        rw same ((bytes_eq-Decides x q).0 is)
    go behind false is e =
        let from = entry_from (k + 1) q (map Some xs) i e in
        let one : i - k ≡ suc (i - (k + 1)) = omega (arith, from) in
        rw one (behind e)

-- an object of the unit by its name
pub named_so : (names : Naming) (r : Running) (n : UnitNames) (q : Name) (i : ℕ) → slice_get names r.unit ≡ Some n
    → number_in q n.vars ≡ Some i
    → address_of names (record { unit = r.unit; object = object.Variable i }) ≡ in_unit r q
named_so names r n q i here number =
    ap (λ o. record { unit = r.unit; name = elim o [ None ↦ [] | Some n ↦ object_name n (object.Variable i) ] }) here
    ∙ ap (λ x. record { unit = r.unit; name = x }) (ap (λ j. get_or n.vars j []) (sym (minus_none i)) ∙ name_from 0 i q n.vars number)
  where
    minus_none : (i : ℕ) → i - 0 ≡ i
    minus_none i = omega arith

-- variables of units
module _ (names : Naming) (depth : ℕ) (trail : Trail) (os : List UnitObjects) (w : Held) (r : Running) (below : List Waiting) where
  abbrev machine : Machine
  machine = machine_of names depth trail os

  module _ (at : ObjectId) (are : AreStored names os) where
    pub put_nowhere : var_at os at ≡ None → put_at machine r (address_of names at) (value_of names w) below ≡ Stops machine Stuck
    put_nowhere none = rw (var_found names depth trail os at are, none) refl

    pub put_other_type : (x : Held) → var_at os at ≡ Some x → of_one_type (value_of names x) (value_of names w) ≡ false
        → put_at machine r (address_of names at) (value_of names w) below ≡ Stops machine Stuck
    put_other_type x is differ = rw (var_found names depth trail os at are, is, differ) refl

    pub put_there : (x : Held) (after : List UnitObjects) → var_at os at ≡ Some x
        → of_one_type (value_of names x) (value_of names w) ≡ true
        → with_var machine (address_of names at) (value_of names w) ≡ machine_of names depth trail after
        → put_at machine r (address_of names at) (value_of names w) below ≡ next (machine_of names depth trail after) r below
    put_there x after is same written =
        rw (var_found names depth trail os at are, is, same) (ap (λ m. next m r below) written)

  -- a name that no variable of the unit has
  pub unit_unassigned : (n : UnitNames) (table : List (Name × ℕ)) (q : Name) → AreStored names os → slice_get names r.unit ≡ Some n
      → Finds table (λ q. number_in q n.vars) → named q table ≡ None
      → assigned_in_unit machine r q (value_of names w) below ≡ Stops machine Stuck
  unit_unassigned n table q are here finds none =
      let seen = var_seen names depth trail os r.unit n table q are here finds in
      rw (seen, none) refl

-- parameters and locals
module _ (names : Naming) (m : Machine) (locals : List Name) (vs : List Held) (q : Name) (w : Held) (r : Running)
    (below : List Waiting) where
  pub held_named : named q (held_vars names locals vs) ≡ if_found (number_in q locals) (λ i. option_map (value_of names) (slice_get vs i))
  held_named = named-zip q locals (map (value_of names) vs) ∙ through (number_in q locals)
    where
      through : (o : Option ℕ) → if_found o (λ i. slice_get (map (value_of names) vs) i) ≡ if_found o
          (λ i. option_map (value_of names) (slice_get vs i))
      through None = refl
      through (Some i) = slice_get-map (value_of names) vs i

  held_at : (i : ℕ) (old : Held) → r.vars ≡ held_vars names locals vs → number_in q locals ≡ Some i → slice_get vs i ≡ Some old
      → named q r.vars ≡ Some (value_of names old)
  held_at i old vars number there =
      ap (named q) vars ∙ held_named
      ∙ ap (λ o. if_found o (λ i. option_map (value_of names) (slice_get vs i))) number
      ∙ ap (option_map (value_of names)) there

  pub local_other_type : (i : ℕ) (old : Held) → false ≡ bytes_eq q depth_name → r.vars ≡ held_vars names locals vs
      → number_in q locals ≡ Some i → slice_get vs i ≡ Some old → of_one_type (value_of names old) (value_of names w) ≡ false
      → assign m r q (value_of names w) below ≡ Stops m Stuck
  local_other_type i old other vars number there differ = rw (sym other, held_at i old vars number there, differ) refl

  pub local_assigned : (i : ℕ) (old : Held) → false ≡ bytes_eq q depth_name → r.vars ≡ held_vars names locals vs
      → number_in q locals ≡ Some i → slice_get vs i ≡ Some old → of_one_type (value_of names old) (value_of names w) ≡ true
      → assign m r q (value_of names w) below ≡ next m (with_vars r (held_vars names locals (slice_set vs i w))) below
  local_assigned i old other vars number there same =
      rw (sym other, held_at i old vars number there, same)
      (ap (λ vars. next m (with_vars r vars) below)
      (ap (with_named q (value_of names w)) vars
      ∙ with_named-zip q (value_of names w) locals (map (value_of names) vs) i number
      ∙ ap (zip locals) (set_mapped (value_of names) vs i w)))

  pub not_local : false ≡ bytes_eq q depth_name → r.vars ≡ held_vars names locals vs
      → if_found (number_in q locals) (λ i. slice_get vs i) ≡ None
      → assign m r q (value_of names w) below ≡ assigned_in_unit m r q (value_of names w) below
  not_local other vars none =
      let found = ap is_some (ap (named q) vars ∙ held_named ∙ through (number_in q locals) ∙ ap (option_map (value_of names)) none) in
      rw (sym other, found) refl
    where
      through : (o : Option ℕ) → if_found o (λ i. option_map (value_of names) (slice_get vs i)) ≡ option_map (value_of names)
          (if_found o (λ i. slice_get vs i))
      through None = refl
      through (Some i) = refl
