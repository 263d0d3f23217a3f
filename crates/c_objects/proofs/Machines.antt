-- Memories and tables of a store, as those of the machine of the meaning of C.
use Rattle.c_objects.proofs.Common.{◌≡◌, ℕ, zero, suc, ◌<◌, ◌≤◌, true, false, ◌⊎◌, List, [], ◌∷◌, map, length, get_or, slice_get, slice_set}
use Rattle.c_objects.proofs.Common.{Some, None, Option, option_map, zip, bytes_eq, sym, refl, ap, ◌∙◌, inl, inr, arith, length-set}
use Rattle.c_objects.proofs.Common.{slice_get_cases, AllByRecursion, if_found, named, memory_in, table_in, var_in, with_memory}
use Rattle.c_objects.proofs.Common.{with_objects, with_table, with_var, NoEffect, Machine, Memory, Name, Pointer, Table, memory_effect}
use Rattle.c_objects.proofs.Common.{table_effect, memory_of, table_of, AreApart, AreNames, AreStored, Differ, IsStored, machine_of}
use Rattle.c_objects.proofs.Common.{objects_of, units_of, var_at, Naming, UnitNames, address_of, object_name, value_of, MemoryCall}
use Rattle.c_objects.proofs.Common.{UnitObjects, TableCall}
use Rattle.std.proofs.lemmas.List.{length-map}
use Rattle.std.specs.Vec.{with_item}
use Rattle.w2c_base.specs.Run.{Trail}
use Rattle.c_objects.specs.declared.held.Held.{Held}
use Rattle.c_objects.specs.declared.held.Object.{Object}
use Rattle.c_objects.specs.declared.held.Object.TheVariants as object
use Rattle.c_objects.specs.declared.held.ObjectId.{ObjectId}
use Rattle.c_objects.specs.declared.memory.MemoryCell.{MemoryCell}
use Rattle.c_objects.specs.declared.table.TableCell.{TableCell}
use Rattle.c_objects.proofs.Kept.{memory_kept, table_kept}
use Rattle.c_objects.proofs.Elements.{set_mapped}
use Rattle.c_objects.proofs.Stores.{no_memory_effect, no_table_effect, no_such, nameless, later, named_at, set_at, stored_at, stored_set}
use Rattle.c_objects.proofs.Stores.{units_at, units_past, units_set}
use Rattle.std.proofs.lemmas.Option.{slice_get-map}

differs_from : (x : Name) (ys : List Name) → AllByRecursion (Differ x) ys → AllByRecursion (λ y. bytes_eq y x ≡ false) ys
differs_from x [] all = tt
differs_from x (y ∷ ys) all = (all.0.1, differs_from x ys all.1)

-- a name of those is beside none of these
apart_left : (xs ys : List Name) (i : ℕ) → AreApart xs ys → AreNames ys → AllByRecursion (λ y. bytes_eq y (get_or xs i []) ≡ false) ys
apart_left [] ys i apart are = nameless ys are
apart_left (x ∷ xs) ys zero apart are = differs_from x ys apart.0
apart_left (x ∷ xs) ys (suc i) apart are = apart_left xs ys i apart.1 are

apart_right : (xs ys : List Name) (i : ℕ) → AreApart xs ys → AreNames xs → AllByRecursion (λ x. bytes_eq x (get_or ys i []) ≡ false) xs
apart_right [] ys i apart are = tt
apart_right (x ∷ xs) ys i apart are = (later x ys i are.0 apart.0, apart_right xs ys i apart.1 are.2)

abbrev pub memory_slot : List UnitObjects → ℕ → Object → Option Memory
memory_slot os u b = if_found (slice_get os u) (λ o. elim b [
  | object.Variable i ↦ None
  | object.Memory i ↦ option_map memory_of (slice_get o.memories.items i)
  | object.Table i ↦ None
])

abbrev pub table_slot : Naming → List UnitObjects → ℕ → Object → Option Table
table_slot names os u b = if_found (slice_get os u) (λ o. elim b [
  | object.Variable i ↦ None
  | object.Memory i ↦ None
  | object.Table i ↦ option_map (table_of names) (slice_get o.tables.items i)
])

-- past the end nothing stands
pub past_end : {A : Type 0} (xs : List A) (n i : ℕ) → n ≡ length xs → (i < n → false ≡ true) → slice_get xs i ≡ None
past_end {A = A} xs n i many none = go (slice_get_cases xs i).1
  where
    go : ((x : A) × (i < length xs) × (slice_get xs i ≡ Some x) × (get_or xs i x ≡ x))
        ⊎ ((length xs ≤ i) × (slice_get xs i ≡ None)) → slice_get xs i ≡ None
    go (inl found) = let less : i < n =
        (let here = found.1 in omega (arith, many, here)) in let no_way : false ≡ true = none less in absurd cc
    go (inr past) = past.1

pub no_memory_slot : (os : List UnitObjects) (u : ℕ) (b : Object) → ((i : ℕ) → b ≡ object.Memory i → ⊥) → memory_slot os u b ≡ None
no_memory_slot os u b other = go (slice_get os u) b other
  where
    go : (o : Option UnitObjects) (b : Object) → ((i : ℕ) → b ≡ object.Memory i → ⊥) → if_found o (λ o. elim b [
      | object.Variable i ↦ None
      | object.Memory i ↦ option_map memory_of (slice_get o.memories.items i)
      | object.Table i ↦ None
    ]) ≡ None
    go (Some o) (object.Memory i) other = absurd (other i refl)
    go _ _ other = refl

pub no_table_slot : (names : Naming) (os : List UnitObjects) (u : ℕ) (b : Object) → ((i : ℕ) → b ≡ object.Table i → ⊥)
    → table_slot names os u b ≡ None
no_table_slot names os u b other = go (slice_get os u) b other
  where
    go : (o : Option UnitObjects) (b : Object) → ((i : ℕ) → b ≡ object.Table i → ⊥) → if_found o (λ o. elim b [
      | object.Variable i ↦ None
      | object.Memory i ↦ None
      | object.Table i ↦ option_map (table_of names) (slice_get o.tables.items i)
    ]) ≡ None
    go (Some o) (object.Table i) other = absurd (other i refl)
    go _ _ other = refl

abbrev pub with_cell : UnitObjects → ℕ → MemoryCell → UnitObjects
with_cell o i new = record { vars = o.vars; memories = with_item o.memories i new; tables = o.tables }

abbrev pub with_table_cell : UnitObjects → ℕ → TableCell → UnitObjects
with_table_cell o i new = record { vars = o.vars; memories = o.memories; tables = with_item o.tables i new }

abbrev pub with_var_cell : UnitObjects → ℕ → Held → UnitObjects
with_var_cell o i new = record { vars = with_item o.vars i new; memories = o.memories; tables = o.tables }

-- the objects stay stored
module _ (names : Naming) where
  -- as many of each kind stand in a unit
  stored_as : (os : List UnitObjects) (u : ℕ) (o new : UnitObjects) → AreStored names os → slice_get os u ≡ Some o
      → length new.vars.items ≡ length o.vars.items → length new.memories.items ≡ length o.memories.items
      → length new.tables.items ≡ length o.tables.items → AreStored names (slice_set os u new)
  stored_as os u o new are e vars memories tables =
      let here = stored_at names names os u o are e in
      let is = here.2 in
      stored_set names names os u here.0 new are here.1 (record {
        vars = is.vars;
        memories = is.memories;
        tables = is.tables;
        vars_memories = is.vars_memories;
        vars_tables = is.vars_tables;
        memories_tables = is.memories_tables;
        vars_count = is.vars_count ∙ sym vars;
        memories_count = is.memories_count ∙ sym memories;
        tables_count = is.tables_count ∙ sym tables;
      })

  pub memory_stored : (os : List UnitObjects) (u i : ℕ) (o : UnitObjects) (new : MemoryCell) → AreStored names os → slice_get os u ≡ Some o
      → AreStored names (slice_set os u (with_cell o i new))
  memory_stored os u i o new are e = stored_as os u o (with_cell o i new) are e refl (length-set o.memories.items i new) refl

  pub table_stored : (os : List UnitObjects) (u i : ℕ) (o : UnitObjects) (new : TableCell) → AreStored names os → slice_get os u ≡ Some o
      → AreStored names (slice_set os u (with_table_cell o i new))
  table_stored os u i o new are e = stored_as os u o (with_table_cell o i new) are e refl refl (length-set o.tables.items i new)

  pub var_stored : (os : List UnitObjects) (u i : ℕ) (o : UnitObjects) (new : Held) → AreStored names os → slice_get os u ≡ Some o
      → AreStored names (slice_set os u (with_var_cell o i new))
  var_stored os u i o new are e = stored_as os u o (with_var_cell o i new) are e (length-set o.vars.items i new) refl refl

module _ (names : Naming) (depth : ℕ) (trail : Trail) where
  abbrev machine : List UnitObjects → Machine
  machine os = machine_of names depth trail os

  abbrev at : ℕ → Object → ObjectId
  at u b = record { unit = u; object = b }

  name_here : (u : ℕ) (b : Object) (n : UnitNames) → slice_get names u ≡ Some n
      → address_of names (at u b) ≡ record { unit = u; name = object_name n b }
  name_here u b n e = ap (λ o. record { unit = u; name = elim o [ None ↦ [] | Some n ↦ object_name n b ] }) e

  memory_by : (n : UnitNames) (o : UnitObjects) (b : Object) → IsStored n o
      → named (object_name n b) (zip n.memories (map memory_of o.memories.items))
      ≡ (elim b [
        | object.Variable i ↦ None
        | object.Memory i ↦ option_map memory_of (slice_get o.memories.items i)
        | object.Table i ↦ None
      ])
  memory_by n o (object.Variable i) is = no_such (get_or n.vars i []) n.memories (map memory_of o.memories.items)
      (apart_left n.vars n.memories i is.vars_memories is.memories)
  memory_by n o (object.Memory i) is =
      named_at n.memories (map memory_of o.memories.items) i is.memories (is.memories_count ∙ sym (length-map o.memories.items memory_of))
      ∙ slice_get-map memory_of o.memories.items i
  memory_by n o (object.Table i) is = no_such (get_or n.tables i []) n.memories (map memory_of o.memories.items)
      (apart_right n.memories n.tables i is.memories_tables is.memories)

  pub memory_found : (os : List UnitObjects) (u : ℕ) (b : Object) → AreStored names os
      → memory_in (machine os) (address_of names (at u b)) ≡ memory_slot os u b
  memory_found os u b are = go (slice_get os u) refl
    where
      go : (o : Option UnitObjects) → slice_get os u ≡ o → memory_in (machine os) (address_of names (at u b)) ≡ memory_slot os u b
      go None e = rw (units_past names names os u e, e) refl
      go (Some o) e =
          let here = stored_at names names os u o are e in
          ap (memory_in (machine os)) (name_here u b here.0 here.1)
          ∙ rw (units_at names names os u here.0 o here.1 e, e) (memory_by here.0 o b here.2)

  pub memory_written : (os : List UnitObjects) (u i : ℕ) (o : UnitObjects) (new : MemoryCell) → AreStored names os → slice_get os u ≡ Some o
      → with_memory (machine os) (address_of names (at u (object.Memory i))) (memory_of new) ≡ machine (slice_set os u (with_cell o i new))
  memory_written os u i o new are e =
      let here = stored_at names names os u o are e in
      let n = here.0 in
      let is = here.2 in
      ap (λ a. with_memory (machine os) a (memory_of new)) (name_here u (object.Memory i) n here.1)
      ∙ rw (units_at names names os u n o here.1 e, with_objects)
      (ap (λ units. record { depth = depth; units = units; trail = trail })
      (ap (λ memories. slice_set (units_of names names os) u
      (record { vars = (objects_of names n o).vars; memories = memories; tables = (objects_of names n o).tables }))
      (set_at n.memories (map memory_of o.memories.items) i (memory_of new) is.memories
      (is.memories_count ∙ sym (length-map o.memories.items memory_of))
      ∙ ap (zip n.memories) (set_mapped memory_of o.memories.items i new))
      ∙ units_set names names os u n (with_cell o i new) here.1))

  table_by : (n : UnitNames) (o : UnitObjects) (b : Object) → IsStored n o
      → named (object_name n b) (zip n.tables (map (table_of names) o.tables.items))
      ≡ (elim b [
        | object.Variable i ↦ None
        | object.Memory i ↦ None
        | object.Table i ↦ option_map (table_of names) (slice_get o.tables.items i)
      ])
  table_by n o (object.Variable i) is = no_such (get_or n.vars i []) n.tables (map (table_of names) o.tables.items)
      (apart_left n.vars n.tables i is.vars_tables is.tables)
  table_by n o (object.Memory i) is = no_such (get_or n.memories i []) n.tables (map (table_of names) o.tables.items)
      (apart_left n.memories n.tables i is.memories_tables is.tables)
  table_by n o (object.Table i) is =
      named_at n.tables (map (table_of names) o.tables.items) i is.tables
      (is.tables_count ∙ sym (length-map o.tables.items (table_of names)))
      ∙ slice_get-map (table_of names) o.tables.items i

  pub table_found : (os : List UnitObjects) (u : ℕ) (b : Object) → AreStored names os
      → table_in (machine os) (address_of names (at u b)) ≡ table_slot names os u b
  table_found os u b are = go (slice_get os u) refl
    where
      go : (o : Option UnitObjects) → slice_get os u ≡ o → table_in (machine os) (address_of names (at u b)) ≡ table_slot names os u b
      go None e = rw (units_past names names os u e, e) refl
      go (Some o) e =
          let here = stored_at names names os u o are e in
          ap (table_in (machine os)) (name_here u b here.0 here.1)
          ∙ rw (units_at names names os u here.0 o here.1 e, e) (table_by here.0 o b here.2)

  pub table_written : (os : List UnitObjects) (u i : ℕ) (o : UnitObjects) (new : TableCell) → AreStored names os → slice_get os u ≡ Some o
      → with_table (machine os) (address_of names (at u (object.Table i))) (table_of names new)
      ≡ machine (slice_set os u (with_table_cell o i new))
  table_written os u i o new are e =
      let here = stored_at names names os u o are e in
      let n = here.0 in
      let is = here.2 in
      ap (λ a. with_table (machine os) a (table_of names new)) (name_here u (object.Table i) n here.1)
      ∙ rw (units_at names names os u n o here.1 e, with_objects)
      (ap (λ units. record { depth = depth; units = units; trail = trail })
      (ap (λ tables. slice_set (units_of names names os) u
      (record { vars = (objects_of names n o).vars; memories = (objects_of names n o).memories; tables = tables }))
      (set_at n.tables (map (table_of names) o.tables.items) i (table_of names new) is.tables
      (is.tables_count ∙ sym (length-map o.tables.items (table_of names)))
      ∙ ap (zip n.tables) (set_mapped (table_of names) o.tables.items i new))
      ∙ units_set names names os u n (with_table_cell o i new) here.1))

  -- what a call does where no memory stands, and where one stands
  pub memory_missing : (os : List UnitObjects) (o : ObjectId) (call : MemoryCall) → AreStored names os
      → memory_slot os o.unit o.object ≡ None
      → memory_effect call (Pointer (Some (address_of names o))) (machine os) ≡ NoEffect
  memory_missing os o call are e = no_memory_effect names (machine os) (address_of names o) call (memory_found os o.unit o.object are ∙ e)

  pub table_missing : (os : List UnitObjects) (o : ObjectId) (call : TableCall) → AreStored names os
      → table_slot names os o.unit o.object ≡ None
      → table_effect names call (Pointer (Some (address_of names o))) (machine os) ≡ NoEffect
  table_missing os o call are e = no_table_effect names (machine os) (address_of names o) call (table_found os o.unit o.object are ∙ e)

  var_by : (n : UnitNames) (o : UnitObjects) (b : Object) → IsStored n o
      → named (object_name n b) (zip n.vars (map (value_of names) o.vars.items))
      ≡ option_map (value_of names) (elim b [
        | object.Variable i ↦ slice_get o.vars.items i
        | object.Memory i ↦ None
        | object.Table i ↦ None
      ])
  var_by n o (object.Variable i) is =
      named_at n.vars (map (value_of names) o.vars.items) i is.vars (is.vars_count ∙ sym (length-map o.vars.items (value_of names)))
      ∙ slice_get-map (value_of names) o.vars.items i
  var_by n o (object.Memory i) is = no_such (get_or n.memories i []) n.vars (map (value_of names) o.vars.items)
      (apart_right n.vars n.memories i is.vars_memories is.vars)
  var_by n o (object.Table i) is = no_such (get_or n.tables i []) n.vars (map (value_of names) o.vars.items)
      (apart_right n.vars n.tables i is.vars_tables is.vars)

  pub var_found : (os : List UnitObjects) (o : ObjectId) → AreStored names os
      → var_in (machine os) (address_of names o) ≡ option_map (value_of names) (var_at os o)
  var_found os o are = go (slice_get os o.unit) refl
    where
      go : (x : Option UnitObjects) → slice_get os o.unit ≡ x
          → var_in (machine os) (address_of names o) ≡ option_map (value_of names) (var_at os o)
      go None e = rw (units_past names names os o.unit e, e) refl
      go (Some x) e =
          let here = stored_at names names os o.unit x are e in
          ap (var_in (machine os)) (name_here o.unit o.object here.0 here.1)
          ∙ rw (units_at names names os o.unit here.0 x here.1 e, e) (var_by here.0 x o.object here.2)

  pub var_written : (os : List UnitObjects) (u i : ℕ) (o : UnitObjects) (new : Held) → AreStored names os → slice_get os u ≡ Some o
      → with_var (machine os) (address_of names (at u (object.Variable i))) (value_of names new)
      ≡ machine (slice_set os u (with_var_cell o i new))
  var_written os u i o new are e =
      let here = stored_at names names os u o are e in
      let n = here.0 in
      let is = here.2 in
      ap (λ a. with_var (machine os) a (value_of names new)) (name_here u (object.Variable i) n here.1)
      ∙ rw (units_at names names os u n o here.1 e, with_objects)
      (ap (λ units. record { depth = depth; units = units; trail = trail })
      (ap (λ vars. slice_set (units_of names names os) u
      (record { vars = vars; memories = (objects_of names n o).memories; tables = (objects_of names n o).tables }))
      (set_at n.vars (map (value_of names) o.vars.items) i (value_of names new) is.vars
      (is.vars_count ∙ sym (length-map o.vars.items (value_of names)))
      ∙ ap (zip n.vars) (set_mapped (value_of names) o.vars.items i new))
      ∙ units_set names names os u n (with_var_cell o i new) here.1))

  -- an object that is kept leaves the machine
  pub memory_back : (os : List UnitObjects) (u i : ℕ) (o : UnitObjects) (old new : MemoryCell) → AreStored names os
      → slice_get os u ≡ Some o → slice_get o.memories.items i ≡ Some old
      → new ≡ old → machine (slice_set os u (with_cell o i new)) ≡ machine os
  memory_back os u i o old new are e here same =
      let a = address_of names (at u (object.Memory i)) in
      sym (memory_written os u i o new are e)
      ∙ ap (λ c. with_memory (machine os) a (memory_of c)) same
      ∙ memory_kept (machine os) a (memory_of old) (memory_found os u (object.Memory i) are ∙ rw (e, here) refl)

  pub table_back : (os : List UnitObjects) (u i : ℕ) (o : UnitObjects) (old new : TableCell) → AreStored names os
      → slice_get os u ≡ Some o → slice_get o.tables.items i ≡ Some old
      → new ≡ old → machine (slice_set os u (with_table_cell o i new)) ≡ machine os
  table_back os u i o old new are e here same =
      let a = address_of names (at u (object.Table i)) in
      sym (table_written os u i o new are e)
      ∙ ap (λ c. with_table (machine os) a (table_of names c)) same
      ∙ table_kept (machine os) a (table_of names old) (table_found os u (object.Table i) are ∙ rw (e, here) refl)
