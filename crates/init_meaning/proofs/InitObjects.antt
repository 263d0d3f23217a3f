-- The tables, memories and globals that an init function reaches by their index (WebAssembly Core 1.0, 2.5.1),
-- and the values of initial and offset expressions (3.3.7).
use Rattle.alike.proofs.LookUps.{memory_is_object, table_is_object}
use Rattle.wasm_meaning.specs.Store as store
use Rattle.c_tree.specs.Tree as c
use Rattle.c_meaning.specs.State as state
use Rattle.c_meaning.specs.Machine as machine
use Rattle.init_meaning.proofs.Common.{◌≡◌, ℕ, ◌+◌, ◌<◌, true, List, length, is_some, if◌then◌else◌, slice_get, Some, None, Option}
use Rattle.init_meaning.proofs.Common.{sym, refl, ap, ◌∙◌, subst, same_Some, if_found, named, Trail, IsNumber, type_of, types_of, ValType}
use Rattle.init_meaning.proofs.Common.{Value, imported_globals, GlobalEntry, Import, Module, GlobalAddress, LinkedSet, global_at, module_at}
use Rattle.init_meaning.proofs.Common.{first_global, global_name, memory_name, table_name, global_imports, memory_imports, table_imports}
use Rattle.init_meaning.proofs.Common.{is_there, value_of_type, global_object, global_seen, memory_object, table_object, Agrees, AreReady}
use Rattle.init_meaning.proofs.Common.{PointersAreSet, PointsTo, pointer_name, global_value, get_mapped, memory_arg, table_arg}
use Rattle.init_meaning.proofs.InitStatements.{Seat, Evaluates, Gets}
use Rattle.init_meaning.specs.Owners.{TableOwner, MemoryOwner, GlobalOwner}

-- ---- in the store

pub table_there : (s : LinkedSet) (count : ℕ) (m : state.Machine) (made : store.Store) (owner : ℕ) (tree : Module)
    → AreReady s count m made → owner < count → module_at s owner ≡ Some tree → 0 < length tree.tables
    → (table : store.Table) × (store.table_in made owner ≡ Some table)
table_there s count m made owner tree ready less is some =
    let r = ready.objects owner tree less is in
    let t = is_there r.0.table (r.2.table 0 some) in
    (t.0, ap (λ (found : Option store.Objects). if_found found (λ o. o.table)) r.1 ∙ t.1)

pub memory_there : (s : LinkedSet) (count : ℕ) (m : state.Machine) (made : store.Store) (owner : ℕ) (tree : Module)
    → AreReady s count m made → owner < count → module_at s owner ≡ Some tree → 0 < length tree.memories
    → (memory : store.Memory) × (store.memory_in made owner ≡ Some memory)
memory_there s count m made owner tree ready less is some =
    let r = ready.objects owner tree less is in
    let t = is_there r.0.memory (r.2.memory 0 some) in
    (t.0, ap (λ (found : Option store.Objects). if_found found (λ o. o.memory)) r.1 ∙ t.1)

pub global_there : (s : LinkedSet) (count : ℕ) (m : state.Machine) (made : store.Store) (g : GlobalAddress) (tree : Module)
    (entry : GlobalEntry) → AreReady s count m made → g.owner < count → module_at s g.owner ≡ Some tree
    → slice_get tree.globals g.number ≡ Some entry → (v : Value) × (store.global_in made g ≡ Some v) × (type_of v ≡ entry.ty)
global_there s count m made g tree entry ready less is at =
    let r = ready.objects g.owner tree less is in
    let types : slice_get (types_of r.0.globals) g.number ≡ Some entry.ty =
    ap (λ ts. slice_get ts g.number) r.2.globals ∙ get_mapped (λ (g : GlobalEntry). g.ty) tree.globals g.number entry at in
    let v = value_of_type r.0.globals g.number entry.ty types in
    (v.0, ap (λ (found : Option store.Objects). if_found found (λ o. slice_get o.globals g.number)) r.1 ∙ v.1, v.2)

-- ---- from C

pub pointer_gets : (g : Seat) (m : state.Machine) (vars : state.Vars) (object : state.Name) (a : state.ObjectAddress)
    → named (pointer_name object) vars ≡ None → PointsTo m g.unit object a
    → Gets g m vars (c.Value (c.Name (pointer_name object))) (state.Pointer (Some a))
pointer_gets g m vars object a none set rest = rw (none, set) refl

pub address_gets : (g : Seat) (m : state.Machine) (vars : state.Vars) (object : state.Name)
    → machine.is_object m (record { unit = g.unit; name = object }) ≡ true
    → Gets g m vars (c.Address object) (state.Pointer (Some (record { unit = g.unit; name = object })))
address_gets g m vars object is rest = rw is refl

-- the argument that points to an object: its name where no import brings it, and else its pointer
object_gets : (g : Seat) (m : state.Machine) (vars : state.Vars) (imports : List Import) (name : state.Name) (owner : ℕ)
    → (slice_get imports 0 ≡ None → owner ≡ g.unit)
    → ((i : Import) → slice_get imports 0 ≡ Some i → PointsTo m g.unit name (record { unit = owner; name = name }))
    → named (pointer_name name) vars ≡ None → machine.is_object m (record { unit = owner; name = name }) ≡ true
    → Gets g m vars (if is_some (slice_get imports 0) then c.Value (c.Name (pointer_name name)) else c.Address name)
    (state.Pointer (Some (record { unit = owner; name = name })))
object_gets g m vars imports name owner own points hidden object = go (slice_get imports 0) refl
  where
    go : (found : Option Import) → slice_get imports 0 ≡ found
        → Gets g m vars (if is_some found then c.Value (c.Name (pointer_name name)) else c.Address name)
        (state.Pointer (Some (record { unit = owner; name = name })))
    go None is = rw (own is) (address_gets g m vars name (rw (own is) at object))
    go (Some i) is = pointer_gets g m vars name (record { unit = owner; name = name }) hidden (points i is)

pub table_gets : (s : LinkedSet) (g : Seat) (tree : Module) (m : state.Machine) (vars : state.Vars) (o : TableOwner s g.unit tree)
    (other : state.Table) → ((object : state.Name) → named (pointer_name object) vars ≡ None) → PointersAreSet s g.unit tree m
    → machine.table_in m (table_object o.owner) ≡ Some other → Gets g m vars (table_arg tree) (state.Pointer (Some (table_object o.owner)))
table_gets s g tree m vars o other seen set there = object_gets g m vars (table_imports tree) table_name o.owner o.own
    (λ i is. let r = set.table i is in
    rw (same_Some r.0 o.owner (sym r.1 ∙ o.owner_is)) at r.2) (seen table_name) (table_is_object m (table_object o.owner) other there)

pub memory_gets : (s : LinkedSet) (g : Seat) (tree : Module) (m : state.Machine) (vars : state.Vars) (o : MemoryOwner s g.unit tree)
    (other : state.Memory) → ((object : state.Name) → named (pointer_name object) vars ≡ None) → PointersAreSet s g.unit tree m
    → machine.memory_in m (memory_object o.owner) ≡ Some other
    → Gets g m vars (memory_arg tree) (state.Pointer (Some (memory_object o.owner)))
memory_gets s g tree m vars o other seen set there = object_gets g m vars (memory_imports tree) memory_name o.owner o.own
    (λ i is. let r = set.memory i is in
    rw (same_Some r.0 o.owner (sym r.1 ∙ o.owner_is)) at r.2) (seen memory_name) (memory_is_object m (memory_object o.owner) other there)

-- ---- globals

own_evaluates : (g : Seat) (m : state.Machine) (vars : state.Vars) (index : ℕ) (v : Value)
    → named (global_name index) vars ≡ None → machine.var_in m (record { unit = g.unit; name = global_name index }) ≡ Some (state.Number v)
    → Evaluates g m vars (c.Name (global_name index)) v
own_evaluates g m vars index v none is rest = rw (none, is) refl

star_evaluates : (g : Seat) (m : state.Machine) (vars : state.Vars) (object : state.Name) (a : state.ObjectAddress) (v : Value)
    → named (pointer_name object) vars ≡ None → PointsTo m g.unit object a → machine.var_in m a ≡ Some (state.Number v)
    → Evaluates g m vars (c.Star (pointer_name object)) v
star_evaluates g m vars object a v none set is rest = rw (none, set, is) refl

-- what a global's value is in both
pub record GlobalFound (s : LinkedSet) (g : Seat) (tree : Module) (m : state.Machine) (made : store.Store) (vars : state.Vars) (index : ℕ)
    (t : ValType) : Type 0 where
  pub value : Value
  pub is : if_found (global_at s g.unit index) (store.global_in made) ≡ Some value
  pub typed : type_of value ≡ t
  pub is_number : IsNumber value
  pub evaluates : Evaluates g m vars (global_value tree index) value

pub global_found : (s : LinkedSet) (g : Seat) (tree : Module) (m : state.Machine) (made : store.Store) (trail : Trail) (vars : state.Vars)
    (index count : ℕ) (t : ValType) → module_at s g.unit ≡ Some tree → (o : GlobalOwner s g.unit tree index t) → o.global.owner < count
    → Agrees g.program s m made trail → AreReady s count m made → PointersAreSet s g.unit tree m
    → ((object : state.Name) → named (pointer_name object) vars ≡ None) → ((k : ℕ) → named (global_name k) vars ≡ None)
    → GlobalFound s g tree m made vars index t
global_found s g tree m made trail vars index count t tree_is o less agrees ready set pointers_seen globals_seen = record {
  value = v.0;
  is = ap (λ (a : Option GlobalAddress). if_found a (store.global_in made)) o.global_is ∙ v.1;
  typed = v.2 ∙ o.typed;
  is_number = r.1;
  evaluates = go (slice_get (global_imports tree) index) refl;
}
  where
    v : (v : Value) × (store.global_in made o.global ≡ Some v) × (type_of v ≡ o.entry.ty)
    v = global_there s count m made o.global o.owner_tree o.entry ready less o.owner_tree_is o.entry_is

    r : (machine.var_in m (global_object s o.global) ≡ Some (state.Number v.0)) × IsNumber v.0
    r = global_seen g.program s m made trail o.global v.0 agrees v.1

    go : (found : Option Import) → slice_get (global_imports tree) index ≡ found → Evaluates g m vars
        (if is_some found then c.Star (pointer_name (global_name index)) else c.Name (global_name index)) v.0
    go None is =
        let own = o.own is in
        let first : first_global s o.global.owner ≡ imported_globals tree =
        ap (first_global s) own.0 ∙ ap (λ (found : Option Module). elim found [ None ↦ 0 | Some m ↦ imported_globals m ]) tree_is in
        let number : first_global s o.global.owner + o.global.number ≡ index = ap (λ k. k + o.global.number) first ∙ sym own.1 in
        own_evaluates g m vars index v.0 (globals_seen index)
        (subst (λ k. machine.var_in m (record { unit = g.unit; name = global_name k }) ≡ Some (state.Number v.0)) number
        (subst (λ k. machine.var_in m (record { unit = k; name = global_name (first_global s o.global.owner + o.global.number) })
        ≡ Some (state.Number v.0)) own.0 r.0))
    go (Some i) is =
        let p = set.globals index i is in
        star_evaluates g m vars (global_name index) (global_object s o.global) v.0 (pointers_seen (global_name index))
        (subst (λ a. PointsTo m g.unit (global_name index) (global_object s a)) (same_Some p.0 o.global (sym p.1 ∙ o.global_is)) p.2) r.0
