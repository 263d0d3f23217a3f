-- A store and a machine that agrees with it, where the objects of one module and those of its unit change alike.
use Rattle.alike.proofs.Common.{◌≡◌, ℕ, zero, suc, ◌+◌, ◌^◌, ◌<◌, true, ◌≢◌, List, [], ◌∷◌, length, is_some, slice_get, slice_set, Some}
use Rattle.alike.proofs.Common.{None, Option, sym, refl, ap, ◌∙◌, subst, arith, none-some, same_Some, slice_get_within, AllByRecursion}
use Rattle.alike.proofs.Common.{all_at, if_found, named, with_named, Trail, IsNumber, type_of, Value, all_set, unseen, still_there}
use Rattle.alike.proofs.Common.{still_all, Module, global_name, memory_name, table_name, pointer_name, GlobalAddress, LinkedSet}
use Rattle.alike.proofs.Common.{named-with_another, named-with_named, Program, GlobalsAlike, first_global, Agrees, IsCallableIfAny, IsMade}
use Rattle.alike.proofs.Common.{MemoriesAgree, MemoryAgrees, ObjectsAgree, PointersAreSet, StoresAgree, TableAgrees, TablesAgree, Together}
use Rattle.alike.proofs.Common.{global_object, memory_object, table_object}
use Rattle.wasm_meaning.specs.Store as store
use Rattle.c_meaning.specs.State as state
use Rattle.c_meaning.specs.Machine as machine
use Rattle.alike.proofs.LookUps.{types_set}
use Rattle.alike.proofs.ObjectNames.{global_at_another_place, global_is_no_pointer}

-- ---- the objects of a module and of its unit

objects_from : (p : Program) (s : LinkedSet) (q k : ℕ) (made : store.Store) (units : List state.Objects) (o : store.Objects)
    → StoresAgree p s q made units → slice_get made k ≡ Some o
    → (u : state.Objects) × (slice_get units k ≡ Some u) × ObjectsAgree p s (k + q) o u
objects_from p s q k [] units o a e = absurd (none-some o e)
objects_from p s q k (x ∷ made) [] o a e = absurd a
objects_from p s q zero (x ∷ made) (u ∷ units) o a e =
    let at : q ≡ 0 + q = omega arith in
    (u, refl, subst (λ x. ObjectsAgree p s (0 + q) x u) (same_Some x o e) (subst (λ i. ObjectsAgree p s i x u) at a.0))
objects_from p s q (suc k) (x ∷ made) (y ∷ units) o a e =
    let r = objects_from p s (suc q) k made units o a.1 e in
    let at : k + suc q ≡ suc k + q = omega arith in
    (r.0, r.1, subst (λ i. ObjectsAgree p s i o r.0) at r.2)

stores_set : (p : Program) (s : LinkedSet) (q k : ℕ) (made : store.Store) (units : List state.Objects) (o : store.Objects)
    (u : state.Objects)
    → StoresAgree p s q made units → ObjectsAgree p s (k + q) o u → StoresAgree p s q (slice_set made k o) (slice_set units k u)
stores_set p s q k [] [] o u a new = tt
stores_set p s q k [] (y ∷ units) o u a new = absurd a
stores_set p s q k (x ∷ made) [] o u a new = absurd a
stores_set p s q zero (x ∷ made) (y ∷ units) o u a new = let at : 0 + q ≡ q = omega arith in
    (subst (λ i. ObjectsAgree p s i o u) at new, a.1)
stores_set p s q (suc k) (x ∷ made) (y ∷ units) o u a new =
    let at : suc k + q ≡ k + suc q = omega arith in
    (a.0, stores_set p s (suc q) k made units o u a.1 (subst (λ i. ObjectsAgree p s i o u) at new))

-- where a module has objects its unit has them too, and they agree
pub objects_at : (p : Program) (s : LinkedSet) (m : state.Machine) (made : store.Store) (trail : Trail) (k : ℕ) (o : store.Objects)
    → Agrees p s m made trail → slice_get made k ≡ Some o → (u : state.Objects) × (slice_get m.units k ≡ Some u) × ObjectsAgree p s k o u
objects_at p s m made trail k o a e =
    let r = objects_from p s 0 k made m.units o a.objects e in
    let at : k + 0 ≡ k = omega arith in
    (r.0, r.1, subst (λ i. ObjectsAgree p s i o r.0) at r.2)

-- ---- a change

-- What keeps machine and store together: the new objects agree, the unit's pointers are as before, what is made stays, and the
-- table holds functions that may be called.
pub record Changed (p : Program) (s : LinkedSet) (count k : ℕ) (o new : store.Objects) (u other : state.Objects) : Type 0 where
  pub agree : ObjectsAgree p s k new other
  pub pointers : (object : state.Name) → named (pointer_name object) other.vars ≡ named (pointer_name object) u.vars
  pub made : (tree : Module) → IsMade tree o → IsMade tree new
  pub elements : (table : store.Table) → new.table ≡ Some table → AllByRecursion (IsCallableIfAny s count) table.elements

abbrev pub with_unit : state.Machine → ℕ → state.Objects → state.Machine
with_unit m k u = record { depth = m.depth; units = slice_set m.units k u; trail = m.trail }

pub agrees_set : (p : Program) (s : LinkedSet) (m : state.Machine) (made : store.Store) (trail : Trail) (k : ℕ) (new : store.Objects)
    (other : state.Objects)
    → ObjectsAgree p s k new other → Agrees p s m made trail → Agrees p s (with_unit m k other) (slice_set made k new) trail
agrees_set p s m made trail k new other agree a =
    let at : k ≡ k + 0 = omega arith in
    record {
      objects = stores_set p s 0 k made m.units new other a.objects (subst (λ i. ObjectsAgree p s i new other) at agree);
      same_trail = a.same_trail;
    }

-- a module's pointers stay set where their variables are as before
pub pointers_kept : (s : LinkedSet) (v : ℕ) (tree : Module) (m after : state.Machine)
    → ((object : state.Name) → machine.var_in after (record { unit = v; name = pointer_name object }) ≡ machine.var_in m
    (record { unit = v; name = pointer_name object }))
    → PointersAreSet s v tree m → PointersAreSet s v tree after
pointers_kept s v tree m after same set = record {
  memory = λ i h. let r = set.memory i h in (r.0, r.1, same memory_name ∙ r.2);
  table = λ i h. let r = set.table i h in (r.0, r.1, same table_name ∙ r.2);
  globals = λ j i h. let r = set.globals j i h in (r.0, r.1, same (global_name j) ∙ r.2);
}

pub together_set : (p : Program) (s : LinkedSet) (count depth : ℕ) (m : state.Machine) (made : store.Store) (trail : Trail) (k : ℕ)
    (o new : store.Objects) (u other : state.Objects)
    → slice_get made k ≡ Some o → slice_get m.units k ≡ Some u → Changed p s count k o new u other
    → Together p s count depth m made trail → Together p s count depth (with_unit m k other) (slice_set made k new) trail
together_set p s count depth m made trail k o new u other at unit c t = record {
  agrees = agrees_set p s m made trail k new other c.agree t.agrees;
  ready = record {
    pointers = λ v tree less is. pointers_kept s v tree m (with_unit m k other)
        (λ object. unseen (λ (o : state.Objects). named (pointer_name object) o.vars) m.units k v u other unit (c.pointers object))
        (t.ready.pointers v tree less is);
    objects = λ v tree less is. let r = t.ready.objects v tree less is in
        still_there (IsMade tree) made k v o new r.0 at (c.made tree) r.1 r.2;
    elements = λ v. still_all (λ (table : store.Table). AllByRecursion (IsCallableIfAny s count) table.elements)
        (λ (o : store.Objects). o.table) made k v new c.elements (t.ready.elements v);
  };
  depth_is = t.depth_is;
}

pub store_is : (made : store.Store) (k : ℕ) (o : store.Objects) (change : store.Objects → store.Objects) → slice_get made k ≡ Some o
    → store.with_objects made k change ≡ slice_set made k (change o)
store_is made k o change e = ap (λ (found : Option store.Objects). elim found [ None ↦ made | Some o ↦ slice_set made k (change o) ]) e

pub machine_is : (m : state.Machine) (k : ℕ) (u : state.Objects) (change : state.Objects → state.Objects) → slice_get m.units k ≡ Some u
    → machine.with_objects m k change ≡ with_unit m k (change u)
machine_is m k u change e = ap (λ (found : Option state.Objects). elim found [ None ↦ m | Some o ↦ with_unit m k (change o) ]) e

pub together_changed : (p : Program) (s : LinkedSet) (count depth : ℕ) (m : state.Machine) (made : store.Store) (trail : Trail) (k : ℕ)
    (o : store.Objects) (change : store.Objects → store.Objects) (u : state.Objects) (changes : state.Objects → state.Objects)
    → slice_get made k ≡ Some o → slice_get m.units k ≡ Some u → Changed p s count k o (change o) u (changes u)
    → Together p s count depth m made trail → Together p s count depth (machine.with_objects m k changes)
    (store.with_objects made k change) trail
together_changed p s count depth m made trail k o change u changes at unit c t =
    subst (λ n. Together p s count depth n (store.with_objects made k change) trail) (sym (machine_is m k u changes unit))
    (subst (λ made. Together p s count depth (with_unit m k (changes u)) made trail) (sym (store_is made k o change at))
    (together_set p s count depth m made trail k o (change o) u (changes u) at unit c t))

-- a table that is not changed holds what it held
pub elements_kept : (p : Program) (s : LinkedSet) (count depth : ℕ) (m : state.Machine) (made : store.Store) (trail : Trail) (k : ℕ)
    (o : store.Objects)
    → slice_get made k ≡ Some o → Together p s count depth m made trail
    → (table : store.Table) → o.table ≡ Some table → AllByRecursion (IsCallableIfAny s count) table.elements
elements_kept p s count depth m made trail k o at t table is =
    t.ready.elements k table (ap (λ (found : Option store.Objects). if_found found (λ o. o.table)) at ∙ is)

-- ---- a global

globals_past : (k j : ℕ) (v : Value) (globals : List Value) (vars : state.Vars) → j < k → length globals + k < 2 ^ 64
    → GlobalsAlike k globals vars → GlobalsAlike k globals (with_named (global_name j) (state.Number v) vars)
globals_past k j v [] vars less few all = tt
globals_past k j v (x ∷ globals) vars less few all =
    let differ : global_name k ≢ global_name j = global_at_another_place k j (omega arith) (omega arith) (omega arith) in (
      named-with_another (global_name k) (global_name j) (state.Number v) vars differ
          ∙ all.0,
      globals_past (suc k) j v globals vars (omega arith) (omega arith) all.1,
    )

globals_set : (k n j : ℕ) (v old : Value) (globals : List Value) (vars : state.Vars) → j ≡ k + n → length globals + k < 2 ^ 64
    → slice_get globals n ≡ Some old → GlobalsAlike k globals vars
    → GlobalsAlike k (slice_set globals n v) (with_named (global_name j) (state.Number v) vars)
globals_set k n j v old [] vars at few e all = absurd (none-some old e)
globals_set k zero j v old (x ∷ globals) vars at few e all =
    let same : k ≡ j = omega arith in
    let there : is_some (named (global_name k) vars) ≡ true = ap is_some all.0 in
    let set : named (global_name k) (with_named (global_name k) (state.Number v) vars) ≡ Some (state.Number v) =
    named-with_named (global_name k) (state.Number v) vars there in (
      subst (λ i. named (global_name k) (with_named (global_name i) (state.Number v) vars) ≡ Some (state.Number v)) same set,
      globals_past
          (suc k) j v globals vars (omega arith) (omega arith) all.1,
    )
globals_set k (suc n) j v old (x ∷ globals) vars at few e all =
    let within = slice_get_within globals n old e in
    let differ : global_name k ≢ global_name j = global_at_another_place k j (omega arith) (omega (arith, within)) (omega arith) in (
      named-with_another (global_name k) (global_name j) (state.Number v) vars differ
          ∙ all.0,
      globals_set (suc k) n j v old globals vars (omega arith) (omega arith) e all.1,
    )

-- a global's value is that of its variable
globals_at : (k n : ℕ) (v : Value) (globals : List Value) (vars : state.Vars) → slice_get globals n ≡ Some v → GlobalsAlike k globals vars
    → named (global_name (k + n)) vars ≡ Some (state.Number v)
globals_at k n v [] vars e all = absurd (none-some v e)
globals_at k zero v (x ∷ globals) vars e all =
    let at : k ≡ k + 0 = omega arith in subst (λ i. named (global_name i) vars ≡ Some (state.Number v)) at
    (all.0 ∙ ap (λ x. Some (state.Number x)) (same_Some x v e))
globals_at k (suc n) v (x ∷ globals) vars e all =
    let at : suc k + n ≡ k + suc n = omega arith in
    subst (λ i. named (global_name i) vars ≡ Some (state.Number v)) at (globals_at (suc k) n v globals vars e all.1)

-- the module has so many globals that their names differ
abbrev pub AreFew : LinkedSet → ℕ → store.Objects → Type 0
AreFew s owner o = length o.globals + first_global s owner < 2 ^ 64

-- what is found where a module has objects with something in them
objects_with : {B : Type 0} (made : store.Store) (k : ℕ) (f : store.Objects → Option B) (b : B) → if_found (slice_get made k) f ≡ Some b
    → (o : store.Objects) × (slice_get made k ≡ Some o) × (f o ≡ Some b)
objects_with made k f b e = go (slice_get made k) refl e
  where
    go : (found : Option store.Objects) → slice_get made k ≡ found → if_found found f ≡ Some b
        → (o : store.Objects) × (slice_get made k ≡ Some o) × (f o ≡ Some b)
    go None is e = absurd (none-some b e)
    go (Some o) is e = (o, is, e)

pub global_seen : (p : Program) (s : LinkedSet) (m : state.Machine) (made : store.Store) (trail : Trail) (g : GlobalAddress) (v : Value)
    → Agrees p s m made trail → store.global_in made g ≡ Some v
    → (machine.var_in m (global_object s g) ≡ Some (state.Number v)) × IsNumber v
global_seen p s m made trail g v a e =
    let has = objects_with made g.owner (λ o. slice_get o.globals g.number) v e in
    let r = objects_at p s m made trail g.owner has.0 a has.1 in
    let name = global_name (first_global s g.owner + g.number) in (
      ap (λ (found : Option state.Objects). if_found found (λ o. named name o.vars)) r.1
          ∙ globals_at (first_global s g.owner) g.number v has.0.globals r.0.vars has.2 r.2.globals,
      all_at IsNumber has.0.globals g.number v r.2.are_numbers has.2,
    )

pub together_global : (p : Program) (s : LinkedSet) (count depth : ℕ) (m : state.Machine) (made : store.Store) (trail : Trail)
    (g : GlobalAddress) (v old : Value)
    → store.global_in made g ≡ Some old → ((o : store.Objects) → slice_get made g.owner ≡ Some o → AreFew s g.owner o)
    → type_of v ≡ type_of old → IsNumber v → Together p s count depth m made trail
    → Together p s count depth (machine.with_var m (global_object s g) (state.Number v)) (store.with_global made g v) trail
together_global p s count depth m made trail g v old e few same number t =
    let has = objects_with made g.owner (λ o. slice_get o.globals g.number) old e in
    let r = objects_at p s m made trail g.owner has.0 t.agrees has.1 in
    let n = first_global s g.owner + g.number in
    let vars : state.Vars = with_named (global_name n) (state.Number v) r.0.vars in
    together_changed p s count depth m made trail g.owner has.0
    (λ o. record { memory = o.memory; table = o.table; globals = slice_set o.globals g.number v })
    r.0
    (λ o. record { vars = with_named (global_name n) (state.Number v) o.vars; memories = o.memories; tables = o.tables })
    has.1 r.1
    (record {
      agree = record {
        memory = r.2.memory;
        table = r.2.table;
        globals = globals_set (first_global s g.owner) g.number n v old has.0.globals r.0.vars refl (few has.0 has.1) has.2 r.2.globals;
        are_numbers = all_set IsNumber has.0.globals g.number v number r.2.are_numbers;
      };
      pointers = λ object. named-with_another (pointer_name object) (global_name n) (state.Number v) r.0.vars
          (λ e. global_is_no_pointer n object (sym e));
      made = λ tree h. record {
        memory = h.memory;
        table = h.table;
        globals = types_set has.0.globals g.number v old has.2 same
            ∙ h.globals;
      };
      elements = elements_kept p s count depth m made trail g.owner has.0 has.1 t;
    })
    t

-- ---- a memory

-- what a unit has under a name, where it has a memory or a table there
seen_in : {B : Type 0} (units : List state.Objects) (k : ℕ) (f : state.Objects → Option B) (b : B) (u : state.Objects)
    → if_found (slice_get units k) f ≡ Some b → slice_get units k ≡ Some u → f u ≡ Some b
seen_in units k f b u e at = sym (ap (λ (found : Option state.Objects). if_found found f) at) ∙ e

memories_set : (memories : List (state.Name × state.Memory)) (x other : state.Memory) (new : store.Memory)
    → named memory_name memories ≡ Some x → MemoryAgrees new other
    → MemoriesAgree (Some new) (named memory_name (with_named memory_name other memories))
memories_set memories x other new e agree =
    subst (λ found. MemoriesAgree (Some new) found) (sym (named-with_named memory_name other memories (ap is_some e))) agree

-- a memory is made, or another in place of the one that was there
pub together_memory : (p : Program) (s : LinkedSet) (count depth : ℕ) (m : state.Machine) (made : store.Store) (trail : Trail) (owner : ℕ)
    (o : store.Objects) (x other : state.Memory) (new : store.Memory)
    → slice_get made owner ≡ Some o → machine.memory_in m (memory_object owner) ≡ Some x → MemoryAgrees new other
    → Together p s count depth m made trail
    → Together p s count depth (machine.with_memory m (memory_object owner) other) (store.with_memory made owner new) trail
together_memory p s count depth m made trail owner o x other new at e agree t =
    let r = objects_at p s m made trail owner o t.agrees at in
    together_changed p s count depth m made trail owner o
    (λ o. record { memory = Some new; table = o.table; globals = o.globals })
    r.0
    (λ o. record { vars = o.vars; memories = with_named memory_name other o.memories; tables = o.tables })
    at r.1
    (record {
      agree = record {
        memory = memories_set r.0.memories x other new (seen_in m.units owner (λ o. named memory_name o.memories) x r.0 e r.1) agree;
        table = r.2.table;
        globals = r.2.globals;
        are_numbers = r.2.are_numbers;
      };
      pointers = λ object. refl;
      made = λ tree h. record { memory = λ i less. refl; table = h.table; globals = h.globals };
      elements = elements_kept p s count depth m made trail owner o at t;
    })
    t

-- a memory that is made stands in its unit
pub memory_seen : (p : Program) (s : LinkedSet) (m : state.Machine) (made : store.Store) (trail : Trail) (owner : ℕ) (memory : store.Memory)
    → Agrees p s m made trail → store.memory_in made owner ≡ Some memory
    → (other : state.Memory) × (machine.memory_in m (memory_object owner) ≡ Some other) × MemoryAgrees memory other
memory_seen p s m made trail owner memory a e =
    let has = objects_with made owner (λ o. o.memory) memory e in
    let r = objects_at p s m made trail owner has.0 a has.1 in
    go has.0.memory has.2 (named memory_name r.0.memories)
    (ap (λ (found : Option state.Objects). if_found found (λ o. named memory_name o.memories)) r.1) r.2.memory
  where
    go : (own : Option store.Memory) → own ≡ Some memory → (found : Option state.Memory) → machine.memory_in m (memory_object owner) ≡ found
        → MemoriesAgree own found
        → (other : state.Memory) × (machine.memory_in m (memory_object owner) ≡ Some other) × MemoryAgrees memory other
    go None e found is agree = absurd (none-some memory e)
    go (Some own) e None is agree = absurd agree
    go (Some own) e (Some other) is agree = (other, is, subst (λ x. MemoryAgrees x other) (same_Some own memory e) agree)

-- ---- a table

tables_set : (p : Program) (s : LinkedSet) (tables : List (state.Name × state.Table)) (x other : state.Table) (new : store.Table)
    → named table_name tables ≡ Some x
    → TableAgrees p s new other → TablesAgree p s (Some new) (named table_name (with_named table_name other tables))
tables_set p s tables x other new e agree =
    subst (λ found. TablesAgree p s (Some new) found) (sym (named-with_named table_name other tables (ap is_some e))) agree

-- a table is made, or another in place of the one that was there
pub together_table : (p : Program) (s : LinkedSet) (count depth : ℕ) (m : state.Machine) (made : store.Store) (trail : Trail) (owner : ℕ)
    (o : store.Objects) (x other : state.Table) (new : store.Table)
    → slice_get made owner ≡ Some o → machine.table_in m (table_object owner) ≡ Some x → TableAgrees p s new other
    → AllByRecursion (IsCallableIfAny s count) new.elements → Together p s count depth m made trail
    → Together p s count depth (machine.with_table m (table_object owner) other) (store.with_table made owner new) trail
together_table p s count depth m made trail owner o x other new at e agree callable t =
    let r = objects_at p s m made trail owner o t.agrees at in
    together_changed p s count depth m made trail owner o
    (λ o. record { memory = o.memory; table = Some new; globals = o.globals })
    r.0
    (λ o. record { vars = o.vars; memories = o.memories; tables = with_named table_name other o.tables })
    at r.1
    (record {
      agree = record {
        memory = r.2.memory;
        table = tables_set p s r.0.tables x other new (seen_in m.units owner (λ o. named table_name o.tables) x r.0 e r.1) agree;
        globals = r.2.globals;
        are_numbers = r.2.are_numbers;
      };
      pointers = λ object. refl;
      made = λ tree h. record { memory = h.memory; table = λ i less. refl; globals = h.globals };
      elements = λ table is. subst (λ (t : store.Table). AllByRecursion (IsCallableIfAny s count) t.elements)
          (same_Some new table is) callable;
    })
    t

-- a table that is made stands in its unit
pub table_seen : (p : Program) (s : LinkedSet) (m : state.Machine) (made : store.Store) (trail : Trail) (owner : ℕ) (table : store.Table)
    → Agrees p s m made trail → store.table_in made owner ≡ Some table
    → (other : state.Table) × (machine.table_in m (table_object owner) ≡ Some other) × TableAgrees p s table other
table_seen p s m made trail owner table a e =
    let has = objects_with made owner (λ o. o.table) table e in
    let r = objects_at p s m made trail owner has.0 a has.1 in
    go has.0.table has.2 (named table_name r.0.tables)
    (ap (λ (found : Option state.Objects). if_found found (λ o. named table_name o.tables)) r.1) r.2.table
  where
    go : (own : Option store.Table) → own ≡ Some table → (found : Option state.Table) → machine.table_in m (table_object owner) ≡ found
        → TablesAgree p s own found
        → (other : state.Table) × (machine.table_in m (table_object owner) ≡ Some other) × TableAgrees p s table other
    go None e found is agree = absurd (none-some table e)
    go (Some own) e None is agree = absurd agree
    go (Some own) e (Some other) is agree = (other, is, subst (λ x. TableAgrees p s x other) (same_Some own table e) agree)

-- ---- the depth and the trail

-- what agrees does so at another depth, and with another trail
together_with : (p : Program) (s : LinkedSet) (count old new : ℕ) (m : state.Machine) (made : store.Store) (trail other : Trail) (depth : ℕ)
    (seen : Trail)
    → Together p s count old m made trail → depth ≡ new → seen ≡ other
    → Together p s count new (record { depth = depth; units = m.units; trail = seen }) made other
together_with p s count old new m made trail other depth seen t deep same = record {
  agrees = record { objects = t.agrees.objects; same_trail = same };
  ready = record {
    pointers = λ u tree less is. let q = t.ready.pointers u tree less is in
        record { memory = q.memory; table = q.table; globals = q.globals };
    objects = t.ready.objects;
    elements = t.ready.elements;
  };
  depth_is = deep;
}

pub with_depth_together : (p : Program) (s : LinkedSet) (count old new : ℕ) (m : state.Machine) (made : store.Store) (trail : Trail)
    → Together p s count old m made trail → Together p s count new (machine.with_depth m new) made trail
with_depth_together p s count old new m made trail t =
    together_with p s count old new m made trail trail new m.trail t refl t.agrees.same_trail

pub with_trail_together : (p : Program) (s : LinkedSet) (count depth : ℕ) (m : state.Machine) (made : store.Store) (old new : Trail)
    → Together p s count depth m made old → Together p s count depth (machine.with_trail m new) made new
with_trail_together p s count depth m made old new t =
    together_with p s count depth depth m made old new m.depth new t t.depth_is refl
