-- The memory, the table and the globals of a module as code of its unit sees them: its own by name, imported ones through pointers.
use Rattle.w2c_base.proofs.Places.{get_before, get_replicated}
use Rattle.wasm_tree.specs.declared.entries.GlobalEntry.{GlobalEntry}
use Rattle.wasm_meaning.specs.Store as store
use Rattle.c_tree.specs.Tree as tree
use Rattle.c_meaning.specs.State as state
use Rattle.c_meaning.specs.Machine as machine
use Rattle.wasm_meaning.specs.Execution.{Calls}
use Rattle.body_definition.proofs.Bounds.{within_of}
use Rattle.body_meaning.proofs.Common.{◌≡◌, ℕ, zero, suc, ◌+◌, ◌<◌, ◌≤◌, Bool, true, false, List, [], ◌∷◌, ◌++◌, map, length, replicate, ap}
use Rattle.body_meaning.proofs.Common.{is_some, if◌then◌else◌, IsSome, slice_get, Some, None, filter, Option, option_map, flat_map, sym, Is}
use Rattle.body_meaning.proofs.Common.{bytes_eq, refl, ◌∙◌, subst, arith, length-map, none-some, same_Some, slice_get-map, slice_get_within}
use Rattle.body_meaning.proofs.Common.{AllByRecursion, range_with_len, at_index, if_found, named, with_named, IsNumber, type_of, types_of}
use Rattle.body_meaning.proofs.Common.{ValType, Value, global_of_import, global_space, imported_globals, is_global_import, is_memory_import}
use Rattle.body_meaning.proofs.Common.{is_table_import, memory_of_import, memory_space, table_of_import, table_space, Import, ImportKind}
use Rattle.body_meaning.proofs.Common.{ImportFunc, ImportGlobal, Module, Context, HasMemory, HasTable, External, GlobalAddress, IndexSpaces}
use Rattle.body_meaning.proofs.Common.{IsGlobal, IsLinked, LinkedSet, NamedModule, Resolves, as_global, Program, as_memory, as_table}
use Rattle.body_meaning.proofs.Common.{global_at, global_type, import_at, imports_of, instances, memory_at, module_at, spaces_of, table_at}
use Rattle.body_meaning.proofs.Common.{put_number, Evaluated, NoRule, Number, Pointer, found, then_evaluate, Next, act, Step, as_object}
use Rattle.body_meaning.proofs.Common.{assign, c_step, depth_name, evaluate_arg, in_unit, next, number_in, place_of, Site, put_in, value_of}
use Rattle.body_meaning.proofs.Common.{with_value, with_vars, first_global, global_name, memory_name, table_name, IsMade, global_imports}
use Rattle.body_meaning.proofs.Common.{memory_imports, table_imports, IsCallableIfAny, MemoryAgrees, PointersAreSet, IsSite, PointsTo}
use Rattle.body_meaning.proofs.Common.{TableAgrees, StandsAt, state_at, HasLimits, pointer_name, global_value, memory_arg, set_global}
use Rattle.body_meaning.proofs.Common.{table_arg, AreServed, types_many}
use Rattle.w2c_base.proofs.Lists.{get_behind, get_none, get_numbered, get_past, filter_few}
use Rattle.wasm_tree.proofs.ImportCounts.{of_kind, memory_count, table_count, global_count}
use Rattle.alike.proofs.Store.{AreFew, global_seen, memory_seen, table_seen}
use Rattle.alike.specs.Objects.{global_object, memory_object, table_object}
use Rattle.body_meaning.proofs.Spaces.{looked_up, memory_owner, table_owner, global_owner, module_named, ResolvesAs}
use Rattle.alike.proofs.LookUps.{module_is, is_there, value_of_type, memory_is_object, table_is_object}
use Rattle.body_meaning.proofs.Gives.{running}

-- ---- imports of a kind against what they bring

index_behind : {A : Type 0} (xs ys : List (Option A)) (k n : ℕ) → k ≡ length xs + n → at_index (xs ++ ys) k ≡ at_index ys n
index_behind xs ys k n at = ap (λ i. at_index (xs ++ ys) i) at ∙ ap (λ found. if_found found (λ entry. entry)) (get_behind xs ys n)

-- an imported global has the type of its import
import_of_global : (P : Import → Type 0) (imports : List Import) (rest : List (ValType × Bool)) (k : ℕ) {i : Import} {x : ValType × Bool}
    → slice_get (filter is_global_import imports) k ≡ Some i → slice_get (flat_map global_of_import imports ++ rest) k ≡ Some x
    → AllByRecursion P imports → P i × (i.kind ≡ ImportGlobal x.0 x.1)
import_of_global P [] rest k {i} e f all = absurd (none-some i e)
import_of_global P (h ∷ imports) rest k {i} {x} e f all = go h.kind k e f all.0 (λ k e f. import_of_global P imports rest k e f all.1)
  where
    go : (kind : ImportKind) (k : ℕ) → slice_get (filter is_global_import (of_kind h kind ∷ imports)) k ≡ Some i
        → slice_get (flat_map global_of_import (of_kind h kind ∷ imports) ++ rest) k ≡ Some x → P (of_kind h kind)
        → ((k : ℕ) → slice_get (filter is_global_import imports) k ≡ Some i
        → slice_get (flat_map global_of_import imports ++ rest) k ≡ Some x → P i × (i.kind ≡ ImportGlobal x.0 x.1))
        → P i × (i.kind ≡ ImportGlobal x.0 x.1)
    go (ImportFunc t) k e f has behind = behind k e f
    go (ImportGlobal t mutable) zero e f has behind =
        let same = same_Some (of_kind h (ImportGlobal t mutable)) i e in (
          subst P same has,
          sym (ap (λ (i : Import). i.kind) same)
              ∙ ap (λ (x : ValType × Bool). ImportGlobal x.0 x.1) (same_Some {A = ValType × Bool} (t, mutable) x f),
        )
    go (ImportGlobal t mutable) (suc k) e f has behind = behind k e f
    go _ k e f has behind = behind k e f

-- ---- what a module's indices stand for

-- an object of a kind that a module may have once, which no import of the kind brings, is its own
own_object : {A B : Type 0} (space : IndexSpaces → List (Option ℕ)) (wanted : Import → Bool) (as_wanted : External → Option ℕ)
    (brings : Import → List B) (limits : A → B) (s : LinkedSet) (p : ℕ) (m : NamedModule) (objects : List A)
    → space (spaces_of (import_at s p) p m.tree)
    ≡ imports_of wanted as_wanted (import_at s p) m.tree.imports ++ replicate (length objects) (Some p)
    → length (filter wanted m.tree.imports) ≡ length (flat_map brings m.tree.imports)
    → slice_get s.modules p ≡ Some m → slice_get (filter wanted m.tree.imports) 0 ≡ None
    → IsSome (slice_get (flat_map brings m.tree.imports ++ map limits objects) 0)
    → if_found (slice_get (instances s) p) (λ i. at_index (space i.spaces) 0) ≡ Some p
own_object space wanted as_wanted brings limits s p m objects space_is counted e none some =
    let imports = m.tree.imports in
    let empty : length (filter wanted imports) ≤ 0 = get_none (filter wanted imports) 0 none in
    let there = is_there (slice_get (flat_map brings imports ++ map limits objects) 0) some in
    let own = get_past (flat_map brings imports) (map limits objects) 0 there.0 (omega (arith, empty, counted)) there.1 in
    let less : own.0 < length objects =
    omega (arith, slice_get_within (map limits objects) own.0 there.0 own.2, length-map objects limits) in
    let front = imports_of wanted as_wanted (import_at s p) imports in
    let no_front : length front ≡ length (filter wanted imports) =
    length-map (filter wanted imports) (λ i. if_found (import_at s p i) as_wanted) in
    looked_up space s p m 0 e ∙ ap (λ entries. at_index entries 0) space_is
    ∙ index_behind front (replicate (length objects) (Some p)) 0 0 (omega (arith, no_front, empty))
    ∙ ap (λ found. if_found found (λ entry. entry)) (get_replicated (length objects) 0 (Some p) (omega (arith, less)))

pub own_memory : (s : LinkedSet) (p : ℕ) (m : NamedModule) → slice_get s.modules p ≡ Some m → slice_get (memory_imports m.tree) 0 ≡ None
    → IsSome (slice_get (memory_space m.tree) 0) → memory_at s p 0 ≡ Some p
own_memory s p m =
    own_object (λ spaces. spaces.memories) is_memory_import as_memory memory_of_import (λ t. t.limits) s p m m.tree.memories refl
    (memory_count m.tree.imports)

pub own_table : (s : LinkedSet) (p : ℕ) (m : NamedModule) → slice_get s.modules p ≡ Some m → slice_get (table_imports m.tree) 0 ≡ None
    → IsSome (slice_get (table_space m.tree) 0) → table_at s p 0 ≡ Some p
own_table s p m =
    own_object (λ spaces. spaces.tables) is_table_import as_table table_of_import _ s p m m.tree.tables refl (table_count m.tree.imports)

-- a global's address, its type, and for an own one its name
pub record GlobalKnown (s : LinkedSet) (p : ℕ) (m : NamedModule) (index : ℕ) (ty : ValType × Bool) : Type 0 where
  pub address : GlobalAddress
  pub address_is : global_at s p index ≡ Some address
  pub type_is : global_type s address ≡ Some ty
  pub early : address.owner < suc p
  pub own : slice_get (global_imports m.tree) index ≡ None → (address.owner ≡ p) × (first_global s p + address.number ≡ index)

resolved : (s : LinkedSet) (p : ℕ) (i : Import) (ty : ValType × Bool) → i.kind ≡ ImportGlobal ty.0 ty.1 → Resolves s p i
    → (g : GlobalAddress) × (import_at s p i ≡ Some (IsGlobal g)) × (global_type s g ≡ Some ty)
resolved s p i ty is h = subst (λ (kind : ImportKind). ResolvesAs s p i kind) is h

pub global_known : (s : LinkedSet) (p : ℕ) (m : NamedModule) (index : ℕ) (ty : ValType × Bool) → slice_get s.modules p ≡ Some m → IsLinked s
    → slice_get (global_space m.tree) index ≡ Some ty → GlobalKnown s p m index ty
global_known s p m index ty e linked is = go (slice_get (global_imports m.tree) index) refl
  where
    front : List (Option GlobalAddress)
    front = imports_of is_global_import as_global (import_at s p) m.tree.imports

    owned : List (Option GlobalAddress)
    owned = map (λ k. Some (record { owner = p; number = k })) (range_with_len 0 (length m.tree.globals))

    types : List (ValType × Bool)
    types = map (λ g. (g.ty, g.mutable)) m.tree.globals

    counted : length front ≡ length (filter is_global_import m.tree.imports)
    counted = length-map (filter is_global_import m.tree.imports) (λ i. if_found (import_at s p i) as_global)

    entry_of : Option (Option GlobalAddress) → Option GlobalAddress
    entry_of found = if_found found (λ entry. entry)

    imported : (i : Import) → slice_get (global_imports m.tree) index ≡ Some i → (g : GlobalAddress) → import_at s p i ≡ Some (IsGlobal g)
        → global_type s g ≡ Some ty → GlobalKnown s p m index ty
    imported i at g means typed =
        let within : index < length front = omega (arith, counted, slice_get_within (filter is_global_import m.tree.imports) index i at) in
        let address : global_at s p index ≡ Some g = looked_up _ s p m index e ∙ ap entry_of (get_before front owned index within)
        ∙ ap entry_of (slice_get-map (λ i. if_found (import_at s p i) as_global) (filter is_global_import m.tree.imports) index)
        ∙ ap (λ found. entry_of (option_map (λ i. if_found (import_at s p i) as_global) found)) at
        ∙ ap (λ found. if_found found as_global) means in
        record {
          address = g;
          address_is = address;
          type_is = typed;
          early = global_owner s p m index g e address;
          own = λ none. absurd (none-some i (sym none ∙ at));
        }

    own : (n : ℕ) → index ≡ length (flat_map global_of_import m.tree.imports) + n → slice_get types n ≡ Some ty → GlobalKnown s p m index ty
    own n behind typed =
        let within : n < length m.tree.globals =
        omega (arith, slice_get_within types n ty typed, length-map {B = ValType × Bool} m.tree.globals (λ g. (g.ty, g.mutable))) in
        let g : GlobalAddress = record { owner = p; number = n } in
        let place : index ≡ length front + n = omega (arith, behind, counted, global_count m.tree.imports) in
        let zero_plus : 0 + n ≡ n = omega arith in
        let entry : slice_get owned n ≡ Some (Some g) =
        slice_get-map (λ k. Some (record { owner = p; number = k })) (range_with_len 0 (length m.tree.globals)) n
        ∙ ap (option_map (λ k. Some (record { owner = p; number = k }))) (get_numbered 0 _ n within ∙ ap Some zero_plus) in
        let first : first_global s p ≡ imported_globals m.tree =
        ap (λ (found : Option Module). elim found [ None ↦ 0 | Some m ↦ imported_globals m ]) (module_is s p m e) in
        record {
          address = g;
          address_is = looked_up _ s p m index e ∙ index_behind front owned index n place ∙ ap entry_of entry;
          type_is = rw (module_is s p m e) (sym (slice_get-map (λ g. (g.ty, g.mutable)) m.tree.globals n) ∙ typed);
          early = omega arith;
          own = λ none. (refl, omega (arith, first, place, counted));
        }

    go : (found : Option Import) → slice_get (global_imports m.tree) index ≡ found → GlobalKnown s p m index ty
    go (Some i) at =
        let r = import_of_global _ m.tree.imports types index at is (linked.imports_resolve p m.tree (module_is s p m e)) in
        let g = resolved s p i ty r.1 r.0 in imported i at g.0 g.1 g.2
    go None at =
        let past = get_none _ index at in
        let r = get_past _ types index ty (omega (arith, past, global_count m.tree.imports)) is in
        own r.0 r.1 r.2

-- ---- what a running function finds

-- a variable of the unit that no variable of the function hides
unit_value : (m : state.Machine) (r : state.Running) (name : state.Name) {v : state.CValue} → bytes_eq name depth_name ≡ false
    → named name r.vars ≡ None → machine.var_in m (in_unit r name) ≡ Some v → value_of m r name ≡ Some v
unit_value m r name no_depth hidden is = rw (no_depth, hidden) is

pointer_value : (m : state.Machine) (r : state.Running) (object : state.Name) (a : state.ObjectAddress)
    → named (pointer_name object) r.vars ≡ None → PointsTo m r.unit object a → value_of m r (pointer_name object) ≡ Some (Pointer (Some a))
pointer_value m r object a hidden is = unit_value m r (pointer_name object) refl hidden is

star_is : (p : Program) (m : state.Machine) (r : state.Running) (name : state.Name) {a : state.ObjectAddress} {v : Value}
    → value_of m r name ≡ Some (Pointer (Some a))
    → machine.var_in m a ≡ Some (Number v) → evaluate_arg p m r (tree.Value (tree.Star name)) ≡ Is (Number v)
star_is p m r name {a} {v} points is = rw (points, is) refl

-- the names of a module's globals differ
pub few_globals : {p : Program} {s : LinkedSet} (owner : ℕ) {tree : Module} {o : store.Objects} → AreServed p s
    → module_at s owner ≡ Some tree → IsMade tree o → AreFew s owner o
few_globals {s} owner {tree} {o} served is made =
    let m = module_named s owner is in
    let within : HasLimits tree = subst HasLimits m.2 (within_of _ (served.within owner m.0 m.1)) in
    let first : first_global s owner ≡ imported_globals tree =
    ap (λ (found : Option Module). elim found [ None ↦ 0 | Some m ↦ imported_globals m ]) is in
    let count : length (types_of o.globals) ≡ length (map (λ g. g.ty) tree.globals) = ap length made.globals in
    omega (
      arith,
      within.imports,
      within.globals,
      first,
      filter_few is_global_import tree.imports,
      count,
      length-map tree.globals (λ g. g.ty),
      types_many o.globals,
    )

global_entry : (s : LinkedSet) (g : GlobalAddress) {ty : ValType × Bool} → global_type s g ≡ Some ty
    → (tree : Module) × (module_at s g.owner ≡ Some tree) × (slice_get (map (λ e. e.ty) tree.globals) g.number ≡ Some ty.0)
global_entry s g {ty} e = go (module_at s g.owner) refl e
  where
    entry : (tree : Module) (o : Option GlobalEntry) → option_map (λ (e : GlobalEntry). (e.ty, e.mutable)) o ≡ Some ty
        → option_map (λ (e : GlobalEntry). e.ty) o ≡ Some ty.0
    entry tree None e = absurd (none-some ty e)
    entry tree (Some x) e = ap (λ (o : Option (ValType × Bool)). option_map (λ t. t.0) o) e

    go : (o : Option Module) → module_at s g.owner ≡ o → if_found o
        (λ m. option_map (λ e. (e.ty, e.mutable)) (slice_get m.globals g.number)) ≡ Some ty
        → (tree : Module) × (module_at s g.owner ≡ Some tree) × (slice_get (map (λ e. e.ty) tree.globals) g.number ≡ Some ty.0)
    go None is e = absurd (none-some ty e)
    go (Some tree) is e = (tree, is, slice_get-map (λ e. e.ty) tree.globals g.number ∙ entry tree (slice_get tree.globals g.number) e)

-- a global that the code names, with its value
pub record GlobalFound (g : Site) (index : ℕ) (ty : ValType × Bool) (made : store.Store) (m : state.Machine)
    (vars : state.Vars) : Type 0 where
  pub known : GlobalKnown g.linked g.unit g.setting.named index ty
  pub value : Value
  pub value_is : store.global_in made known.address ≡ Some value
  pub type_is : type_of value ≡ ty.0
  pub is_number : IsNumber value
  pub few : (o : store.Objects) → slice_get made known.address.owner ≡ Some o → AreFew g.linked known.address.owner o
  pub evaluated : (rest : List tree.Stmt) → evaluate_arg g.program m (running g rest vars)
      (tree.Value (global_value g.setting.named.tree index)) ≡ Is (Number value)

pub global_found : {g : Site} {room : ℕ} {calls : Calls} (index : ℕ) {ty : ValType × Bool} {stack : List Value} {now : store.State}
    {m : state.Machine} {vars : state.Vars} → IsSite g room calls → slice_get g.setting.context.globals index ≡ Some ty
    → StandsAt g stack now m vars → GlobalFound g index ty now.store m vars
global_found {g} index {ty} {now} {m} {vars} site at stands = record {
  known = known;
  value = v.0;
  value_is = value_is;
  type_is = v.2;
  is_number = seen.1;
  few = λ o is. subst (λ o. AreFew g.linked known.address.owner o)
      (same_Some made.0 o (sym made.1 ∙ is)) (few_globals known.address.owner site.served entry.1 made.2);
  evaluated = λ rest. go rest (slice_get (global_imports g.setting.named.tree) index) refl;
}
  where
    known : GlobalKnown g.linked g.unit g.setting.named index ty
    known = global_known g.linked g.unit g.setting.named index ty site.module_is site.served.linked
        (ap (λ (c : Context). slice_get c.globals index) (sym site.context_is) ∙ at)

    entry : (tree : Module) × (module_at g.linked known.address.owner ≡ Some tree)
        × (slice_get (map (λ e. e.ty) tree.globals) known.address.number ≡ Some ty.0)
    entry = global_entry g.linked known.address known.type_is

    made : (o : store.Objects) × (slice_get now.store known.address.owner ≡ Some o) × IsMade entry.0 o
    made = stands.together.ready.objects known.address.owner entry.0 (omega (arith, known.early, site.is_ready)) entry.1

    v : (v : Value) × (slice_get made.0.globals known.address.number ≡ Some v) × (type_of v ≡ ty.0)
    v = value_of_type made.0.globals known.address.number ty.0 (ap (λ types. slice_get types known.address.number) made.2.globals ∙ entry.2)

    value_is : store.global_in now.store known.address ≡ Some v.0
    value_is = ap (λ (o : Option store.Objects). if_found o (λ o. slice_get o.globals known.address.number)) made.1 ∙ v.1

    seen : (machine.var_in m (global_object g.linked known.address) ≡ Some (Number v.0)) × IsNumber v.0
    seen = global_seen g.program g.linked m now.store now.trail known.address v.0 stands.together.agrees value_is

    ready : PointersAreSet g.linked g.unit g.setting.named.tree m
    ready = stands.together.ready.pointers g.unit g.setting.named.tree site.is_ready
        (module_is g.linked g.unit g.setting.named site.module_is)

    go : (rest : List tree.Stmt) (imported : Option Import) → slice_get (global_imports g.setting.named.tree) index ≡ imported
        → evaluate_arg g.program m (running g rest vars) (tree.Value (global_value g.setting.named.tree index)) ≡ Is (Number v.0)
    go rest None is =
        let own = known.own is in
        let object : global_object g.linked known.address ≡ record { unit = g.unit; name = global_name index } =
        ap (λ (owner : ℕ). global_object g.linked (record { owner = owner; number = known.address.number })) own.0
        ∙ ap (λ n. record { unit = g.unit; name = global_name n }) own.1 in
        let value : value_of m (running g rest vars) (global_name index) ≡ Some (Number v.0) =
        unit_value m (running g rest vars) _ refl (stands.variables.globals_seen index) (ap (machine.var_in m) (sym object) ∙ seen.0) in
        rw is (ap found value)
    go rest (Some i) is =
        let pointer = ready.globals index i is in
        let same : pointer.0 ≡ known.address = same_Some pointer.0 known.address (sym pointer.1 ∙ known.address_is) in
        let points : value_of m (running g rest vars) (pointer_name (global_name index))
        ≡ Some (Pointer (Some (global_object g.linked pointer.0))) =
        pointer_value m (running g rest vars) (global_name index) (global_object g.linked pointer.0)
        (stands.variables.pointers_seen (global_name index)) pointer.2 in
        rw is (star_is g.program m (running g rest vars) (pointer_name (global_name index))
        (points ∙ ap (λ a. Some (Pointer (Some (global_object g.linked a)))) same) seen.0)

-- the statement that sets a global, at an operand that holds a number
pub global_assigned : {g : Site} {room : ℕ} {calls : Calls} {index : ℕ} {ty : ValType × Bool} {stack : List Value} {now : store.State}
    {m : state.Machine} {vars : state.Vars}
    → IsSite g room calls → StandsAt g stack now m vars → (f : GlobalFound g index ty now.store m vars)
    → (operand : state.Name) (v : Value) → type_of f.value ≡ type_of v → (rest : List tree.Stmt)
    → ((rest : List tree.Stmt) → value_of m (running g rest vars) operand ≡ Some (Number v))
    → c_step g.program (state_at g m (set_global g.setting.named.tree index (tree.Name operand) ∷ rest) vars)
    ≡ Next (state_at g (machine.with_var m (global_object g.linked f.known.address) (Number v)) rest vars)
global_assigned {g} {index} {now} {m} {vars} site stands f operand v typed rest is =
    go (slice_get (global_imports g.setting.named.tree) index) refl
  where
    place : List tree.Stmt → state.Place
    place stmts = place_of (running g stmts vars) rest

    seen : machine.var_in m (global_object g.linked f.known.address) ≡ Some (Number f.value)
    seen = (global_seen g.program g.linked m now.store now.trail f.known.address f.value stands.together.agrees f.value_is).0

    ready : PointersAreSet g.linked g.unit g.setting.named.tree m
    ready = stands.together.ready.pointers g.unit g.setting.named.tree site.is_ready
        (module_is g.linked g.unit g.setting.named site.module_is)

    assigned : Step
    assigned = Next (state_at g (machine.with_var m (global_object g.linked f.known.address) (Number v)) rest vars)

    act_at : Option Import → Step
    act_at imported =
        let stmt : tree.Stmt = if is_some imported then tree.SetStar (pointer_name (global_name index)) (tree.Name operand) else tree.Set
        (global_name index) (tree.Value (tree.Name operand)) in
        act g.program m (running g (stmt ∷ rest) vars) (stmt ∷ rest) g.below

    own : (a : state.ObjectAddress) → global_object g.linked f.known.address ≡ a → machine.var_in m a ≡ Some (Number f.value)
    own a e = ap (machine.var_in m) (sym e) ∙ seen

    go : (imported : Option Import) → slice_get (global_imports g.setting.named.tree) index ≡ imported
        → act_at (slice_get (global_imports g.setting.named.tree) index) ≡ assigned
    go None none =
        let known = f.known.own none in
        let object : global_object g.linked f.known.address ≡ record { unit = g.unit; name = global_name index } =
        ap (λ (owner : ℕ). global_object g.linked (record { owner = owner; number = f.known.address.number })) known.0
        ∙ ap (λ n. record { unit = g.unit; name = global_name n }) known.1 in
        let stmts : List tree.Stmt = tree.Set (global_name index) (tree.Value (tree.Name operand)) ∷ rest in
        let a : state.ObjectAddress = record { unit = g.unit; name = global_name index } in
        let r : state.Running = running g rest vars in
        ap act_at none
        ∙ ap (λ (o : Option state.CValue). with_value m (place stmts) (found o) (λ v. assign m r (global_name index) v g.below)) (is stmts)
        ∙ ap (λ (o : Option state.CValue). if is_some o
        then put_in m o (Number v) (next m (with_vars r (with_named (global_name index) (Number v) vars)) g.below)
        else put_in m (machine.var_in m a) (Number v) (next (machine.with_var m a (Number v)) r g.below))
        (stands.variables.globals_seen index)
        ∙ put_number m (machine.var_in m a) f.value v (next (machine.with_var m a (Number v)) r g.below) (own a object) typed
        ∙ ap (λ a. next (machine.with_var m a (Number v)) r g.below) (sym object)
    go (Some i) some =
        let pointer = ready.globals index i some in
        let same : pointer.0 ≡ f.known.address = same_Some pointer.0 f.known.address (sym pointer.1 ∙ f.known.address_is) in
        let stmts : List tree.Stmt = tree.SetStar (pointer_name (global_name index)) (tree.Name operand) ∷ rest in
        let a : state.ObjectAddress = global_object g.linked f.known.address in
        let r : state.Running = running g rest vars in
        let points : value_of m (running g stmts vars) (pointer_name (global_name index)) ≡ Some (Pointer (Some a)) =
        pointer_value m (running g stmts vars) (global_name index) (global_object g.linked pointer.0)
        (stands.variables.pointers_seen (global_name index)) pointer.2 ∙ ap (λ a. Some (Pointer (Some (global_object g.linked a)))) same in
        ap act_at some ∙ ap (λ (o : Option state.CValue). with_value m (place stmts) (number_in o) (λ v.
        with_value m (place stmts) (then_evaluate
        (found (value_of m (running g stmts vars) (pointer_name (global_name index)))) as_object) (λ a.
        put_in m (machine.var_in m a) (Number v) (next (machine.with_var m a (Number v)) r g.below)))) (is stmts)
        ∙ ap (λ (o : Option state.CValue).
        with_value m (place stmts) (then_evaluate (found o) as_object) (λ a.
        put_in m (machine.var_in m a) (Number v) (next (machine.with_var m a (Number v)) r g.below))) points
        ∙ put_number m (machine.var_in m a) f.value v (next (machine.with_var m a (Number v)) r g.below) seen typed

-- ---- memory and table

address_is : (p : Program) (m : state.Machine) (r : state.Running) (name : state.Name) → machine.is_object m (in_unit r name) ≡ true
    → evaluate_arg p m r (tree.Address name) ≡ Is (Pointer (Some (in_unit r name)))
address_is p m r name is = ap (λ (b : Bool). if b then Is (Pointer (Some (in_unit r name))) else NoRule) is

-- the memory of a module, which its own unit or an earlier one has
pub record MemoryFound (g : Site) (made : store.Store) (m : state.Machine) (vars : state.Vars) : Type 0 where
  pub owner : ℕ
  pub owner_is : memory_at g.linked g.unit 0 ≡ Some owner
  pub objects : store.Objects
  pub objects_are : slice_get made owner ≡ Some objects
  pub memory : store.Memory
  pub memory_is : store.memory_in made owner ≡ Some memory
  pub other : state.Memory
  pub other_is : machine.memory_in m (memory_object owner) ≡ Some other
  pub agrees : MemoryAgrees memory other
  pub evaluated : (rest : List tree.Stmt) → evaluate_arg g.program m (running g rest vars) (memory_arg g.setting.named.tree) ≡ Is
      (Pointer (Some (memory_object owner)))

pub memory_found : {g : Site} {room : ℕ} {calls : Calls} {stack : List Value} {now : store.State} {m : state.Machine} {vars : state.Vars}
    → IsSite g room calls → HasMemory g.setting.context → StandsAt g stack now m vars → MemoryFound g now.store m vars
memory_found {g} {now} {m} {vars} site has stands = go (slice_get (memory_imports g.setting.named.tree) 0) refl
  where
    argument : List tree.Stmt → Option Import → Evaluated state.CValue
    argument rest imported = evaluate_arg g.program m (running g rest vars)
        (if is_some imported then tree.Value (tree.Name (pointer_name memory_name)) else tree.Address memory_name)

    owned : (owner : ℕ) → memory_at g.linked g.unit 0 ≡ Some owner
        → ((other : state.Memory) → machine.memory_in m (memory_object owner) ≡ Some other
        → (rest : List tree.Stmt) → argument rest (slice_get (memory_imports g.setting.named.tree) 0) ≡ Is
        (Pointer (Some (memory_object owner)))) → MemoryFound g now.store m vars
    owned owner is evaluated =
        let h = memory_owner g.linked g.unit g.setting.named 0 owner site.module_is is in
        let made = stands.together.ready.objects owner h.tree (omega (arith, h.early, site.is_ready)) h.tree_is in
        let memory = is_there made.0.memory (made.2.memory 0 h.some) in
        let memory_is : store.memory_in now.store owner ≡ Some memory.0 =
        ap (λ (o : Option store.Objects). if_found o (λ o. o.memory)) made.1 ∙ memory.1 in
        let seen = memory_seen g.program g.linked m now.store now.trail owner memory.0 stands.together.agrees memory_is in
        record {
          owner = owner;
          owner_is = is;
          objects = made.0;
          objects_are = made.1;
          memory = memory.0;
          memory_is = memory_is;
          other = seen.0;
          other_is = seen.1;
          agrees = seen.2;
          evaluated = evaluated seen.0 seen.1;
        }

    go : (imported : Option Import) → slice_get (memory_imports g.setting.named.tree) 0 ≡ imported → MemoryFound g now.store m vars
    go None none = owned g.unit (own_memory g.linked g.unit g.setting.named site.module_is none
        (ap (λ (c : Context). is_some (slice_get c.memories 0)) (sym site.context_is) ∙ has)) (λ other is rest.
        ap (argument rest) none ∙ address_is g.program m (running g rest vars) memory_name
        (memory_is_object m (memory_object g.unit) other is))
    go (Some i) some =
        let pointer = (stands.together.ready.pointers g.unit g.setting.named.tree site.is_ready
        (module_is g.linked g.unit g.setting.named site.module_is)).memory i some in
        owned pointer.0 pointer.1 (λ other is rest.
        ap (argument rest) some ∙ ap found (pointer_value m (running g rest vars) memory_name (memory_object pointer.0)
        (stands.variables.pointers_seen memory_name) pointer.2))

-- the table of a module, which its own unit or an earlier one has
pub record TableFound (g : Site) (made : store.Store) (m : state.Machine) (vars : state.Vars) : Type 0 where
  pub owner : ℕ
  pub owner_is : table_at g.linked g.unit 0 ≡ Some owner
  pub table : store.Table
  pub table_is : store.table_in made owner ≡ Some table
  pub other : state.Table
  pub other_is : machine.table_in m (table_object owner) ≡ Some other
  pub agrees : TableAgrees g.program g.linked table other
  pub callable : AllByRecursion (IsCallableIfAny g.linked g.count) table.elements
  pub evaluated : (rest : List tree.Stmt) → evaluate_arg g.program m (running g rest vars) (table_arg g.setting.named.tree) ≡ Is
      (Pointer (Some (table_object owner)))

pub table_found : {g : Site} {room : ℕ} {calls : Calls} {stack : List Value} {now : store.State} {m : state.Machine} {vars : state.Vars}
    → IsSite g room calls → HasTable g.setting.context → StandsAt g stack now m vars → TableFound g now.store m vars
table_found {g} {now} {m} {vars} site has stands = go (slice_get (table_imports g.setting.named.tree) 0) refl
  where
    argument : List tree.Stmt → Option Import → Evaluated state.CValue
    argument rest imported = evaluate_arg g.program m (running g rest vars)
        (if is_some imported then tree.Value (tree.Name (pointer_name table_name)) else tree.Address table_name)

    owned : (owner : ℕ) → table_at g.linked g.unit 0 ≡ Some owner
        → ((other : state.Table) → machine.table_in m (table_object owner) ≡ Some other
        → (rest : List tree.Stmt) → argument rest (slice_get (table_imports g.setting.named.tree) 0) ≡ Is
        (Pointer (Some (table_object owner)))) → TableFound g now.store m vars
    owned owner is evaluated =
        let h = table_owner g.linked g.unit g.setting.named 0 owner site.module_is is in
        let made = stands.together.ready.objects owner h.tree (omega (arith, h.early, site.is_ready)) h.tree_is in
        let table = is_there made.0.table (made.2.table 0 h.some) in
        let table_is : store.table_in now.store owner ≡ Some table.0 = rw made.1 table.1 in
        let seen = table_seen g.program g.linked m now.store now.trail owner table.0 stands.together.agrees table_is in
        record {
          owner = owner;
          owner_is = is;
          table = table.0;
          table_is = table_is;
          other = seen.0;
          other_is = seen.1;
          agrees = seen.2;
          callable = stands.together.ready.elements owner table.0 table_is;
          evaluated = evaluated seen.0 seen.1;
        }

    go : (imported : Option Import) → slice_get (table_imports g.setting.named.tree) 0 ≡ imported → TableFound g now.store m vars
    go None none = owned g.unit (own_table g.linked g.unit g.setting.named site.module_is none
        (ap (λ (c : Context). is_some (slice_get c.tables 0)) (sym site.context_is) ∙ has)) (λ other is rest.
        ap (argument rest) none ∙ address_is g.program m (running g rest vars) table_name
        (table_is_object m (table_object g.unit) other is))
    go (Some i) some =
        let pointer = (stands.together.ready.pointers g.unit g.setting.named.tree site.is_ready
        (module_is g.linked g.unit g.setting.named site.module_is)).table i some in
        owned pointer.0 pointer.1 (λ other is rest.
        ap (argument rest) some ∙ ap found (pointer_value m (running g rest vars) table_name (table_object pointer.0)
        (stands.variables.pointers_seen table_name) pointer.2))
