-- The statements that take imports against the task Take: a pointer is set, and limits are tested (WebAssembly
-- Core 1.0, 4.5.4).
use Rattle.alike.proofs.LookUps.{memory_is_object, table_is_object, var_is_object}
use Rattle.c_meaning.specs.Primitives.{primitive}
use Rattle.init_meaning.proofs.Common.{Agrees, Effect, ◌==◌, ◌≡◌, ℕ, suc, ◌+◌, ◌/◌, ◌^◌, ◌<◌, ◌≤◌, Bool, true, false, ◌≢◌, ◌⊎◌, List, []}
use Rattle.init_meaning.proofs.Common.{◌∷◌, ◌++◌, length, if◌then◌else◌, slice_get, Some, None, codes, Option, option_map, sym, refl, ap}
use Rattle.init_meaning.proofs.Common.{◌∙◌, subst, inl, inr, div-one, arith, none-some, same_Some, ⊤, set_same, if_found, named, with_named}
use Rattle.init_meaning.proofs.Common.{Trail, type_of, ImportLimits, ValType, Value, I64, imported_globals, Import, ImportKind, ImportFunc}
use Rattle.init_meaning.proofs.Common.{ImportGlobal, ImportMemory, ImportTable, Limits, IsMaximum, GlobalAddress, LinkedSet, NamedModule}
use Rattle.init_meaning.proofs.Common.{global_at, memory_at, table_at, Take, do_task, limits_fit, tested, named-with_another}
use Rattle.init_meaning.proofs.Common.{named-with_named, NoEffect, gives, mem_len, mem_max, tab_len, tab_max, Reaches, go_on, call, give}
use Rattle.init_meaning.proofs.Common.{global_name, memory_name, table_name, import_symbol, global_at_another_place, global_object}
use Rattle.init_meaning.proofs.Common.{global_seen, machine_is, memory_object, memory_seen, objects_at, table_object, table_seen, with_unit}
use Rattle.init_meaning.proofs.Common.{MemoryAgrees, ObjectsAgree, PointsTo, TableAgrees, Together, pointer_name, asks_something}
use Rattle.init_meaning.proofs.Common.{max_number, set_pointer, test_limits, zero_like, set_there}
use Rattle.wasm_meaning.specs.Store as store
use Rattle.wasm_meaning.specs.Execution as exec
use Rattle.c_tree.specs.Tree as c
use Rattle.c_meaning.specs.State as state
use Rattle.c_meaning.specs.Machine as machine
use Rattle.init_meaning.specs.Zeros.{held}
use Rattle.init_meaning.proofs.Held.{held_there, held_kept}
use Rattle.init_meaning.proofs.InitStatements.{Seat, at, running, call_goes, joined, pointer_goes}
use Rattle.init_meaning.proofs.InitRuns.{Stage, FollowsTask, IsDone, Traps}
use Rattle.init_meaning.proofs.InitTests.{HasLocals}
use Rattle.init_meaning.proofs.InitObjects.{table_there, memory_there, global_there, pointer_gets}
use Rattle.init_meaning.proofs.Surroundings.{elements_length}
use Rattle.init_meaning.proofs.SegmentTests.{tab_len_is, mem_len_is}
use Rattle.init_meaning.proofs.LimitTests.{Measures, Passes, Fails, CanTest, limits_tested}
use Rattle.init_meaning.proofs.OwnObjects.{own_kept}
use Rattle.c_init.proofs.Small.{behind_letter, same_or_less}
use Rattle.init_meaning.specs.Declared.{HoldsPointer, IsDeclared}
use Rattle.init_meaning.specs.Taken.{GivesPointer, TableIsTaken, MemoryIsTaken, GlobalIsTaken}

-- the maximum that a table or memory import asks for
abbrev pub IsLow : ImportKind → Type 0
IsLow (ImportFunc t) = ⊤
IsLow (ImportTable l) = IsMaximum l.max
IsLow (ImportMemory l) = IsMaximum l.max
IsLow (ImportGlobal t mutable) = ⊤

-- ---- pointers that are set so far

abbrev PointsToTable : LinkedSet → ℕ → state.Machine → Type 0
PointsToTable s u mach = (owner : ℕ) × (table_at s u 0 ≡ Some owner) × PointsTo mach u table_name (table_object owner)

abbrev PointsToMemory : LinkedSet → ℕ → state.Machine → Type 0
PointsToMemory s u mach = (owner : ℕ) × (memory_at s u 0 ≡ Some owner) × PointsTo mach u memory_name (memory_object owner)

abbrev PointsToGlobal : LinkedSet → ℕ → state.Machine → ℕ → Type 0
PointsToGlobal s u mach k = (a : GlobalAddress) × (global_at s u k ≡ Some a) × PointsTo mach u (global_name k) (global_object s a)

pub record IsTaking (s : LinkedSet) (g : Seat) (m : NamedModule) (table memory : Bool) (number : ℕ) (mach : state.Machine)
    (made : store.Store) (trail : Trail) (vars : state.Vars) : Type 0 where
  pub together : Together g.program s g.unit 0 mach made trail
  pub locals : HasLocals m.tree vars
  pub nothing : slice_get made g.unit ≡ Some store.no_objects
  pub x : state.Objects
  pub x_is : slice_get mach.units g.unit ≡ Some x
  pub declared : IsDeclared m.tree x
  pub table_set : table ≡ true → PointsToTable s g.unit mach
  pub memory_set : memory ≡ true → PointsToMemory s g.unit mach
  pub globals_set : (k : ℕ) → k < number → PointsToGlobal s g.unit mach k

-- one more pointer is set
record PointerSet (s : LinkedSet) (g : Seat) (m : NamedModule) (object : state.Name) (a : state.ObjectAddress) (start rest : List c.Stmt)
    (mach : state.Machine) (made : store.Store) (trail : Trail) (vars : state.Vars) : Type 0 where
  machine : state.Machine
  together : Together g.program s g.unit 0 machine made trail
  x : state.Objects
  x_is : slice_get machine.units g.unit ≡ Some x
  declared : IsDeclared m.tree x
  set : PointsTo machine g.unit object a
  others : (other : state.Name) → other ≢ object → (b : state.ObjectAddress) → PointsTo mach g.unit other b
      → PointsTo machine g.unit other b
  statements : ℕ
  some : 1 ≤ statements
  few : statements ≤ 301
  way : Reaches g.program statements (at g mach start vars) (at g machine rest vars)

pointers_differ : (a b : state.Name) → a ≢ b → pointer_name a ≢ pointer_name b
pointers_differ a b differ e = differ (ap behind_letter e)

pointer_set : (s : LinkedSet) (g : Seat) (m : NamedModule) (i : Import) (object : state.Name) (a : state.ObjectAddress)
    (table memory : Bool) (number : ℕ) (rest : List c.Stmt) (mach : state.Machine) (made : store.Store) (trail : Trail) (vars : state.Vars)
    → GivesPointer g.program s g.unit m i a → (here : IsTaking s g m table memory number mach made trail vars)
    → HoldsPointer object here.x.vars → machine.is_object mach a ≡ true
    → PointerSet s g m object a (set_pointer m i object ∷ rest) rest mach made trail vars
pointer_set s g m i object a table memory number rest mach made trail vars p here there object_there = record {
  machine = after;
  together = subst (λ made. Together g.program s g.unit 0 after made trail) (set_same made g.unit store.no_objects here.nothing)
      (own_kept g.program s g.unit mach made trail store.no_objects store.no_objects x' here.nothing agree
      (λ t is. absurd cc) here.together);
  x = x';
  x_is = set_there mach.units g.unit here.x x' here.x_is;
  declared = record {
    table = here.declared.table;
    memory = here.declared.memory;
    globals = λ k e is. kept (global_name (imported_globals m.tree + k)) ∙ here.declared.globals k e is;
    table_pointer = λ some. kept (pointer_name table_name) ∙ here.declared.table_pointer some;
    memory_pointer = λ some. kept (pointer_name memory_name) ∙ here.declared.memory_pointer some;
    global_pointers = λ k less. kept (pointer_name (global_name k)) ∙ here.declared.global_pointers k less;
  };
  set = seen (pointer_name object)
      ∙ named-with_named (pointer_name object) v here.x.vars (held_there (pointer_name object) here.x.vars (state.Pointer None) there);
  others = λ other differ b set.
      seen (pointer_name other)
      ∙ (named-with_another (pointer_name other) (pointer_name object) v here.x.vars (pointers_differ other object differ)
      ∙ (sym (before (pointer_name other)) ∙ set));
  statements = 1 + n.0;
  some = omega arith;
  few = omega (arith, n.1);
  way = rw usable (joined (call_goes g mach (Some (pointer_name object)) (import_symbol i) [] p.address rest vars []
      (λ rest. refl) p.is_no_primitive p.address_is)
      (subst (Reaches g.program n.0 (go_on g.program g.pending (call g.program p.address mach [] (frame ∷ g.below)))) arrives n.2));
}
  where
    v : state.CValue
    v = state.Pointer (Some a)

    changes : state.Objects → state.Objects
    changes x = record { vars = with_named (pointer_name object) v x.vars; memories = x.memories; tables = x.tables }

    x' : state.Objects
    x' = changes here.x

    after : state.Machine
    after = with_unit mach g.unit x'

    kept : (name : state.Name) → held name x'.vars ≡ held name here.x.vars
    kept name = held_kept name (pointer_name object) v here.x.vars there

    old : ObjectsAgree g.program s g.unit store.no_objects here.x
    old =
        let r = objects_at g.program s mach made trail g.unit store.no_objects here.together.agrees here.nothing in
        subst (ObjectsAgree g.program s g.unit store.no_objects) (same_Some r.0 here.x (sym r.1 ∙ here.x_is)) r.2

    agree : ObjectsAgree g.program s g.unit store.no_objects x'
    agree = record { memory = old.memory; table = old.table; globals = tt; are_numbers = tt }

    seen : (name : state.Name) → machine.var_in after (record { unit = g.unit; name = name }) ≡ named name x'.vars
    seen name = ap (λ (found : Option state.Objects). if_found found (λ o. named name o.vars))
        (set_there mach.units g.unit here.x x' here.x_is)

    before : (name : state.Name) → machine.var_in mach (record { unit = g.unit; name = name }) ≡ named name here.x.vars
    before name = ap (λ (found : Option state.Objects). if_found found (λ o. named name o.vars)) here.x_is

    frame : state.Frame
    frame = record { target = Some (pointer_name object); running = running g rest vars }

    n : (n : ℕ) × (n ≤ 300) × Reaches g.program n (go_on g.program g.pending (call g.program p.address mach [] (frame ∷ g.below)))
        (go_on g.program g.pending (give mach (Some v) (frame ∷ g.below)))
    n = p.gives g.pending mach (frame ∷ g.below) object_there

    usable : set_pointer m i object ≡ c.Call (Some (pointer_name object)) (c.Called (import_symbol i)) []
    usable = ap (λ b. if b then c.Call (Some (pointer_name object)) (c.Called (import_symbol i)) [] else c.Null) p.usable

    arrives : go_on g.program g.pending (give mach (Some v) (frame ∷ g.below)) ≡ at g after rest vars
    arrives = pointer_goes g mach (pointer_name object) v rest vars refl (here.locals.pointers_seen object)
        (ap (option_map zero_like) (before (pointer_name object)) ∙ there)
        ∙ ap (λ m. at g m rest vars) (machine_is mach g.unit here.x changes here.x_is)

-- ---- the imports of each kind

-- what the task of an import does, by its kind
abbrev takes_as : LinkedSet → ℕ → Import → ℕ → store.Store → Trail → ImportKind → exec.Called
takes_as s u i n made trail kind = do_task s u (Take (record i { kind = kind })) n made trail

pub global_follows : (s : LinkedSet) (g : Seat) (m : NamedModule) (i : Import) (t : ValType) (mutable table memory : Bool) (number : ℕ)
    (rest : List c.Stmt) → i.kind ≡ ImportGlobal t mutable → GlobalIsTaken g.program s g.unit m number i → imported_globals m.tree < 2 ^ 64
    → FollowsTask s g (IsTaking s g m table memory number) (Take i) (IsTaking s g m table memory (suc number))
    (set_pointer m i (global_name number) ∷ rest) rest
global_follows s g m i t mutable table memory number rest kind k few mach made trail vars here = inl (record {
  machine = p.machine;
  new = made;
  locals = vars;
  does = λ n. ap (takes_as s g.unit i n made trail) kind;
  reached = record {
    together = p.together;
    locals = here.locals;
    nothing = here.nothing;
    x = p.x;
    x_is = p.x_is;
    declared = p.declared;
    table_set = λ is. let r = here.table_set is in (r.0, r.1, p.others table_name (λ e. absurd (grind (arith, e))) (table_object r.0) r.2);
    memory_set = λ is. let r = here.memory_set is in
        (r.0, r.1, p.others memory_name (λ e. absurd (grind (arith, e))) (memory_object r.0) r.2);
    globals_set = globals;
  };
  statements = p.statements;
  some = p.some;
  few = omega (arith, p.few);
  way = p.way;
})
  where
    v : (v : Value) × (store.global_in made k.owner.global ≡ Some v) × (type_of v ≡ k.owner.entry.ty)
    v = global_there s g.unit mach made k.owner.global k.owner.owner_tree k.owner.entry here.together.ready k.early k.owner.owner_tree_is
        k.owner.entry_is

    object : machine.is_object mach (global_object s k.owner.global) ≡ true
    object = var_is_object mach (global_object s k.owner.global) (state.Number v.0)
        (global_seen g.program s mach made trail k.owner.global v.0 here.together.agrees v.1).0

    p : PointerSet s g m (global_name number) (global_object s k.owner.global)
        (set_pointer m i (global_name number) ∷ rest) rest mach made trail vars
    p = pointer_set s g m i (global_name number) (global_object s k.owner.global) table memory number rest mach made trail vars k.pointer
        here (here.declared.global_pointers number k.among) object

    globals : (j : ℕ) → j < suc number → PointsToGlobal s g.unit p.machine j
    globals j less = elim (same_or_less j number less) [
      | inl same ↦ subst (PointsToGlobal s g.unit p.machine) (sym same) (k.owner.global, k.owner.global_is, p.set)
      | inr below ↦
          let r = here.globals_set j below in (
            r.0,
            r.1,
            p.others (global_name j) (global_at_another_place j number (omega (arith, below, k.among, few))
                (omega (arith, k.among, few)) (omega (arith, below))) (global_object s r.0) r.2,
          )
    ]

tab_max_is : (m : state.Machine) (a : state.ObjectAddress) (t : state.Table) → machine.table_in m a ≡ Some t
    → tab_max (state.Pointer (Some a) ∷ []) m ≡ gives m (I64 t.max)
tab_max_is m a t e = ap (λ (o : Option state.Table). elim o [ None ↦ NoEffect | Some table ↦ gives m (I64 table.max) ]) e

mem_max_is : (m : state.Machine) (a : state.ObjectAddress) (t : state.Memory) → machine.memory_in m a ≡ Some t
    → mem_max (state.Pointer (Some a) ∷ []) m ≡ gives m (I64 t.max)
mem_max_is m a t e = ap (λ (o : Option state.Memory). elim o [ None ↦ NoEffect | Some memory ↦ gives m (I64 memory.max) ]) e

is_low : (max : Option ℕ) → IsMaximum max → (k : ℕ) → max ≡ Some k → k < 4294967296
is_low None low k e = absurd (none-some k e)
is_low (Some max) low k e = omega (arith, low, same_Some max k e)

-- a pointer is set, and then limits are tested, which the task does too
limits_follow : (s : LinkedSet) (g : Seat) (m : NamedModule) (i : Import) (l : Limits) (table memory : Bool) (number : ℕ) (stage : Stage)
    (object len_of max_of : state.Name) (a : state.ObjectAddress) (len max : List state.CValue → state.Machine → Effect)
    (unit size : ℕ) (given : Option ℕ) (rest : List c.Stmt) (mach : state.Machine) (made : store.Store) (trail : Trail) (vars : state.Vars)
    → GivesPointer g.program s g.unit m i a → (here : IsTaking s g m table memory number mach made trail vars)
    → HoldsPointer object here.x.vars → machine.is_object mach a ≡ true
    → primitive len_of ≡ Some len → primitive max_of ≡ Some max → (unit == 0) ≡ false
    → ((after : state.Machine) → Agrees g.program s after made trail
    → (n : ℕ) × (len (state.Pointer (Some a) ∷ []) after ≡ gives after (I64 n))
    × (max (state.Pointer (Some a) ∷ []) after ≡ gives after (I64 (max_number given))) × (n / unit ≡ size))
    → ((n : ℕ) → do_task s g.unit (Take i) n made trail ≡ tested (limits_fit size given l) ImportLimits n made trail)
    → (asks_something l ≡ true → CanTest g m.tree) → IsMaximum l.max
    → ((p : PointerSet s g m object a (set_pointer m i object ∷ (test_limits object len_of max_of unit l ++ rest))
    (test_limits object len_of max_of unit l ++ rest) mach made trail vars) (locals : state.Vars)
    → HasLocals m.tree locals → stage p.machine made trail locals)
    → IsDone s g (Take i) stage (set_pointer m i object ∷ (test_limits object len_of max_of unit l ++ rest)) rest mach made trail vars
    ⊎ Traps s g (Take i) (set_pointer m i object ∷ (test_limits object len_of max_of unit l ++ rest)) mach made trail vars
limits_follow s g m i l table memory number stage object len_of max_of a len max unit size given rest mach made trail vars pointer here
    holds is_object is_len is_max some seen does can low reached =
    go (limits_tested g m.tree p.machine object len_of max_of measured.0 unit size given l rest vars
    (measures len_of len measured.0 is_len measured.1) (measures max_of max (max_number given) is_max measured.2) some measured.3
    (is_low l.max low) can here.locals)
  where
    tests : List c.Stmt
    tests = test_limits object len_of max_of unit l ++ rest

    start : List c.Stmt
    start = set_pointer m i object ∷ tests

    p : PointerSet s g m object a start tests mach made trail vars
    p = pointer_set s g m i object a table memory number tests mach made trail vars pointer here holds is_object

    measured : (n : ℕ) × (len (state.Pointer (Some a) ∷ []) p.machine ≡ gives p.machine (I64 n))
        × (max (state.Pointer (Some a) ∷ []) p.machine ≡ gives p.machine (I64 (max_number given))) × (n / unit ≡ size)
    measured = seen p.machine p.together.agrees

    measures : (name : state.Name) (does : List state.CValue → state.Machine → Effect) (n : ℕ) → primitive name ≡ Some does
        → does (state.Pointer (Some a) ∷ []) p.machine ≡ gives p.machine (I64 n) → Measures g p.machine object name n
    measures name does n is given = record {
      does = does;
      is_primitive = is;
      pointer = state.Pointer (Some a);
      gets = λ vars none. pointer_gets g p.machine vars object a none p.set;
      gives = given;
    }

    go : ((limits_fit size given l ≡ true) × Passes g m.tree tests rest 4 p.machine vars)
        ⊎ ((limits_fit size given l ≡ false) × Fails g tests 5 p.machine vars)
        → IsDone s g (Take i) stage start rest mach made trail vars ⊎ Traps s g (Take i) start mach made trail vars
    go (inl h) = inl (record {
      machine = p.machine;
      new = made;
      locals = h.1.locals;
      does = λ n. does n ∙ ap (λ b. tested b ImportLimits n made trail) h.0;
      reached = reached p h.1.locals h.1.has;
      statements = p.statements + h.1.statements;
      some = omega (arith, p.some);
      few = omega (arith, p.few, h.1.few);
      way = joined p.way h.1.way;
    })
    go (inr h) = inr (record {
      kind = ImportLimits;
      machine = p.machine;
      agrees = p.together.agrees;
      does = λ n. does n ∙ ap (λ b. tested b ImportLimits n made trail) h.0;
      statements = p.statements + h.1.statements;
      few = omega (arith, p.few, h.1.few);
      way = joined p.way h.1.way;
    })

pub table_follows : (s : LinkedSet) (g : Seat) (m : NamedModule) (i : Import) (l : Limits) (table memory : Bool) (number : ℕ)
    (rest : List c.Stmt)
    → i.kind ≡ ImportTable l → TableIsTaken g.program s g.unit m i l → (asks_something l ≡ true → CanTest g m.tree) → IsMaximum l.max
    → FollowsTask s g (IsTaking s g m table memory number) (Take i) (IsTaking s g m true memory number)
    (set_pointer m i table_name ∷ (test_limits table_name (codes "w2c_tab_len") (codes "w2c_tab_max") 1 l ++ rest)) rest
table_follows s g m i l table memory number rest kind k can low mach made trail vars here =
    limits_follow s g m i l table memory number (IsTaking s g m true memory number) table_name (codes "w2c_tab_len") (codes "w2c_tab_max") a
    tab_len tab_max 1 (length t.0.elements) t.0.max rest mach made trail vars k.pointer here (here.declared.table_pointer k.among)
    (table_is_object mach a (seen mach here.together.agrees).0 (seen mach here.together.agrees).1) refl refl refl
    (λ after agrees. let o = seen after agrees in (
      length o.0.elements,
      tab_len_is after a o.0 o.1,
      tab_max_is after a o.0 o.1 ∙ ap (λ n. gives after (I64 n)) o.2.max,
      div-one (length o.0.elements) ∙ elements_length g.program s t.0.elements o.0.elements o.2.elements,
    ))
    does can low
    (λ p locals has. record {
      together = p.together;
      locals = has;
      nothing = here.nothing;
      x = p.x;
      x_is = p.x_is;
      declared = p.declared;
      table_set = λ is. (k.owner.owner, k.owner.owner_is, p.set);
      memory_set = λ is. let r = here.memory_set is in
          (r.0, r.1, p.others memory_name (λ e. absurd (grind (arith, e))) (memory_object r.0) r.2);
      globals_set = λ j less. let r = here.globals_set j less in
          (r.0, r.1, p.others (global_name j) (λ e. absurd (grind (arith, e))) (global_object s r.0) r.2);
    })
  where
    a : state.ObjectAddress
    a = table_object k.owner.owner

    t : (t : store.Table) × (store.table_in made k.owner.owner ≡ Some t)
    t = table_there s g.unit mach made k.owner.owner k.owner.owner_tree here.together.ready k.early k.owner.owner_tree_is k.owner.some

    seen : (after : state.Machine) → Agrees g.program s after made trail
        → (other : state.Table) × (machine.table_in after a ≡ Some other) × TableAgrees g.program s t.0 other
    seen after agrees = table_seen g.program s after made trail k.owner.owner t.0 agrees t.1

    does : (n : ℕ) → do_task s g.unit (Take i) n made trail ≡ tested (limits_fit (length t.0.elements) t.0.max l) ImportLimits n made trail
    does n = ap (takes_as s g.unit i n made trail) kind ∙ rw (k.import_is, t.1) refl

pub memory_follows : (s : LinkedSet) (g : Seat) (m : NamedModule) (i : Import) (l : Limits) (table memory : Bool) (number : ℕ)
    (rest : List c.Stmt)
    → i.kind ≡ ImportMemory l → MemoryIsTaken g.program s g.unit m i l → (asks_something l ≡ true → CanTest g m.tree) → IsMaximum l.max
    → FollowsTask s g (IsTaking s g m table memory number) (Take i) (IsTaking s g m table true number)
    (set_pointer m i memory_name ∷ (test_limits memory_name (codes "w2c_mem_len") (codes "w2c_mem_max") 65536 l ++ rest)) rest
memory_follows s g m i l table memory number rest kind k can low mach made trail vars here =
    limits_follow s g m i l table memory number (IsTaking s g m table true number) memory_name (codes "w2c_mem_len") (codes "w2c_mem_max") a
    mem_len mem_max 65536 (store.pages t.0) t.0.max rest mach made trail vars k.pointer here (here.declared.memory_pointer k.among)
    (memory_is_object mach a (seen mach here.together.agrees).0 (seen mach here.together.agrees).1) refl refl refl
    (λ after agrees. let o = seen after agrees in (
      length o.0.bytes,
      mem_len_is after a o.0 o.1,
      mem_max_is after a o.0 o.1 ∙ ap (λ n. gives after (I64 n)) o.2.max,
      ap (λ bytes. length bytes / 65536) o.2.bytes,
    ))
    does can low
    (λ p locals has. record {
      together = p.together;
      locals = has;
      nothing = here.nothing;
      x = p.x;
      x_is = p.x_is;
      declared = p.declared;
      table_set = λ is. let r = here.table_set is in
          (r.0, r.1, p.others table_name (λ e. absurd (grind (arith, e))) (table_object r.0) r.2);
      memory_set = λ is. (k.owner.owner, k.owner.owner_is, p.set);
      globals_set = λ j less. let r = here.globals_set j less in
          (r.0, r.1, p.others (global_name j) (λ e. absurd (grind (arith, e))) (global_object s r.0) r.2);
    })
  where
    a : state.ObjectAddress
    a = memory_object k.owner.owner

    t : (t : store.Memory) × (store.memory_in made k.owner.owner ≡ Some t)
    t = memory_there s g.unit mach made k.owner.owner k.owner.owner_tree here.together.ready k.early k.owner.owner_tree_is k.owner.some

    seen : (after : state.Machine) → Agrees g.program s after made trail
        → (other : state.Memory) × (machine.memory_in after a ≡ Some other) × MemoryAgrees t.0 other
    seen after agrees = memory_seen g.program s after made trail k.owner.owner t.0 agrees t.1

    does : (n : ℕ) → do_task s g.unit (Take i) n made trail ≡ tested (limits_fit (store.pages t.0) t.0.max l) ImportLimits n made trail
    does n = ap (takes_as s g.unit i n made trail) kind ∙ rw (k.import_is, t.1) refl
