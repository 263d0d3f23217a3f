-- A function that gives a pointer: the statements of its call, for an own object and for one that is passed on.
use Rattle.unit_meaning.proofs.Common.{Vars, ◌≡◌, ℕ, ◌+◌, ◌≤◌, true, List, [], ◌∷◌, if◌then◌else◌, Some, None, Option, refl, ap, ◌∙◌, subst}
use Rattle.unit_meaning.proofs.Common.{arith, CType, Plain, Definition, Program, definition_at, func_named, is_object, primitive, Reaches}
use Rattle.unit_meaning.proofs.Common.{Going, Pending, Progress, go_on, Frame, FuncAddress, Machine, ObjectAddress, Pointer, Running, State}
use Rattle.unit_meaning.proofs.Common.{Stuck, UnitFunc, accessor_type, external, result_name}
use Rattle.c_tree.specs.declared.tree.CType.TheVariants as c_type
use Rattle.c_tree.specs.Tree as tree
use Rattle.c_meaning.specs.State.{Name}
use Rattle.c_meaning.specs.Step as step
use Rattle.c_meaning.proofs.Ways as ways
use Rattle.unit_definition.proofs.PointerTypes.{IsPointer, of_table}

-- they may be returned where the type is a pointer's
pointer_returned : {pointer : CType} → IsPointer pointer → (to : Option ObjectAddress) → step.is_returned pointer (Some (Pointer to)) ≡ true
pointer_returned of_table to = refl
pointer_returned _ to = refl

-- a call gives a pointer to an object that is there
abbrev pub Gives : Program → ℕ → FuncAddress → ObjectAddress → Pending → Machine → List Frame → Type 0
Gives p most a target pending m below = (k : ℕ) × (k ≤ most)
    × Reaches p k (go_on p pending (step.call p a m [] below)) (go_on p pending (step.give m (Some (Pointer (Some target))) below))

abbrev pub GivesPointer : Program → ℕ → FuncAddress → ObjectAddress → Type 0
GivesPointer p most a target = (pending : Pending) (m : Machine) (below : List Frame) → is_object m target ≡ true
    → Gives p most a target pending m below

-- to an own object
abbrev pub own_stmts : Name → List tree.Stmt
own_stmts object = tree.Return (tree.Address object) ∷ []

pub own_gives : (p : Program) (u item : ℕ) (symbol object : Name) (pointer : CType) → IsPointer pointer → definition_at p u symbol ≡ Some
    (record {
      item = item;
      func = external (accessor_type pointer) symbol [] (own_stmts object);
      body = record { locals = []; stmts = own_stmts object };
    }) → GivesPointer p 1 (UnitFunc u symbol) (record { unit = u; name = object })
own_gives p u item symbol object pointer is_pointer definition pending m below there =
    let s : State = record {
      machine = m;
      running = record { unit = u; item = item; result = pointer; stmts = own_stmts object; rest = own_stmts object; vars = [] };
      below = below;
    } in
    let start : go_on p pending (step.call p (UnitFunc u symbol) m [] below) ≡ Going pending s =
    ap (λ (d : Option Definition). go_on p pending (step.begin d u m [] below)) definition in
    let e : go_on p pending (step.c_step p s) ≡ go_on p pending
    (step.give m (Some (Pointer (Some (record { unit = u; name = object })))) below) =
    rw (there, pointer_returned is_pointer (Some (record { unit = u; name = object }))) refl in
    (1, omega arith, rw start (subst (Reaches p 1 (Going pending s)) e (ways.step p pending s)))

-- to an object that another function gives
abbrev pub passed_stmts : Name → List tree.Stmt
passed_stmts name = tree.Call (Some result_name) (tree.Called name) [] ∷ tree.Return (tree.Value (tree.Name result_name)) ∷ []

pub passed_gives : (p : Program) (most u item : ℕ) (symbol name : Name) (f : tree.Func) (pointer : CType) (inner : FuncAddress)
    (target : ObjectAddress) → IsPointer pointer → f.params ≡ (c_type.Void, None) ∷ [] → f.result ≡ pointer
    → definition_at p u symbol ≡ Some
    (record { item = item; func = f; body = record { locals = (pointer, result_name, Plain 0) ∷ []; stmts = passed_stmts name } })
    → primitive name ≡ None → func_named p u name ≡ Some inner
    → GivesPointer p most inner target → GivesPointer p (most + 2) (UnitFunc u symbol) target
passed_gives p most u item symbol name f pointer inner target is_pointer params result definition free is gives pending m below there =
    let s : State = record { machine = m; running = running (passed_stmts name) ((result_name, Pointer None) ∷ []); below = below } in
    let waiting : Running = running (tree.Return (tree.Value (tree.Name result_name)) ∷ []) ((result_name, Pointer None) ∷ []) in
    let frame : Frame = record { target = Some result_name; running = waiting } in
    let end : Progress = go_on p pending (step.give m (Some (Pointer (Some target))) below) in
    let start : go_on p pending (step.call p (UnitFunc u symbol) m [] below) ≡ Going pending s
    = ap (λ (d : Option Definition). go_on p pending (step.begin d u m [] below)) definition ∙ begins is_pointer in
    let call : go_on p pending (step.c_step p s) ≡ go_on p pending (step.call p inner m [] (frame ∷ below)) = rw (free, is) refl in
    let first : Reaches p 1 (Going pending s) (go_on p pending (step.call p inner m [] (frame ∷ below))) =
    subst (Reaches p 1 (Going pending s)) call (ways.step p pending s) in
    let within = gives pending m (frame ∷ below) there in
    let last : State = record {
      machine = m;
      running = running (tree.Return (tree.Value (tree.Name result_name)) ∷ []) ((result_name, Pointer (Some target)) ∷ []);
      below = below;
    } in
    let may_return : step.is_returned f.result (Some (Pointer (Some target))) ≡ true =
    ap (λ r. step.is_returned r (Some (Pointer (Some target)))) result ∙ pointer_returned is_pointer (Some target) in
    let back : Reaches p 1 (go_on p pending (step.give m (Some (Pointer (Some target))) (frame ∷ below))) end =
    subst (Reaches p 1 (Going pending last)) (ap (λ b. go_on p pending
    (if b then step.give m (Some (Pointer (Some target))) below else step.Stops m Stuck)) may_return) (ways.step p pending last) in (
      1 + (within.0 + 1),
      omega (arith, within.1),
      rw start (ways.join p 1 (within.0 + 1) _ _ _ first (ways.join p within.0 1 _ _ _ within.2 back)),
    )
  where
    running : List tree.Stmt → Vars → Running
    running rest vars = record { unit = u; item = item; result = f.result; stmts = passed_stmts name; rest = rest; vars = vars }

    begins : {pointer : CType} → IsPointer pointer → go_on p pending (step.begin (Some
        (record { item = item; func = f; body = record { locals = (pointer, result_name, Plain 0) ∷ []; stmts = passed_stmts name } }))
        u m [] below) ≡ Going pending
        (record { machine = m; running = running (passed_stmts name) ((result_name, Pointer None) ∷ []); below = below })
    begins of_table = rw params refl
    begins _ = rw params refl
