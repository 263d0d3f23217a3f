-- The end of an init function: the start call and the return (WebAssembly Core 1.0, 4.5.4), and all that comes
-- once the module's objects are made.
use Rattle.std.proofs.lemmas.List.Concat.{flat_map_single}
use Rattle.wasm_meaning.specs.Execution as exec
use Rattle.c_tree.specs.Tree as c
use Rattle.alike.specs.Placed.{IsPlaced}
use Rattle.c_meaning.specs.State as state
use Rattle.c_init.specs.Init.{elements_of, write_one}
use Rattle.c_init.specs.Instantiable.{StartIsValid}
use Rattle.init_meaning.proofs.Common.{◌≡◌, ℕ, suc, ◌+◌, ◌≤◌, List, [], ◌∷◌, ◌++◌, map, Some, None, Option, flat_map, sym, refl, ◌∙◌, subst}
use Rattle.init_meaning.proofs.Common.{append-nil, arith, list_any, numbered, FuncType, ElementEntry, SegmentEntry, Start, Module, Name}
use Rattle.init_meaning.proofs.Common.{LinkedSet, NamedModule, has_bytes, CallStart, Task, TestData, TestElements, WriteByte, WriteElement}
use Rattle.init_meaning.proofs.Common.{start_tasks, step, Reaches, Progress, CallFollows, CallsFollow, call_spare, callee, function_name}
use Rattle.init_meaning.proofs.Common.{called, given, call_start, start_stmts, test_data, test_elements, write_data, write_elements}
use Rattle.init_meaning.proofs.Common.{and_then, do_tasks}
use Rattle.init_meaning.proofs.InitTests.{HasLocals}
use Rattle.init_meaning.proofs.InitStatements.{Seat, at, state_at, running, call_goes, joined}
use Rattle.init_meaning.proofs.InitRuns.{FollowsTasks, Instantiates, Stage, at_stage, before, more_gained, rows_all, stops_before}
use Rattle.init_meaning.proofs.Surroundings.{Surroundings, CanTrap, IsFilled}
use Rattle.init_meaning.specs.ReachedFuncs.{FuncIsReached}
use Rattle.init_meaning.proofs.SegmentTests.{AreTested, data_rows, element_rows}
use Rattle.init_meaning.proofs.ElementWrites.{by_segment, element_task, write_rows}
use Rattle.init_meaning.proofs.DataWrites.{tasks_of, writes_of_data}

-- the function returns
pub returns : (s : LinkedSet) (g : Seat) (m : NamedModule) (spare : ℕ) (rest : List c.Stmt) → g.below ≡ g.last → 1 ≤ spare
    → FollowsTasks s g spare (IsFilled s g m) (c.ReturnNone ∷ rest) []
returns s g m spare rest last some = record {
  follow = λ n made trail mach vars here. record {
    machine = mach;
    together = here.together;
    statements = 1;
    way = subst (λ waiting. Reaches g.program 1 (at g mach (c.ReturnNone ∷ rest) vars) (given g.program g.pending mach None waiting)) last
        (step g.program g.pending (state_at g mach (c.ReturnNone ∷ rest) vars));
    paid = record { least = omega arith; most = omega (arith, some) };
  };
}

abbrev frame_of : Seat → List c.Stmt → state.Vars → state.Frame
frame_of g rest vars = record { target = None; running = running g rest vars }

-- behind a call that was followed
call_then : (s : LinkedSet) (g : Seat) (m : NamedModule) (spare : ℕ) (ty : FuncType) (rest : List c.Stmt) (tasks : List Task) (n : ℕ)
    (vars : state.Vars) (from to : Progress) (result : exec.Called) → HasLocals m.tree vars → Reaches g.program 1 from to
    → CallFollows g.program s (suc g.unit) 0 g.pending (frame_of g rest vars ∷ g.below) ty to n result
    → FollowsTasks s g spare (IsFilled s g m) rest tasks → Instantiates s g (spare + 61) from n (and_then result (do_tasks s g.unit tasks))
call_then s g m spare ty rest tasks n vars from to (exec.Back left value made trail) locals first follows behind =
    before s g (spare + 61) spare (1 + follows.statements) n left _ _ (do_tasks s g.unit tasks left made trail) (joined first follows.way)
    (omega (arith, follows.paid.least), omega (arith, follows.paid.most))
    (behind.follow left made trail follows.machine vars (record { together = follows.together; locals = locals }))
call_then s g m spare ty rest tasks n vars from to (exec.CallStops why made trail) locals first follows behind =
    stops_before g.program s g.pending (spare + 61) call_spare 1 n n from to why made trail first (omega arith, omega arith) follows

pub start_follows : (s : LinkedSet) (g : Seat) (m : NamedModule) (spare func : ℕ) (rest : List c.Stmt) (tasks : List Task)
    → Surroundings s g m → StartIsValid m.tree func → CallsFollow g.program s (suc g.unit) 1024 (exec.call_within s 1024)
    → FollowsTasks s g spare (IsFilled s g m) rest tasks
    → FollowsTasks s g (spare + 61) (IsFilled s g m) (call_start (callee m func) ∷ rest) (CallStart func ∷ tasks)
start_follows s g m spare func rest tasks a valid calls behind = record {
  follow = λ n made trail mach vars here.
      let from : Progress = at g mach (c.Call None (c.Called name) [] ∷ rest) vars in
      rw r.callee_is (rw r.function_is (call_then s g m spare r.ty rest tasks n vars from (called g.program g.pending r.address mach []
      (frame_of g rest vars ∷ g.below)) (exec.call_within s 1024 r.function [] n made trail) here.locals
      (call_goes g mach None name [] r.address rest vars [] (λ rest. refl) r.is_no_primitive r.address_is)
      (calls r.function r.address r.ty [] n 0 made trail mach g.pending (frame_of g rest vars ∷ g.below) r.typed r.callable r.stands
      (sym (valid.no_params r.ty r.ty_is)) tt here.together (omega arith))
      behind));
}
  where
    r : FuncIsReached g.program s g.unit m func
    r = a.known.function func valid.there

    name : Name
    name = function_name m.tree func

-- ---- from the tests on

pub starts : (s : LinkedSet) (g : Seat) (m : NamedModule) (start : Option Start) (rest : List c.Stmt) → g.below ≡ g.last
    → Surroundings s g m → ((x : Start) → start ≡ Some x → StartIsValid m.tree x.index)
    → CallsFollow g.program s (suc g.unit) 1024 (exec.call_within s 1024)
    → FollowsTasks s g 62 (AreTested s g m m.tree.elements m.tree.segments) (start_stmts m start ++ (c.ReturnNone ∷ rest))
    (start_tasks start)
starts s g m start rest last a valid calls = at_stage (λ mach made trail vars t. t.filled) (go start valid)
  where
    go : (start : Option Start) → ((x : Start) → start ≡ Some x → StartIsValid m.tree x.index)
        → FollowsTasks s g 62 (IsFilled s g m) (start_stmts m start ++ (c.ReturnNone ∷ rest)) (start_tasks start)
    go None valid = returns s g m 62 rest last (omega arith)
    go (Some start) valid =
        start_follows s g m 1 start.index (c.ReturnNone ∷ rest) [] a (valid start refl) calls (returns s g m 1 rest last (omega arith))

abbrev pub tasks_behind : Module → List Task
tasks_behind m =
    map TestElements m.elements
    ++ (map TestData m.segments
    ++ (flat_map (λ (e : ElementEntry). map (λ f. WriteElement e f.0 f.1.index) (numbered e.funcs)) m.elements
    ++ (flat_map (λ (d : SegmentEntry). map (λ b. WriteByte d b.0 b.1) (numbered d.bytes)) m.segments
    ++ start_tasks m.start)))

abbrev pub stmts_writing : NamedModule → List c.Stmt → List c.Stmt
stmts_writing m rest = flat_map (write_data m.tree) (numbered m.tree.segments) ++ (start_stmts m m.tree.start ++ (c.ReturnNone ∷ rest))

abbrev pub stmts_behind : NamedModule → List c.Stmt → List c.Stmt
stmts_behind m rest =
    flat_map (test_elements m.tree) m.tree.elements
    ++ (flat_map (test_data m.tree) m.tree.segments
    ++ (flat_map (write_elements m.tree) m.tree.elements
    ++ stmts_writing m rest))

-- nothing is tested before
pub before_tests : (s : LinkedSet) (g : Seat) (m : NamedModule) {spare : ℕ} {rest : List c.Stmt} {tasks : List Task}
    → FollowsTasks s g spare (AreTested s g m [] []) rest tasks → FollowsTasks s g spare (IsFilled s g m) rest tasks
before_tests s g m follows = at_stage (λ mach made trail vars here. record { filled = here; elements_fit = tt; data_fit = tt }) follows

pub filled_follows : (s : LinkedSet) (g : Seat) (m : NamedModule) (rest : List c.Stmt) → g.below ≡ g.last
    → Surroundings s g m → CanTrap g m.tree → CallsFollow g.program s (suc g.unit) 1024 (exec.call_within s 1024)
    → IsPlaced g.stmts (flat_map (write_data m.tree) (numbered m.tree.segments)) (start_stmts m m.tree.start ++ (c.ReturnNone ∷ rest))
    → FollowsTasks s g 62 (IsFilled s g m) (stmts_behind m rest) (tasks_behind m.tree)
filled_follows s g m rest last a trap calls placed =
    let t : Module = m.tree in
    let tested : Stage = AreTested s g m t.elements t.segments in
    let writes : List Task = tasks_of t.segments ++ start_tasks t.start in
    before_tests s g m (rows_all (element_rows s g m a trap) (rows_all (data_rows s g m a trap)
    (rw (flat_map_single (write_one t) (elements_of t) ∙ by_segment (write_one t) t.elements) at (rw (by_segment element_task t.elements) at
    (rows_all (write_rows s g m a)
    (writes_of_data s g m a 62 0 [] t.segments [] (start_stmts m t.start ++ (c.ReturnNone ∷ rest)) (start_tasks t.start)
    (sym (append-nil t.segments)) refl a.instantiable.segments placed
    (more_gained (list_any has_bytes t.segments) (starts s g m t.start rest last a a.instantiable.start calls))))))))
