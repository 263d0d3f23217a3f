-- A part that the init function calls: inside it the tasks are followed as in the init function itself, and the first of
-- them pays for the call and the return.
use Rattle.wasm_meaning.specs.Store as store
use Rattle.wasm_meaning.specs.Execution as exec
use Rattle.c_tree.specs.Tree as c
use Rattle.c_tree.specs.DefinedNames.{part_name}
use Rattle.c_meaning.specs.State as state
use Rattle.c_init.specs.Init.{Part, call_part, part_end, part_func, part_stmts}
use Rattle.c_prelude.proofs.CallStatements.{named_here}
use Rattle.init_meaning.proofs.Common.{ℕ, suc, ◌+◌, true, List, [], ◌∷◌, ◌++◌, None, refl, subst, arith, Trail, LinkedSet, NamedModule}
use Rattle.init_meaning.proofs.Common.{Task, step, Reaches, Progress, Defines, do_tasks}
use Rattle.init_meaning.proofs.InitStatements.{Seat, at, state_at, frame, call_goes}
use Rattle.init_meaning.proofs.InitRuns.{Stage, FollowsTasks, Instantiates, before}
use Rattle.init_meaning.proofs.InitTests.{HasLocals}
use Rattle.init_meaning.proofs.FirstVars.{init_vars, begins}

-- the seat of a function that was called there, with the item and the statements of that function
abbrev pub inside : Seat → ℕ → List c.Stmt → List c.Stmt → state.Vars → Seat
inside g item stmts rest vars = record {
  program = g.program;
  unit = g.unit;
  item = item;
  stmts = stmts;
  pending = g.pending;
  below = frame g None rest vars ∷ g.below;
  last = g.last;
}

-- those who wait for the init function are the same there
as_outer : (s : LinkedSet) (g : Seat) (item : ℕ) (stmts rest : List c.Stmt) (vars : state.Vars) (spare : ℕ) (from : Progress) (n : ℕ)
    (called : exec.Called) → Instantiates s (inside g item stmts rest vars) spare from n called → Instantiates s g spare from n called
as_outer s g item stmts rest vars spare from n (exec.Back left value made trail) h = h
as_outer s g item stmts rest vars spare from n (exec.CallStops why made trail) h = h

as_inner : (s : LinkedSet) (g : Seat) (item : ℕ) (stmts rest : List c.Stmt) (vars : state.Vars) (spare : ℕ) (from : Progress) (n : ℕ)
    (called : exec.Called) → Instantiates s g spare from n called → Instantiates s (inside g item stmts rest vars) spare from n called
as_inner s g item stmts rest vars spare from n (exec.Back left value made trail) h = h
as_inner s g item stmts rest vars spare from n (exec.CallStops why made trail) h = h

-- what is known at a stage is known inside a function that is called there, and behind its return
pub record Crosses (m : NamedModule) (stage : Seat → Stage) : Type 1 where
  pub locals : (g : Seat) (mach : state.Machine) (made : store.Store) (trail : Trail) (vars : state.Vars) → stage g mach made trail vars
      → HasLocals m.tree vars
  pub enters : (g : Seat) (item : ℕ) (stmts rest : List c.Stmt) (vars : state.Vars) (mach : state.Machine) (made : store.Store)
      (trail : Trail) → stage g mach made trail vars → stage (inside g item stmts rest vars) mach made trail (init_vars m.tree)
  pub leaves : (g : Seat) (item : ℕ) (stmts rest : List c.Stmt) (vars : state.Vars) (mach : state.Machine) (made : store.Store)
      (trail : Trail) (inner : state.Vars)
      → HasLocals m.tree vars → stage (inside g item stmts rest vars) mach made trail inner → stage g mach made trail vars

-- The statements of a part follow its tasks, and leave two statements to spare, wherever it is called.
abbrev pub PartFollows : LinkedSet → Seat → Part → (Seat → Stage) → (Seat → Stage) → List Task → Type 0
PartFollows s g x from to ts =
    (item : ℕ) (rest : List c.Stmt) (vars : state.Vars) (spare : ℕ) (tasks : List Task)
    → FollowsTasks s (inside g item (part_stmts x) rest vars) (spare + 2) (to (inside g item (part_stmts x) rest vars)) (part_end x) tasks
    → FollowsTasks s (inside g item (part_stmts x) rest vars) spare (from (inside g item (part_stmts x) rest vars)) (part_stmts x)
    (ts ++ tasks)

-- the call of a part follows the part's tasks
pub part_called : (s : LinkedSet) (g : Seat) (m : NamedModule) (spare k : ℕ) (x : Part) (from to : Seat → Stage) (rest : List c.Stmt)
    (ts tasks : List Task)
    → Defines g.program g.unit (part_func m.tree (k, x)) → Crosses m from → Crosses m to → PartFollows s g x from to ts
    → FollowsTasks s g (suc spare) (to g) rest tasks → FollowsTasks s g (suc spare) (from g) (call_part k ∷ rest) (ts ++ tasks)
part_called s g m spare k x from to rest ts tasks d cross_from cross_to follows behind = record { follow = follow }
  where
    h : state.Vars → Seat
    h vars = inside g d.item (part_stmts x) rest vars

    way : (mach : state.Machine) (vars : state.Vars)
        → Reaches g.program 1 (at g mach (call_part k ∷ rest) vars) (at (h vars) mach (part_stmts x) (init_vars m.tree))
    way mach vars = subst (Reaches g.program 1 (at g mach (call_part k ∷ rest) vars))
        (begins g.program g.unit true (part_name k) m.tree (part_stmts x) mach g.pending (frame g None rest vars ∷ g.below) d)
        (call_goes g mach None (part_name k) [] (state.UnitFunc g.unit (part_name k)) rest vars [] (λ rest. refl) d.is_no_primitive
        (named_here g.program g.unit (part_name k) _ d.defined))

    -- the return
    back : (vars : state.Vars) → HasLocals m.tree vars → FollowsTasks s (h vars) (spare + 2) (to (h vars)) (part_end x) tasks
    back vars known = record {
      follow = λ n made trail mach inner there.
          as_inner s g d.item (part_stmts x) rest vars (spare + 2) (at (h vars) mach (part_end x) inner) n
          (do_tasks s g.unit tasks n made trail) (before s g (spare + 2) (suc spare) 1 n n _ _ (do_tasks s g.unit tasks n made trail)
          (step g.program g.pending (state_at (h vars) mach (part_end x) inner)) (omega arith, omega arith)
          (behind.follow n made trail mach vars (cross_to.leaves g d.item (part_stmts x) rest vars mach made trail inner known there)));
    }

    follow : (n : ℕ) (made : store.Store) (trail : Trail) (mach : state.Machine) (vars : state.Vars) → from g mach made trail vars
        → Instantiates s g (suc spare) (at g mach (call_part k ∷ rest) vars) n (do_tasks s g.unit (ts ++ tasks) n made trail)
    follow n made trail mach vars here =
        before s g (suc spare) spare 1 n n _ _ (do_tasks s g.unit (ts ++ tasks) n made trail) (way mach vars) (omega arith, omega arith)
        (as_outer s g d.item (part_stmts x) rest vars spare (at (h vars) mach (part_stmts x) (init_vars m.tree)) n
        (do_tasks s g.unit (ts ++ tasks) n made trail)
        ((follows d.item rest vars spare tasks (back vars (cross_from.locals g mach made trail vars here))).follow n made trail mach
        (init_vars m.tree) (cross_from.enters g d.item (part_stmts x) rest vars mach made trail here)))
