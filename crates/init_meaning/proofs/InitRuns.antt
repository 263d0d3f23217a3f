-- How the run of an init function follows tasks: one of them, and those behind it.
use Rattle.init_meaning.proofs.Common.{◌≡◌, ℕ, zero, suc, ◌+◌, ◌*◌, ◌≤◌, Bool, true, false, ◌⊎◌, List, [], ◌∷◌, ◌++◌, map, flat_map, None}
use Rattle.init_meaning.proofs.Common.{sym, refl, subst, ◌∙◌, inl, inr, arith, append_assoc, append-nil, Trail, TrapKind, LinkedSet, Task}
use Rattle.init_meaning.proofs.Common.{do_task, done, is_free, stays, Program, Reaches, Over, Pending, Progress, Stopped, over, Agrees}
use Rattle.init_meaning.proofs.Common.{EndsAlike, Paid, StopsAlike, Together, given, and_then, do_tasks}
use Rattle.wasm_meaning.specs.Run.{paid}
use Rattle.wasm_meaning.specs.Store as store
use Rattle.wasm_meaning.specs.Execution as exec
use Rattle.c_tree.specs.Tree as tree
use Rattle.c_meaning.specs.State as state
use Rattle.init_meaning.proofs.InitStatements.{Seat, at, joined}

-- the init function has come back to those who wait for it, with so many statements to spare
pub record ComesBack (p : Program) (s : LinkedSet) (u : ℕ) (pending : Pending) (last : List state.Frame) (spare : ℕ) (from : Progress)
    (n left : ℕ) (made : store.Store) (trail : Trail) : Type 0 where
  pub machine : state.Machine
  pub together : Together p s (suc u) 0 machine made trail
  pub statements : ℕ
  pub way : Reaches p statements from (given p pending machine None last)
  pub paid : Paid spare n left statements

abbrev pub Instantiates : LinkedSet → Seat → ℕ → Progress → ℕ → exec.Called → Type 0
Instantiates s g spare from n (exec.Back left value made trail) = ComesBack g.program s g.unit g.pending g.last spare from n left made trail
Instantiates s g spare from n (exec.CallStops why made trail) = StopsAlike g.program s g.pending spare from n why made trail

-- j statements lead to what pays for m steps, with some to spare
abbrev pub Covers : ℕ → ℕ → ℕ → ℕ → ℕ → Type 0
Covers spare others n m j = (n ≤ m + j) × (j + 400 * m + others ≤ 400 * n + spare)

-- behind statements that were run earlier
pub ends_before : {p : Program} {s : LinkedSet} {pending : Pending} {spare others j n m : ℕ} {from to : Progress} {why : exec.Stop}
    {made : store.Store} {trail : Trail} → Reaches p j from to → Covers spare others n m j
    → EndsAlike p s pending others to m why made trail → EndsAlike p s pending spare from n why made trail
ends_before {j = j} way covers ends = record {
  machine = ends.machine;
  reason = ends.reason;
  same = ends.same;
  agrees = ends.agrees;
  statements = j + ends.statements;
  way = joined way ends.way;
  few = omega (arith, covers, ends.few);
}

pub stops_before : (p : Program) (s : LinkedSet) (pending : Pending) (spare others j n m : ℕ) (from to : Progress) (why : exec.Stop)
    (made : store.Store) (trail : Trail) → Reaches p j from to → Covers spare others n m j
    → StopsAlike p s pending others to m why made trail → StopsAlike p s pending spare from n why made trail
stops_before p s pending spare others j n m from to exec.OutOfSteps made trail way covers h = record
    { to = h.to; goes = h.goes; statements = j + h.statements; way = joined way h.way; least = omega (arith, covers, h.least) }
stops_before p s pending spare others j n m from to exec.Stuck made trail way covers h = h
stops_before p s pending spare others j n m from to (exec.Trapped kind) made trail way covers h = ends_before way covers h
stops_before p s pending spare others j n m from to exec.Asks made trail way covers h = ends_before way covers h

pub before : (s : LinkedSet) (g : Seat) (spare others j n m : ℕ) (from to : Progress) (called : exec.Called)
    → Reaches g.program j from to → Covers spare others n m j → Instantiates s g others to m called → Instantiates s g spare from n called
before s g spare others j n m from to (exec.Back left value made trail) way covers h = record {
  machine = h.machine;
  together = h.together;
  statements = j + h.statements;
  way = joined way h.way;
  paid = record { least = omega (arith, covers, h.paid.least); most = omega (arith, covers, h.paid.most) };
}
before s g spare others j n m from to (exec.CallStops why made trail) way covers h =
    stops_before g.program s g.pending spare others j n m from to why made trail way covers h

-- ---- tasks

-- what a machine, a store, the trail and the function's variables keep at some place
abbrev pub Stage : Type 1
Stage = state.Machine → store.Store → Trail → state.Vars → Type 0

-- From each place at this stage the function's statements follow the tasks.
pub record FollowsTasks (s : LinkedSet) (g : Seat) (spare : ℕ) (stage : Stage) (rest : List tree.Stmt) (tasks : List Task) : Type 0 where
  pub follow : (n : ℕ) (made : store.Store) (trail : Trail) (m : state.Machine) (vars : state.Vars) → stage m made trail vars
      → Instantiates s g spare (at g m rest vars) n (do_tasks s g.unit tasks n made trail)

-- A task is done, and so many statements lead to those behind its own, where another stage is reached.
pub record IsDone (s : LinkedSet) (g : Seat) (t : Task) (stage : Stage) (stmts rest : List tree.Stmt) (m : state.Machine)
    (made : store.Store) (trail : Trail) (vars : state.Vars) : Type 0 where
  pub machine : state.Machine
  pub new : store.Store
  pub locals : state.Vars
  pub does : (n : ℕ) → do_task s g.unit t n made trail ≡ done n new trail
  pub reached : stage machine new trail locals
  pub statements : ℕ
  pub some : 1 ≤ statements
  pub few : statements ≤ 398
  pub way : Reaches g.program statements (at g m stmts vars) (at g machine rest locals)

-- The task traps, and so do its statements.
pub record Traps (s : LinkedSet) (g : Seat) (t : Task) (stmts : List tree.Stmt) (m : state.Machine) (made : store.Store) (trail : Trail)
    (vars : state.Vars) : Type 0 where
  pub kind : TrapKind
  pub machine : state.Machine
  pub agrees : Agrees g.program s machine made trail
  pub does : (n : ℕ) → do_task s g.unit t n made trail ≡ exec.CallStops (exec.Trapped kind) made trail
  pub statements : ℕ
  pub few : statements ≤ 400
  pub way : Reaches g.program statements (at g m stmts vars) (Over (over g.pending machine (Stopped (state.Trapped kind))))

-- the statements of a task that costs a step come to what it comes to
abbrev pub FollowsTask : LinkedSet → Seat → Stage → Task → Stage → List tree.Stmt → List tree.Stmt → Type 0
FollowsTask s g from t to stmts rest =
    (m : state.Machine) (made : store.Store) (trail : Trail) (vars : state.Vars) → from m made trail vars
    → IsDone s g t to stmts rest m made trail vars ⊎ Traps s g t stmts m made trail vars

-- what is known at one stage is known at another
pub at_stage : {s : LinkedSet} {g : Seat} {spare : ℕ} {from to : Stage} {rest : List tree.Stmt} {tasks : List Task}
    → ((m : state.Machine) (made : store.Store) (trail : Trail) (vars : state.Vars) → from m made trail vars → to m made trail vars)
    → FollowsTasks s g spare to rest tasks → FollowsTasks s g spare from rest tasks
at_stage turn follows = record { follow = λ n made trail m vars here. follows.follow n made trail m vars (turn m made trail vars here) }

-- more may be spared
pub more_spare : {s : LinkedSet} {g : Seat} {spare more : ℕ} {stage : Stage} {rest : List tree.Stmt} {tasks : List Task}
    → spare ≤ more → FollowsTasks s g spare stage rest tasks → FollowsTasks s g more stage rest tasks
more_spare {s} {g} {spare} {more} {stage} {rest} {tasks} le follows = record {
  follow = λ n made trail m vars here. before s g more spare 0 n n _ _ (do_tasks s g.unit tasks n made trail)
      (stays g.program (at g m rest vars)) (omega arith, omega (arith, le)) (follows.follow n made trail m vars here);
}

-- A task with its statements, before others with theirs. It takes two statements less than it pays, which those behind it may spare.
pub and_others : {s : LinkedSet} {g : Seat} {spare : ℕ} {from : Stage} {t : Task} {to : Stage} {stmts rest : List tree.Stmt}
    {tasks : List Task} → is_free t ≡ false → FollowsTask s g from t to stmts rest → FollowsTasks s g (spare + 2) to rest tasks
    → FollowsTasks s g spare from stmts (t ∷ tasks)
and_others {s} {g} {spare} {from} {t} {to} {stmts} {rest} {tasks} costs one others = record { follow = follow }
  where
    Follows : state.Machine → state.Vars → ℕ → exec.Called → Type 0
    Follows m vars n c = Instantiates s g spare (at g m stmts vars) n (and_then c (do_tasks s g.unit tasks))

    goes : (k : ℕ) (made : store.Store) (trail : Trail) (m : state.Machine) (vars : state.Vars)
        → IsDone s g t to stmts rest m made trail vars ⊎ Traps s g t stmts m made trail vars
        → Follows m vars (suc k) (do_task s g.unit t k made trail)
    goes k made trail m vars (inl d) = subst (Follows m vars (suc k)) (sym (d.does k))
        (before s g spare (spare + 2) d.statements (suc k) k _ _ (do_tasks s g.unit tasks k d.new trail) d.way
        (omega (arith, d.some), omega (arith, d.few)) (others.follow k d.new trail d.machine d.locals d.reached))
    goes k made trail m vars (inr x) =
        let ends : EndsAlike g.program s g.pending spare (at g m stmts vars) (suc k) (exec.Trapped x.kind) made trail = record {
          machine = x.machine;
          reason = state.Trapped x.kind;
          same = refl;
          agrees = x.agrees;
          statements = x.statements;
          way = x.way;
          few = omega (arith, x.few);
        } in
        subst (Follows m vars (suc k)) (sym (x.does k)) ends

    steps : (n : ℕ) (made : store.Store) (trail : Trail) (m : state.Machine) (vars : state.Vars) → from m made trail vars
        → Follows m vars n (paid false n made trail (λ left. do_task s g.unit t left made trail))
    steps zero made trail m vars here =
        record { to = at g m stmts vars; goes = tt; statements = 0; way = stays g.program (at g m stmts vars); least = omega arith }
    steps (suc k) made trail m vars here = goes k made trail m vars (one m made trail vars here)

    follow : (n : ℕ) (made : store.Store) (trail : Trail) (m : state.Machine) (vars : state.Vars) → from m made trail vars
        → Instantiates s g spare (at g m stmts vars) n (do_tasks s g.unit (t ∷ tasks) n made trail)
    follow n made trail m vars here = rw costs (steps n made trail m vars here)

-- a task with its statements, where nothing more is spared
pub and_just : {s : LinkedSet} {g : Seat} {spare : ℕ} {from : Stage} {t : Task} {to : Stage} {stmts rest : List tree.Stmt}
    {tasks : List Task} → is_free t ≡ false → FollowsTask s g from t to stmts rest → FollowsTasks s g spare to rest tasks
    → FollowsTasks s g spare from stmts (t ∷ tasks)
and_just costs one others = and_others costs one (more_spare (omega arith) others)

-- ---- entries of a kind, each with its statements and its task

-- two statements more are spared, or not
abbrev pub gained : Bool → ℕ → ℕ
gained true spare = spare + 2
gained false spare = spare

pub more_gained : {s : LinkedSet} {g : Seat} {spare : ℕ} {stage : Stage} {rest : List tree.Stmt} {tasks : List Task} (b : Bool)
    → FollowsTasks s g spare stage rest tasks → FollowsTasks s g (gained b spare) stage rest tasks
more_gained true follows = more_spare (omega arith) follows
more_gained false follows = follows

abbrev pub any : {A : Type 0} → List A → Bool
any [] = false
any (x ∷ xs) = true

-- from the stage behind some of all entries the statements of the next follow its task
pub record AreRows (s : LinkedSet) (g : Seat) {A : Type 0} (whole : List A) (stage : List A → Stage) (row : A → List tree.Stmt)
    (task : A → Task) : Type 1 where
  pub costs : (x : A) → is_free (task x) ≡ false
  pub each : (front : List A) (x : A) (behind : List A) (rest : List tree.Stmt) → front ++ x ∷ behind ≡ whole
      → FollowsTask s g (stage front) (task x) (stage (front ++ x ∷ [])) (row x ++ rest) rest

module _ {s : LinkedSet} {g : Seat} {A : Type 0} {whole : List A} {stage : List A → Stage} {row : A → List tree.Stmt} {task : A → Task}
    (r : AreRows s g whole stage row task) where
  pub rows_follow : (spare : ℕ) (front xs behind : List A) (rest : List tree.Stmt) (tasks : List Task) → front ++ (xs ++ behind) ≡ whole
      → FollowsTasks s g (gained (any xs) spare) (stage (front ++ xs)) rest tasks
      → FollowsTasks s g spare (stage front) (flat_map row xs ++ rest) (map task xs ++ tasks)
  rows_follow spare front [] behind rest tasks e follows =
      subst (λ f. FollowsTasks s g spare (stage f) rest tasks) (append-nil front) follows
  rows_follow spare front (x ∷ xs) behind rest tasks e follows =
      rw (append_assoc (row x) (flat_map row xs) rest) (and_others (r.costs x) (r.each front x (xs ++ behind) (flat_map row xs ++ rest) e)
      (rows_follow (spare + 2) (front ++ x ∷ []) xs behind rest tasks (append_assoc front (x ∷ []) (xs ++ behind) ∙ e)
      (more_gained (any xs) (rw (append_assoc front (x ∷ []) xs) follows))))

  -- all of them
  pub rows_all : {spare : ℕ} {rest : List tree.Stmt} {tasks : List Task} → FollowsTasks s g spare (stage whole) rest tasks
      → FollowsTasks s g spare (stage []) (flat_map row whole ++ rest) (map task whole ++ tasks)
  rows_all {spare} {rest} {tasks} follows = rows_follow spare [] whole [] rest tasks (append-nil whole) (more_gained (any whole) follows)
