-- A statement that calls a function which its unit defines (C11, 6.5.2.2 function calls), and what it
-- comes to.
use Rattle.std.specs.Prelude.{◌≡◌, ℕ, suc, ◌≤◌, List, ◌∷◌, Option, Some, None}
use Rattle.c_tree.specs.Tree as tree
use Rattle.c_meaning.specs.State.{Name, CValue, Machine, Running, Frame, Is}
use Rattle.c_meaning.specs.Linking.{Program, definition_at}
use Rattle.c_meaning.specs.Primitives.{primitive}
use Rattle.c_meaning.specs.Step.{evaluate_args, at_rest}
use Rattle.c_meaning.specs.Run.{Pending, Progress, Going}
use Rattle.c_meaning.specs.Reaches.{Reaches}
use Rattle.c_prelude.specs.Calls.{CallEnd, call_ended}

-- the next statement of the function that runs calls f of its unit with these values
pub record Calls (p : Program) (m : Machine) (r : Running) (target : Option Name) (f : tree.Func) (values : List CValue)
    (rest : List tree.Stmt) : Type 0 where
  pub args : List tree.Arg
  pub next : r.rest ≡ tree.Call target (tree.Called f.name) args ∷ rest
  pub evaluated : evaluate_args p m r args ≡ Is values
  pub is_no_primitive : primitive f.name ≡ None
  pub item : ℕ
  pub body : tree.Body
  pub has_body : f.body ≡ Some body
  pub defined : definition_at p r.unit f.name ≡ Some (record { item = item; func = f; body = body })

-- The run comes there within so many statements, and is not over before.
pub record ComesWithin (p : Program) (most : ℕ) (from to : Progress) : Type 0 where
  pub statements : ℕ
  pub few : statements ≤ most
  pub way : Reaches p statements from to

-- The statement's run comes to the end of the call, where the value goes to the target.
abbrev pub StatementComesTo : Program → Pending → ℕ → Machine → Running → Option Name → List tree.Stmt → CallEnd → List Frame → Type 0
StatementComesTo p pending most m r target rest end below =
    ComesWithin p (suc most)
    (Going pending (record { machine = m; running = r; below = below }))
    (call_ended p pending end (record { target = target; running = at_rest r rest } ∷ below))

-- The run comes there within so many statements and not before so many others, and is not over before.
pub record ComesBetween (p : Program) (least most : ℕ) (from to : Progress) : Type 0 where
  pub statements : ℕ
  pub many : least ≤ statements
  pub few : statements ≤ most
  pub way : Reaches p statements from to

-- the same of a call that takes at least so many statements, and the statement one more
abbrev pub StatementComesBetween : Program → Pending → ℕ → ℕ → Machine → Running → Option Name → List tree.Stmt → CallEnd → List Frame
    → Type 0
StatementComesBetween p pending least most m r target rest end below =
    ComesBetween p (suc least) (suc most)
    (Going pending (record { machine = m; running = r; below = below }))
    (call_ended p pending end (record { target = target; running = at_rest r rest } ∷ below))
