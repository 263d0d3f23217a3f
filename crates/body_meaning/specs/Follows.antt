-- When a run of C follows code of a function of a module, with both counts, as it follows calls (`CallsFollow`).
use Rattle.std.specs.Prelude.{◌≡◌, ℕ, zero, suc, ◌<◌, Bool, List, [], ◌∷◌, ◌++◌, Some}
use Rattle.w2c_base.specs.declared.value.ValType.{ValType}
use Rattle.w2c_base.specs.declared.value.Value.{Value}
use Rattle.w2c_base.specs.Values.{types_of}
use Rattle.wasm_typing.specs.Typing.{Stack, values}
use Rattle.c_tree.specs.Tree as tree
use Rattle.c_tree.specs.TypesInC.{c_result_of}
use Rattle.wasm_meaning.specs.LinkedSet as link
use Rattle.wasm_meaning.specs.Store as store
use Rattle.wasm_meaning.specs.Execution as exec
use Rattle.c_meaning.specs.State as state
use Rattle.c_meaning.specs.Linking.{Program}
use Rattle.c_meaning.specs.Run.{Pending, Progress, Going}
use Rattle.c_meaning.specs.Reaches.{Reaches}
use Rattle.alike.specs.CallsFollow.{Paid, Together, StopsAlike}
use Rattle.body_forms.specs.Branches.{Aim}
use Rattle.body_definition.specs.Plain.{Setting}
use Rattle.body_meaning.specs.Agree.{VarsAgree}

-- what does not change while a function's code runs: the program and the set, how many modules are
-- ready, what is pending, who waits, the depth below the function, the function's place and its slots
pub record Site : Type 0 where
  pub program : Program
  pub linked : link.LinkedSet
  pub count : ℕ
  pub pending : Pending
  pub below : List state.Frame
  pub depth : ℕ
  pub setting : Setting
  -- the module's number, which is its unit's
  pub unit : ℕ
  pub item : ℕ
  pub body : tree.Body
  pub slots : ValType → ℕ → Bool
  pub has_element : Bool

-- the function that runs, with these statements to come
abbrev pub state_at : Site → state.Machine → List tree.Stmt → state.Vars → state.State
state_at g m rest vars = record {
  machine = m;
  running = record {
    unit = g.unit;
    item = g.item;
    result = c_result_of g.setting.context.result;
    stmts = g.body.stmts;
    rest = rest;
    vars = vars;
  };
  below = g.below;
}

abbrev pub at : Site → state.Machine → List tree.Stmt → state.Vars → Progress
at g m rest vars = Going g.pending (state_at g m rest vars)

-- where a label leads: the operands under its block, and the statements behind it
pub record Target : Type 0 where
  pub aim : Aim
  pub base : List Value
  pub rest : List tree.Stmt

-- the operands and locals of the function, and the machine, agree at one place of it
pub record StandsAt (g : Site) (stack : List Value) (now : store.State) (m : state.Machine) (vars : state.Vars) : Type 0 where
  pub together : Together g.program g.linked g.count (suc g.depth) m now.store now.trail
  pub variables : VarsAgree g.slots g.has_element stack now.locals vars
  pub local_types : types_of now.locals ≡ g.setting.context.locals

-- the run comes to `rest`
pub record Arrives (g : Site) (spare : ℕ) (rest : List tree.Stmt) (from : Progress) (n left : ℕ) (stack : List Value)
    (now : store.State) : Type 0 where
  pub machine : state.Machine
  pub vars : state.Vars
  pub stands : StandsAt g stack now machine vars
  pub statements : ℕ
  pub way : Reaches g.program statements from (at g machine rest vars)
  pub paid : Paid spare n left statements

-- the run comes to a label, with the label's value on the operands under its block
pub record Branches (g : Site) (spare : ℕ) (t : Target) (from : Progress) (n left : ℕ) (stack : List Value)
    (now : store.State) : Type 0 where
  pub kept : List Value
  pub kept_is : exec.top t.aim.value stack ≡ Some kept
  pub typed : types_of kept ≡ values t.aim.value
  pub less : left < n
  pub arrives : Arrives g spare t.rest from n left (kept ++ t.base) now

abbrev pub BranchesTo : Site → ℕ → List Target → ℕ → Progress → ℕ → ℕ → List Value → store.State → Type 0
BranchesTo g spare [] label from n left stack now = ⊥
BranchesTo g spare (t ∷ targets) zero from n left stack now = Branches g spare t from n left stack now
BranchesTo g spare (t ∷ targets) (suc label) from n left stack now = BranchesTo g spare targets label from n left stack now

-- the labels that may stand in front of a place still: C passes them with the next statement
abbrev pub labelled : List state.Name → List tree.Stmt → List tree.Stmt
labelled [] rest = rest
labelled (name ∷ names) rest = tree.Label name ∷ labelled names rest

-- The run from one place of the function follows code that comes to this result. Its own operands have
-- the types `outs` at its end, above `base`; the last target is the function's exit, where a return goes too.
abbrev pub Follows : Site → ℕ → List Target → Target → List Value → List tree.Stmt → Stack → Progress → ℕ → exec.Result → Type 0
Follows g spare targets exit base rest outs from n (exec.Normal left stack now) =
    (types_of stack ≡ outs) × (names : List state.Name) × Arrives g spare (labelled names rest) from n left (stack ++ base) now
Follows g spare targets exit base rest outs from n (exec.Branch label left stack now) =
    BranchesTo g spare targets label from n left stack now
Follows g spare targets exit base rest outs from n (exec.Returned left stack now) = Branches g spare exit from n left stack now
Follows g spare targets exit base rest outs from n (exec.Stops why now) =
    StopsAlike g.program g.linked g.pending spare from n why now.store now.trail
