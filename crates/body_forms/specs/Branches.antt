-- Branches (WebAssembly Core 1.0, 2.4.5): a branch moves its value to the height of the block that it leaves, and jumps to the
-- block's label.
use Rattle.std.specs.Prelude.{ℕ, suc, ◌==◌, Bool, true, if◌then◌else◌, List, [], ◌∷◌, ◌++◌, length, slice_get, Option, Some, None}
use Rattle.w2c_base.specs.declared.value.ValType.{ValType}
use Rattle.c_tree.specs.declared.tree.Num.TheVariants.{N32}
use Rattle.c_tree.specs.declared.tree.COp.TheVariants as op
use Rattle.c_tree.specs.Tree as tree
use Rattle.c_tree.specs.Scope.{Name}
use Rattle.c_tree.specs.DefinedNames.{label_name}
use Rattle.body_forms.specs.Slots.{under, operand, set_slot, jump_if}

-- where a branch goes: a label, the height of the operands under its block, and the value that it takes
pub record Aim : Type 0 where
  pub label : ℕ
  pub height : ℕ
  pub value : Option ValType

-- labels from 2 on are those of code: 0 is behind the test of the depth, 1 at the function's exit
abbrev pub entry_label : ℕ
entry_label = 0

abbrev pub exit_label : ℕ
exit_label = 1

abbrev pub first_label : ℕ
first_label = 2

abbrev pub exit_of : Option ValType → Aim
exit_of result = record { label = exit_label; height = 0; value = result }

abbrev pub label_if : Bool → ℕ → List tree.Stmt
label_if named l = if named then tree.Label (label_name l) ∷ [] else []

-- a branch's value stands where it belongs already, or there is none
abbrev pub is_straight : Aim → List ValType → Bool
is_straight aim types = elim aim.value [ None ↦ true | Some t ↦ under 1 types == aim.height ]

abbrev pub carry : Aim → List ValType → List tree.Stmt
carry aim types = elim aim.value [
  | None ↦ []
  | Some t ↦ if under 1 types == aim.height then [] else set_slot t aim.height (operand t (under 1 types)) ∷ []
]

abbrev pub jump : Aim → List ValType → List tree.Stmt
jump aim types = carry aim types ++ tree.Goto (label_name aim.label) ∷ []

-- what is done at a label that is there
abbrev pub if_aim : Option Aim → (Aim → List tree.Stmt) → List tree.Stmt
if_aim None go = []
if_aim (Some aim) go = go aim

-- a branch on a condition, which stood on a stack of these types
abbrev pub branch_if : List ValType → ℕ → Aim → List tree.Stmt
branch_if types l aim =
    if is_straight aim types
    then jump_if op.Ne (length types) aim.label ∷ []
    else jump_if op.Eq (length types) l ∷ (jump aim types ++ tree.Label (label_name l) ∷ [])

-- where a case of a table goes: to the label itself, or to a label of its own that moves the value
abbrev pub case_label : List ValType → ℕ → Option Aim → Name
case_label types l None = label_name l
case_label types l (Some aim) = if is_straight aim types then label_name aim.label else label_name l

abbrev pub cases_from : List Aim → List ValType → ℕ → ℕ → List ℕ → List tree.Case
cases_from aims types n l [] = []
cases_from aims types n l (k ∷ labels) = (N32 n, case_label types l (slice_get aims k)) ∷ cases_from aims types (suc n) (suc l) labels

abbrev pub moving_case : List ValType → ℕ → Aim → List tree.Stmt
moving_case types l aim = if is_straight aim types then [] else tree.Label (label_name l) ∷ jump aim types

-- the jump over the second branch of an `if`, where the first one comes to its end
abbrev pub jump_over : Bool → ℕ → List tree.Stmt
jump_over falls l = if falls then tree.Goto (label_name l) ∷ [] else []
