-- The operand at a height, an assignment to it, and a jump by its value.
use Rattle.std.specs.Prelude.{ℕ, ◌+◌, List, [], ◌∷◌, length, drop}
use Rattle.w2c_base.specs.declared.value.ValType.{ValType}
use Rattle.w2c_base.specs.declared.value.ValType.TheVariants as type
use Rattle.c_tree.specs.declared.tree.Num.TheVariants.{N32}
use Rattle.c_tree.specs.declared.tree.COp.{COp}
use Rattle.c_tree.specs.declared.tree.COp.TheVariants as op
use Rattle.c_tree.specs.Tree as tree
use Rattle.c_tree.specs.DefinedNames.{label_name}
use Rattle.body_forms.specs.Names.{slot}

-- the operand at a height
abbrev pub operand : ValType → ℕ → tree.Expr
operand t height = tree.Name (slot t height)

abbrev pub set_slot : ValType → ℕ → tree.Expr → tree.Stmt
set_slot t height e = tree.Set (slot t height) (tree.Value e)

abbrev pub jump_if : COp → ℕ → ℕ → tree.Stmt
jump_if o height l = tree.If o (operand type.I32 height) (tree.Number (N32 0)) (label_name l)

-- the first of two values of a type stays, or the second comes in its place
abbrev pub selected : ℕ → ℕ → ValType → List tree.Stmt
selected l h t = jump_if op.Ne (2 + h) l ∷ set_slot t h (operand t (1 + h)) ∷ tree.Label (label_name l) ∷ []

-- the height under the uppermost k operands
abbrev pub under : ℕ → List ValType → ℕ
under k types = length (drop k types)
