-- Pieces of C that several crates make: a number of a type, the first value of a variable, a trap.
use Rattle.std.specs.Prelude.{ℕ, [], ◌∷◌, codes, None}
use Rattle.w2c_base.specs.declared.value.ValType.{ValType}
use Rattle.w2c_base.specs.declared.value.ValType.TheVariants.{I32, I64}
use Rattle.w2c_base.specs.declared.trap.TrapKind.{TrapKind}
use Rattle.w2c_base.specs.Trap.{code_of}
use Rattle.c_tree.specs.declared.tree.CType.{CType}
use Rattle.c_tree.specs.declared.tree.CType.TheVariants as type
use Rattle.c_tree.specs.declared.tree.Num.{Num}
use Rattle.c_tree.specs.declared.tree.Num.TheVariants.{N32, N64, Plain}
use Rattle.c_tree.specs.Tree as tree

-- a number of a type
abbrev pub num : ValType → ℕ → tree.Expr
num I32 n = tree.Number (N32 n)
num I64 n = tree.Number (N64 n)

-- the first value of a variable: 0
abbrev pub zero_number : CType → Num
zero_number type.U32 = N32 0
zero_number type.U64 = N64 0
zero_number _ = Plain 0

-- the statement that ends the run with a trap
abbrev pub trap : TrapKind → tree.Stmt
trap kind = tree.Call None (tree.Called (codes "w2c_trap")) (tree.Value (tree.Number (N32 (code_of kind))) ∷ [])
