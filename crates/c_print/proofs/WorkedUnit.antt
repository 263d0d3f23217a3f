-- README's unit as a tree: what wasm2c writes of a module that exports a function f, which adds 40 and 2.
use Rattle.std.proofs.Common.{◌≡◌, ℕ, Bool, true, false, List, [], ◌∷◌, Some, None, codes, Option, subst, refl}
use Rattle.c_tree.specs.declared.tree.CType.{CType}
use Rattle.c_tree.specs.declared.tree.CType.TheVariants as c_type
use Rattle.c_tree.specs.declared.tree.Num.TheVariants.{N32}
use Rattle.c_tree.specs.declared.tree.COp.TheVariants as op
use Rattle.c_tree.specs.Spelled.{CSpells}
use Rattle.c_tree.specs.Tree as tree
use Rattle.c_tree.proofs.TestsTell.{unit_tells}
use Rattle.c_tree.proofs.WellFormedUnits.{formed}
use Rattle.c_print.specs.Print.{print_of}
use Rattle.c_print.proofs.Spells.{spells}

abbrev function : Bool → CType → List ℕ → Option tree.Body → tree.Item
function is_static result name body =
    tree.Function (record { is_static = is_static; result = result; name = name; params = (c_type.Void, None) ∷ []; body = body })

abbrev n32 : ℕ → tree.Expr
n32 n = tree.Number (N32 n)

abbrev set : List ℕ → tree.Expr → tree.Stmt
set name value = tree.Set name (tree.Value value)

abbrev depth : tree.Expr
depth = tree.Name (codes "w2c_depth")

abbrev slot : tree.Expr
slot = tree.Name (codes "i0")

abbrev pub two_unit : List tree.Item
two_unit =
    function true c_type.U32 (codes "f0") None
    ∷ function true c_type.U32 (codes "f0") (Some (record {
      locals = (c_type.U32, codes "i0", N32 0) ∷ (c_type.U32, codes "i1", N32 0) ∷ [];
      stmts =
          tree.If op.Lt depth (n32 1024) (codes "L0")
          ∷ tree.Call None (tree.Called (codes "w2c_trap")) (tree.Value (n32 8) ∷ [])
          ∷ tree.Return (tree.Value slot)
          ∷ tree.Label (codes "L0")
          ∷ set (codes "w2c_depth") (tree.Op op.Add depth (n32 1))
          ∷ set (codes "i0") (n32 40)
          ∷ set (codes "i1") (n32 2)
          ∷ set (codes "i0") (tree.Op op.Add slot (tree.Name (codes "i1")))
          ∷ set (codes "w2c_depth") (tree.Op op.Sub depth (n32 1))
          ∷ tree.Return (tree.Value slot)
          ∷ [];
    }))
    ∷ function false c_type.U32 (codes "w2cZ_twoZ_fZ_f") (Some (record {
      locals = (c_type.U32, codes "r", N32 0) ∷ [];
      stmts = tree.Call (Some (codes "r")) (tree.Called (codes "f0")) [] ∷ tree.Return (tree.Value (tree.Name (codes "r"))) ∷ [];
    }))
    ∷ function false c_type.Void (codes "w2cZ_twoZ_i") (Some (record { locals = []; stmts = tree.Null ∷ tree.ReturnNone ∷ [] }))
    ∷ []

pub two_spelled_by : (text : List ℕ) → print_of two_unit ≡ text → CSpells two_unit text
two_spelled_by text printed = subst (CSpells two_unit) printed (spells two_unit (formed two_unit (unit_tells two_unit refl)))
