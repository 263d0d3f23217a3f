-- An instruction is that of its parts.
use Rattle.body_check.proofs.Common.{◌≡◌, ℕ, refl, subst, Kind, Unreachable, access_tree, index_tree, numeric_tree, parts_of, simple_tree}
use Rattle.body_check.proofs.Common.{IndexOp, needs_of, Nothing}
use Rattle.wasm_tree.specs.declared.operators.IndexOp.TheVariants.{Br}
use Rattle.wasm_tree.specs.declared.operators.Numeric.{Numeric}
use Rattle.wasm_tree.specs.declared.operators.Numeric.TheVariants as numeric
use Rattle.wasm_tree.specs.declared.operators.Parts.{Parts}
use Rattle.wasm_tree.specs.declared.operators.Parts.TheVariants as parts

-- the instruction of these parts, and where they do not say it, this one
abbrev pub tree_of : Parts → Kind → Kind
tree_of (parts.Simple o) kind = simple_tree o
tree_of (parts.Index o index) kind = index_tree o index
tree_of (parts.Access o arg) kind = access_tree o arg
tree_of (parts.Numeric o) kind = numeric_tree o
tree_of parts.Other kind = kind

own_parts : (kind : Kind) → tree_of (parts_of kind) kind ≡ kind
own_parts Unreachable = refl
own_parts _ = refl

pub by_parts : (kind : Kind) (p : Parts) → parts_of kind ≡ p → tree_of p kind ≡ kind
by_parts kind p e = subst (λ (q : Parts). tree_of q kind ≡ kind) e (own_parts kind)

pub index_needs_nothing : (o : IndexOp) (index : ℕ) → needs_of (index_tree o index) ≡ Nothing
index_needs_nothing Br index = refl
index_needs_nothing _ index = refl

pub numeric_needs_nothing : (o : Numeric) → needs_of (numeric_tree o) ≡ Nothing
numeric_needs_nothing (numeric.Eqz t) = refl
numeric_needs_nothing _ = refl
