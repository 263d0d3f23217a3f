-- A signature number has room for the parameters of each type.
use Rattle.std.specs.Prelude.{◌≡◌, ℕ, ◌≤◌, length, map, Some, slice_get}
use Rattle.w2c_base.specs.declared.signature.FuncType.{FuncType}
use Rattle.wasm_tree.specs.declared.tree.Module.{Module}

-- a signature number has room for the parameters of each type
abbrev pub HaveFewParams : Module → Type 0
HaveFewParams m = (t : ℕ) (ty : FuncType) → Some ty ≡ slice_get (map (λ t. t.ty) m.types) t → length ty.params ≤ 60
