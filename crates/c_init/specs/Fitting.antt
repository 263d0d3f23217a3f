-- The initial and offset expressions of a type, by their shapes (WebAssembly Core 1.0, 3.3.7).
use Rattle.std.specs.Prelude.{◌≡◌, false}
use Rattle.w2c_base.specs.declared.value.ValType.{ValType}
use Rattle.wasm_typing.specs.ModuleFaults.{Shape, constant, got, got_unknown, neither}

-- a constant of the type, or a global of the type that is not mutable
abbrev pub ShapeFits : ValType → Shape → Type 0
ShapeFits ty (constant t) = t ≡ ty
ShapeFits ty (got t mutable) = (t ≡ ty) × (mutable ≡ false)
ShapeFits ty got_unknown = ⊥
ShapeFits ty neither = ⊥
