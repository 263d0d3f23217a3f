-- The C types of value types, results and function types. The list `void` stands for no parameters (C11, 6.7.6.3).
use Rattle.std.specs.Prelude.{List, [], ◌∷◌, map, Option, Some, None}
use Rattle.w2c_base.specs.declared.value.ValType.{ValType}
use Rattle.w2c_base.specs.declared.value.ValType.TheVariants.{I32, I64}
use Rattle.w2c_base.specs.declared.signature.FuncType.{FuncType}
use Rattle.c_tree.specs.declared.tree.CType.{CType}
use Rattle.c_tree.specs.declared.tree.CType.TheVariants.{Void, U32, U64}
use Rattle.c_tree.specs.Tree as tree

abbrev pub c_type_of : ValType → CType
c_type_of I32 = U32
c_type_of I64 = U64

abbrev pub c_result_of : Option ValType → CType
c_result_of None = Void
c_result_of (Some t) = c_type_of t

abbrev pub c_params_of : List ValType → List CType
c_params_of [] = Void ∷ []
c_params_of (t ∷ types) = map c_type_of (t ∷ types)

abbrev pub c_func_type_of : FuncType → tree.FuncType
c_func_type_of ty = record { params = c_params_of ty.params; result = c_result_of ty.result }
