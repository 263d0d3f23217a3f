-- The parameters and declared locals of a translated function (WebAssembly Core 1.0, 2.5.3).
use Rattle.std.specs.Prelude.{ℕ, suc, List, [], ◌∷◌, Some, None}
use Rattle.w2c_base.specs.declared.value.ValType.{ValType}
use Rattle.w2c_base.specs.declared.value.ValType.TheVariants as type
use Rattle.c_tree.specs.declared.tree.CType.TheVariants as c_type
use Rattle.c_tree.specs.declared.tree.Num.{Num}
use Rattle.c_tree.specs.declared.tree.Num.TheVariants.{N32, N64}
use Rattle.c_tree.specs.Tree as tree
use Rattle.c_tree.specs.Scope.{Name}
use Rattle.c_tree.specs.TypesInC.{c_type_of}
use Rattle.body_forms.specs.Names.{local_name}

abbrev pub params_from : ℕ → List ValType → List tree.Param
params_from k [] = []
params_from k (t ∷ types) = (c_type_of t, Some (local_name k)) ∷ params_from (suc k) types

-- no parameters are the one parameter `void`
abbrev pub params_of : List ValType → List tree.Param
params_of [] = (c_type.Void, None) ∷ []
params_of (t ∷ types) = params_from 0 (t ∷ types)

abbrev pub zero_number : ValType → Num
zero_number type.I32 = N32 0
zero_number type.I64 = N64 0

-- a local variable that is 0 at first
abbrev pub zero_local : ValType → Name → tree.Local
zero_local t name = (c_type_of t, name, zero_number t)

abbrev pub locals_from : ℕ → List ValType → List tree.Local
locals_from k [] = []
locals_from k (t ∷ types) = zero_local t (local_name k) ∷ locals_from (suc k) types
