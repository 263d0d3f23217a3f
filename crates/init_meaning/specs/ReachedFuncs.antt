-- A function by its index: what it is in both languages, and that its name may be called.
use Rattle.std.specs.Prelude.{◌≡◌, ℕ, suc, Some, None}
use Rattle.w2c_base.specs.declared.signature.FuncType.{FuncType}
use Rattle.wasm_tree.specs.IndexSpaces.{func_type_in}
use Rattle.wasm_tree.specs.NamedModule.{NamedModule}
use Rattle.wasm_meaning.specs.LinkedSet.{LinkedSet, func_at, FuncAddress, func_type}
use Rattle.c_meaning.specs.Linking.{Program, func_named}
use Rattle.c_meaning.specs.Primitives.{primitive}
use Rattle.c_meaning.specs.State as state
use Rattle.alike.specs.Agree.{IsCallable}
use Rattle.alike.specs.Passing.{StandsFor}
use Rattle.c_symbols.specs.Objects.{callee, function_name}

-- a function by its index: what it is in both, and that its name may be called
pub record FuncIsReached (p : Program) (s : LinkedSet) (u : ℕ) (m : NamedModule) (index : ℕ) : Type 0 where
  pub ty : FuncType
  pub ty_is : func_type_in m.tree index ≡ Some ty
  pub function : FuncAddress
  pub function_is : func_at s u index ≡ Some function
  pub typed : func_type s function ≡ Some ty
  pub callable : IsCallable s (suc u) function
  pub callee_is : callee m index ≡ Some (function_name m.tree index)
  pub is_no_primitive : primitive (function_name m.tree index) ≡ None
  pub address : state.FuncAddress
  pub address_is : func_named p u (function_name m.tree index) ≡ Some address
  pub stands : StandsFor p s function address
