-- The arguments of a call, by the types of the function's parameters.
use Rattle.std.specs.Prelude.{◌≡◌, ℕ, All, List, map}
use Rattle.w2c_base.specs.declared.value.Value.{Value}
use Rattle.w2c_base.specs.Values.{IsNumber, number_of, type_of, types_of}
use Rattle.c_tree.specs.declared.tree.CType.{CType}
use Rattle.c_tree.specs.TypesInC.{c_params_of, c_type_of}

-- a number is this value for a parameter of a type: u32 or u64, and within the type
pub record IsArgument (ty : CType) (number : ℕ) (value : Value) : Type 0 where
  pub type_is : ty ≡ c_type_of (type_of value)
  pub number_is : number ≡ number_of value
  pub fits : IsNumber value

-- numbers are these values, one for each parameter and within its type; the list void stands for no parameters
pub record AreArguments (params : List CType) (numbers : List ℕ) (values : List Value) : Type 0 where
  pub types_are : params ≡ c_params_of (types_of values)
  pub numbers_are : numbers ≡ map number_of values
  pub fit : All IsNumber values
