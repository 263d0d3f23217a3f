-- Which function of C stands for a function of a linked set (WebAssembly Core 1.0, 4.2.6 function
-- instances): the static function of its body, the host's function, or one that passes its calls on.
use Rattle.std.specs.Prelude.{◌≡◌, ℕ, ◌+◌, ◌≤◌, true, List, map, ◌++◌, Option, Some, option_map}
use Rattle.w2c_base.specs.declared.value.Value.{Value}
use Rattle.w2c_base.specs.declared.signature.FuncType.{FuncType}
use Rattle.w2c_base.specs.Values.{types_of, is_result}
use Rattle.c_tree.specs.DefinedNames.{func_name}
use Rattle.c_tree.specs.TypesInC.{c_func_type_of}
use Rattle.wasm_meaning.specs.LinkedSet as link
use Rattle.c_meaning.specs.State.{FuncAddress, UnitFunc, HostFunc, Number, Machine, Frame}
use Rattle.c_meaning.specs.Linking.{Program, func_type}
use Rattle.c_meaning.specs.Step.{call, give}
use Rattle.c_meaning.specs.Run.{Pending, Progress, go_on}
use Rattle.c_meaning.specs.Reaches.{Reaches}
use Rattle.alike.specs.Alike.{FunctionsAlike}

-- the function of C that a function's calls come to in the end
abbrev pub core : link.FuncAddress → FuncAddress
core (link.ModuleFunc owner index) = UnitFunc owner (func_name index)
core (link.HostFunc host function) = HostFunc host function

-- the run when a call has begun, and when it has given a value back to those who wait
abbrev pub called : Program → Pending → FuncAddress → Machine → List Value → List Frame → Progress
called p pending f m args below = go_on p pending (call p f m (map Number args) below)

abbrev pub given : Program → Pending → Machine → Option Value → List Frame → Progress
given p pending m value below = go_on p pending (give m (option_map Number value) below)

-- A call comes to a call of another function with the same arguments, behind frames that pass its
-- value on, with so many statements at most for both ways.
pub record PassesOn (p : Program) (most : ℕ) (ty : FuncType) (outer inner : FuncAddress) (pending : Pending) (m : Machine)
    (args : List Value) (below : List Frame) : Type 0 where
  pub frames : List Frame
  pub there : ℕ
  pub back : ℕ
  pub few : there + back ≤ most
  pub calls : Reaches p there (called p pending outer m args below) (called p pending inner m args (frames ++ below))
  pub gives : (after : Machine) (value : Option Value) → is_result ty.result value ≡ true
      → Reaches p back (given p pending after value (frames ++ below)) (given p pending after value below)

-- statements that wrappers may take: 16 modules, three each
abbrev pub wrapper_statements : ℕ
wrapper_statements = 48

pub record StandsFor (p : Program) (s : link.LinkedSet) (f : link.FuncAddress) (a : FuncAddress) : Type 0 where
  pub alike : FunctionsAlike s f a
  pub ty : FuncType
  pub ty_is : link.func_type s f ≡ Some ty
  pub c_ty_is : func_type p a ≡ Some (c_func_type_of ty)
  pub passes : (pending : Pending) (m : Machine) (args : List Value) (below : List Frame) → types_of args ≡ ty.params
      → PassesOn p wrapper_statements ty a (core f) pending m args below
