-- A listed call begins a wrapper. Its first statement calls a function that stands for the export, and
-- is the statement that the call's own step pays for.
use Rattle.unit_meaning.proofs.Common.{◌≡◌, ℕ, ◌≤◌, true, List, ◌++◌, map, length, Some, Option, numbered, is_result, types_of, FuncType}
use Rattle.unit_meaning.proofs.Common.{Value, init_symbol_of, ListedCall, Program, init_functions, Reaches, Pending, Frame, FuncAddress}
use Rattle.unit_meaning.proofs.Common.{Machine, UnitFunc, IsCallable, StandsFor, called, given, IsAcceptedSet, program_of, symbol_call}
use Rattle.wasm_meaning.specs.LinkedSet as link
use Rattle.wasm_meaning.specs.Run.{Fits, called_func}
use Rattle.c_meaning.specs.Linking.{called_func as symbol_func}

-- the call comes to one of another function with the first statement, and its value back with at most two
pub record WrapsOnce (p : Program) (ty : FuncType) (outer inner : FuncAddress) (pending : Pending) (m : Machine) (args : List Value)
    (below : List Frame) : Type 0 where
  pub frames : List Frame
  pub back : ℕ
  pub few : back ≤ 2
  pub calls : Reaches p 1 (called p pending outer m args below) (called p pending inner m args (frames ++ below))
  pub gives : (after : Machine) (value : Option Value) → is_result ty.result value ≡ true
      → Reaches p back (given p pending after value (frames ++ below)) (given p pending after value below)

pub record IsWrapped (s : link.LinkedSet) (call : ListedCall) : Type 0 where
  pub function : link.FuncAddress
  pub function_is : called_func s call ≡ Some function
  pub callable : IsCallable s (length s.modules) function
  pub ty : FuncType
  pub ty_is : link.func_type s function ≡ Some ty
  pub fit : types_of call.args ≡ ty.params
  pub unit : ℕ
  pub called_is : symbol_func (program_of s) (symbol_call call) ≡ Some (UnitFunc unit (symbol_call call).symbol)
  pub inner : FuncAddress
  pub stands : StandsFor (program_of s) s function inner
  pub wraps : (pending : Pending) (m : Machine) (below : List Frame)
      → WrapsOnce (program_of s) ty (UnitFunc unit (symbol_call call).symbol) inner pending m call.args below

abbrev pub ListedCallsAreWrapped : Type 0
ListedCallsAreWrapped = (s : link.LinkedSet) → IsAcceptedSet s → (call : ListedCall) → Fits s call → IsWrapped s call

-- the functions that are run first are the modules' init functions in their order
abbrev pub InitsAreInOrder : Type 0
InitsAreInOrder =
    (s : link.LinkedSet) → IsAcceptedSet s
    → init_functions (program_of s) ≡ map (λ (m : ℕ × link.NamedModule). UnitFunc m.0 (init_symbol_of m.1.name)) (numbered s.modules)
