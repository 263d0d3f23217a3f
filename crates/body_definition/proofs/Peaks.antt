-- A stack of operands is no higher than its code is large.
use Rattle.body_definition.proofs.Common.{ℕ, ◌+◌, ◌≤◌, Bool, true, false, List, [], ◌∷◌, ◌++◌, reverse, length, drop, if◌then◌else◌, ◌==◌}
use Rattle.body_definition.proofs.Common.{slice_get, Some, None, Option, arith, length-append, length-drop, length-reverse, at_index}
use Rattle.body_definition.proofs.Common.{FuncType, ValType, Row, Typing, by_rule, first_row, of_types, opcode_of, rows, Block, BrIf, Call}
use Rattle.body_definition.proofs.Common.{CallIndirect, Code, Drop, GlobalGet, GlobalSet, If, Kind, LocalGet, LocalSet, LocalTee, Loop}
use Rattle.body_definition.proofs.Common.{Otherwise, Select, else_code, end_code, no_else, then_code, code_size, kind_size, otherwise_size}
use Rattle.body_definition.proofs.Common.{Context, Stack, table_type, typing_in, values, after, after_call, ends, peak, peak_in}
use Rattle.body_definition.proofs.Common.{peak_in_else, pushed, turned}

-- ---- an instruction makes a stack higher by one at most

-- no instruction of the table has two results
abbrev results_in : Typing → ℕ
results_in (of_types operands results) = length results
results_in by_rule = 0

abbrev Few : List Row → Type 0
Few [] = Unit {0}
Few (r ∷ rest) = (results_in r.typing ≤ 1) × Few rest

few_in : (opcode : ℕ) (table : List Row) → Few table → results_in (typing_in (first_row opcode table)) ≤ 1
few_in opcode [] few = omega arith
few_in opcode (r ∷ rest) few = grind (arith, r.opcode == opcode, few_in opcode rest few.1)

rows_few : Few rows
rows_few = search arith

turned_few : (typing : Typing) (types : Stack) → results_in typing ≤ 1 → length (turned typing types) ≤ length types + 1
turned_few (of_types operands results) types few = omega (
  arith,
  length-append (reverse results) (drop (length operands) types),
  length-reverse results,
  length-drop (length operands) types,
  few,
)
turned_few by_rule types few = omega arith

tabled_few : (kind : Kind) (types : Stack) → length (turned (table_type kind) types) ≤ length types + 1
tabled_few kind types = turned_few (table_type kind) types (few_in (opcode_of kind) rows rows_few)

pub one_value : (t : Option ValType) → length (values t) ≤ 1
one_value None = omega arith
one_value (Some t) = omega arith

put_few : (t : Option ValType) (types : Stack) → length (values t ++ types) ≤ length types + 1
put_few t types = omega (arith, length-append (values t) types, one_value t)

pushed_few : (t : Option ValType) (types : Stack) → length (pushed t types) ≤ length types + 1
pushed_few None types = omega arith
pushed_few (Some t) types = omega arith

call_few : (f : Option FuncType) (types : Stack) → length (after_call f types) ≤ length types + 1
call_few None types = omega arith
call_few (Some ty) types = omega (arith, put_few ty.result (drop (length ty.params) types), length-drop (length ty.params) types)

pub after_few : (c : Context) (types : Stack) (kind : Kind) → length (after c types kind) ≤ length types + 1
after_few c types Drop = omega (arith, length-drop 1 types)
after_few c types Select = omega (arith, length-drop 2 types)
after_few c types (LocalGet index) = pushed_few (slice_get c.locals index) types
after_few c types (LocalSet index) = omega (arith, length-drop 1 types)
after_few c types (LocalTee index) = omega arith
after_few c types (GlobalGet index) = pushed_few _ types
after_few c types (GlobalSet index) = omega (arith, length-drop 1 types)
after_few c types (Block t code end_place) = put_few t types
after_few c types (Loop t code end_place) = put_few t types
after_few c types (If t code otherwise end_place) = omega (arith, put_few t (drop 1 types), length-drop 1 types)
after_few c types (BrIf label) = omega (arith, length-drop 1 types)
after_few c types (Call index) = call_few (at_index c.funcs index) types
after_few c types (CallIndirect type_index) = omega (arith, call_few (slice_get c.types type_index) (drop 1 types), length-drop 1 types)
after_few c types kind = tabled_few kind types

-- ---- all places of code

behind_few : (b : Bool) (x most : ℕ) → x ≤ most → (if b then 0 else x) ≤ most
behind_few true x most le = omega arith
behind_few false x most le = le

mutual
  pub peak_few : (c : Context) (types : Stack) (code : Code) → peak c types code ≤ length types + code_size code
  peak_few c types end_code = omega arith
  peak_few c types (then_code place kind code) =
      let inside : peak_in c types kind ≤ length types + kind_size kind = peak_in_few c types kind in
      let behind : peak c (after c types kind) code ≤ length (after c types kind) + code_size code = peak_few c (after c types kind) code in
      let more : length (after c types kind) ≤ length types + 1 = after_few c types kind in
      let most : (if ends kind then 0 else peak c (after c types kind) code) ≤ length types + 1 + code_size code =
      behind_few (ends kind) (peak c (after c types kind) code) (length types + 1 + code_size code) (omega (arith, behind, more)) in
      omega (arith, inside, most)

  peak_in_few : (c : Context) (types : Stack) (kind : Kind) → peak_in c types kind ≤ length types + kind_size kind
  peak_in_few c types (Block t code end_place) = omega (arith, peak_few c types code)
  peak_in_few c types (Loop t code end_place) = omega (arith, peak_few c types code)
  peak_in_few c types (If t code otherwise end_place) =
      omega (arith, peak_few c (drop 1 types) code, peak_else_few c (drop 1 types) otherwise, length-drop 1 types)
  peak_in_few c types _ = omega arith

  peak_else_few : (c : Context) (types : Stack) (otherwise : Otherwise)
      → peak_in_else c types otherwise ≤ length types + otherwise_size otherwise
  peak_else_few c types no_else = omega arith
  peak_else_few c types (else_code place code) = peak_few c types code
