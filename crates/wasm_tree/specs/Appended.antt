-- Instructions in a list: how many there are, the one at a place in the list, and one more at the end.
use Rattle.std.specs.Prelude.{ℕ, zero, suc, Option, Some, None}
use Rattle.wasm_tree.specs.Instructions.{Code, end_code, then_code, Kind}

-- an instruction with the place of its opcode
pub record InstrTree : Type 0 where
  pub place : ℕ
  pub kind : Kind

infixl 10 ◌+>◌
abbrev pub ◌+>◌ : Code → InstrTree → Code
end_code +> instr = then_code instr.place instr.kind end_code
(then_code place kind code) +> instr = then_code place kind (code +> instr)

abbrev pub code_length : Code → ℕ
code_length end_code = 0
code_length (then_code place kind code) = suc (code_length code)

abbrev pub instr_at : ℕ → Code → Option InstrTree
instr_at i end_code = None
instr_at zero (then_code place kind code) = Some (record { place = place; kind = kind })
instr_at (suc i) (then_code place kind code) = instr_at i code
