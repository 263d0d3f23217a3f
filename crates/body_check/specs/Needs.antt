-- What an instruction with a row of its own needs besides its operands: a memory, and an alignment that is not larger than
-- the access (WebAssembly Core 1.0, 3.3.4).
use Rattle.std.specs.Prelude.{◌^◌, List, [], ◌∷◌, Option, Some, None, nat_le}
use Rattle.wasm_tree.specs.Instructions.{Kind, MemorySize, MemoryGrow, MemoryCopy, MemoryFill, Load, Store}
use Rattle.wasm_tree.specs.Accesses.{load_width, store_width}
use Rattle.wasm_tree.specs.InstructionTable.{Typing, of_types, by_rule}
use Rattle.wasm_typing.specs.declared.fault.ValidCause.{ValidCause}
use Rattle.wasm_typing.specs.Context.{Context}
use Rattle.wasm_typing.specs.Typing.{values, table_type}
use Rattle.wasm_typing.specs.BodyFault.{CauseRow, first_cause, no_memory, misaligned}
use Rattle.body_check.specs.declared.numeric.Needs.{Needs}
use Rattle.body_check.specs.declared.numeric.Needs.TheVariants.{Nothing, Memory, Access}
use Rattle.body_check.specs.declared.numeric.InstrType.{InstrType}
use Rattle.body_check.specs.Checker.{Operands, when, has_memory, turn_tabled}

abbrev pub needs_of : Kind → Needs
needs_of (Load op arg) = Access arg.align (load_width op)
needs_of (Store op arg) = Access arg.align (store_width op)
needs_of MemorySize = Memory
needs_of MemoryGrow = Memory
needs_of MemoryCopy = Memory
needs_of MemoryFill = Memory
needs_of kind = Nothing

-- the type and the needs of an instruction, as the program has them
abbrev pub typing_seen : Option InstrType → Typing
typing_seen None = by_rule
typing_seen (Some ty) = of_types ty.operands.now (values ty.result)

abbrev pub needs_seen : Option InstrType → Needs
needs_seen None = Nothing
needs_seen (Some ty) = ty.needs

-- what is left where the needs are met
abbrev pub where_met : Context → Needs → Option Operands → Option Operands
where_met c Nothing r = r
where_met c Memory r = when (has_memory c) r
where_met c (Access align width) r = when (has_memory c) (when (nat_le (2 ^ align) width) r)

abbrev pub unmet : Context → Needs → List CauseRow
unmet c Nothing = []
unmet c Memory = no_memory c ∷ []
unmet c (Access align width) = no_memory c ∷ misaligned align width ∷ []

-- an instruction by its row alone
abbrev pub row_step : Context → Kind → Operands → Option Operands
row_step c kind s = where_met c (needs_of kind) (turn_tabled (table_type kind) s)

abbrev pub row_cause : Context → Kind → ValidCause
row_cause c kind = first_cause (unmet c (needs_of kind))
