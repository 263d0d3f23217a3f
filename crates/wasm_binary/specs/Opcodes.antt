-- The opcodes of instructions but for blocks, by what stands behind them (WebAssembly Core 1.0, 5.4; Core 2.0, 5.4.6 and 5.4.7).
use Rattle.std.specs.Prelude.{ℕ, Option, Some, None, Err, if◌then◌else◌}
use Rattle.wasm_tree.specs.declared.opcodes.Op.{Op}
use Rattle.wasm_tree.specs.declared.opcodes.Op.TheVariants as op
use Rattle.wasm_tree.specs.Instructions.{Kind}
use Rattle.wasm_tree.specs.Views.{kind_tree}
use Rattle.wasm_tree.specs.Parts.{access_tree, index_tree, numeric_tree, simple_tree}
use Rattle.wasm_tree.specs.InstructionTable as table
use Rattle.wasm_tree.specs.InstructionTable.{Form, nothing, an_index, a_mem_arg, row_of}
use Rattle.wasm_tree.specs.Forms.{form_in}
use Rattle.wasm_spelling.specs.declared.fault.ReadFault.{ReadFault}
use Rattle.wasm_spelling.specs.declared.fault.ReadFault.TheVariants.{Float, Malformed}
use Rattle.wasm_spelling.specs.declared.fault.Cause.TheVariants as cause
use Rattle.wasm_spelling.specs.Steps.{Reader, is_float}
use Rattle.wasm_spelling.specs.Reading.{form_at}
use Rattle.wasm_binary.specs.declared.code.Alone.{Alone}
use Rattle.wasm_binary.specs.declared.code.Alone.TheVariants as alone
use Rattle.wasm_binary.specs.declared.code.Prefixed.{Prefixed}

-- what stands behind the opcode of an operator, and the instruction that this makes
abbrev pub op_form : Op → Form
op_form (op.Simple o) = nothing (simple_tree o)
op_form (op.Index o) = an_index (index_tree o)
op_form (op.Access o) = a_mem_arg (access_tree o)
op_form (op.Numeric o) = nothing (numeric_tree o)

-- the row of a sub-opcode
abbrev pub prefixed_row : ℕ → Prefixed → table.Prefixed
prefixed_row sub_opcode p = record { sub_opcode = sub_opcode; kind = kind_tree p.kind; zeros = p.zeros }

-- the fault of an opcode that begins no instruction
abbrev pub fault_of : ℕ → ℕ → ReadFault
fault_of place b = if is_float b then Float place else Malformed place cause.BadOpcode

-- what stands behind an opcode at a place
abbrev pub by_form : ℕ → ℕ → Option Form → Reader Kind
by_form place b (Some form) a = form_at form a
by_form place b None a = Err (fault_of place b)

unfoldable pub plain_at : ℕ → ℕ → Reader Kind
plain_at place b a = by_form place b (form_in (row_of b)) a

-- the instruction of an operator that its opcode alone spells
abbrev pub alone_tree : Alone → Kind
alone_tree (alone.Simple o) = simple_tree o
alone_tree (alone.Numeric o) = numeric_tree o
