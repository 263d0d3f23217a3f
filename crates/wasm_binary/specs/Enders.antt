-- What closes instructions, and what opens them, as the reader returns them.
use Rattle.std.specs.Prelude.{ℕ, Bool, true, false, Option, Result, Ok, Some, None, ◌==◌, if◌then◌else◌}
use Rattle.w2c_base.specs.declared.value.ValType.{ValType}
use Rattle.wasm_tree.specs.declared.operators.Kind.{Kind as RustKind}
use Rattle.wasm_tree.specs.Instructions.{Code, Kind, Block, Loop, If, no_else, else_code}
use Rattle.wasm_tree.specs.Views.{kind_tree}
use Rattle.wasm_spelling.specs.At.{At}
use Rattle.wasm_spelling.specs.declared.fault.ReadFault.{ReadFault}
use Rattle.wasm_spelling.specs.Steps.{◌>>=◌, Reader, done, reads, Head, a_block, a_loop, an_if}
use Rattle.wasm_spelling.specs.Reading as reading
use Rattle.wasm_binary.specs.declared.rest.Rest.{Rest}
use Rattle.wasm_binary.specs.declared.code.Ender.{Ender}
use Rattle.wasm_binary.specs.declared.code.Ender.TheVariants.{End, Else}
use Rattle.wasm_binary.specs.declared.code.Opener.{Opener}
use Rattle.wasm_binary.specs.declared.code.Opener.TheVariants as opener
use Rattle.wasm_binary.specs.declared.code.Item.{Item}
use Rattle.wasm_binary.specs.declared.code.Item.TheVariants.{Closed, One}
use Rattle.wasm_binary.specs.View.{at}

abbrev pub ender_of : Ender → reading.Ender
ender_of (End place) = reading.by_end place
ender_of (Else place) = reading.by_else place

abbrev pub head_of_opener : Opener → Head
head_of_opener opener.Block = a_block
head_of_opener opener.Loop = a_loop
head_of_opener opener.If = an_if

abbrev pub item_of : Item → reading.Item
item_of (Closed ender) = reading.closed (ender_of ender)
item_of (One instr) = reading.one instr.place (kind_tree instr.kind)

abbrev pub as_kind : RustKind × Rest → Kind × At
as_kind x = (kind_tree x.0, at x.1)

abbrev pub as_item : Item × Rest → reading.Item × At
as_item x = (item_of x.0, at x.1)

-- an instruction that was read, whose opcode stood at a place
abbrev pub as_one : ℕ → Result (Kind × At) ReadFault → Result (reading.Item × At) ReadFault
as_one place read = read >>= λ x. Ok (reading.one place x.0, x.1)

abbrev pub as_code : (Code × Ender) × Rest → (Code × reading.Ender) × At
as_code x = ((x.0.0, ender_of x.0.1), at x.1)

-- what a block's opcode begins
abbrev pub opener_head : ℕ → Option Head
opener_head op = if op == 0x02 then Some a_block else if op == 0x03 then Some a_loop else if op == 0x04 then Some an_if else None

-- whether an `else` may close the instructions of a block
abbrev pub takes_else : Head → Bool
takes_else a_block = false
takes_else a_loop = false
takes_else h = true

-- a block whose instructions an `end` closed
abbrev pub ended_block : Head → Option ValType → Code → ℕ → Kind
ended_block a_block ty code place = Block ty code place
ended_block a_loop ty code place = Loop ty code place
ended_block h ty code place = If ty code no_else place

abbrev pub block_closed : Reader (Code × reading.Ender) → Head → Option ValType → Code × reading.Ender → Reader Kind
block_closed other_at h ty (code, reading.by_end place) = done (ended_block h ty code place)
block_closed other_at h ty (code, reading.by_else place) =
    reads other_at (λ o. done (If ty code (else_code place o.0) (reading.ender_place o.1)))

-- what stands behind a block's opcode: its type, its instructions, and those of its other branch where an `else` closes them
abbrev pub opened_at : ℕ → Head → Reader Kind
opened_at room h =
    reads reading.block_type_at (λ ty.
    reads (reading.code_at room (takes_else h)) (block_closed (reading.code_at room false) h ty))
