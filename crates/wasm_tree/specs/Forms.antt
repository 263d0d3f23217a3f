-- The row of an instruction: the form that its opcode's row has, and that each instruction of a row
-- has the row's opcode and form.
use Rattle.std.specs.Prelude.{◌≡◌, ℕ, ℤ, List, Option, Some, None}
use Rattle.std.specs.List.{AllByRecursion}
use Rattle.wasm_tree.specs.declared.code.MemArg.{MemArg}
use Rattle.wasm_tree.specs.Instructions.{Kind, MemorySize, MemoryGrow, MemoryCopy, MemoryFill, Block, Loop, If, Br, BrIf, BrTable, Call}
use Rattle.wasm_tree.specs.Instructions.{CallIndirect, LocalGet, LocalSet, LocalTee, GlobalGet, GlobalSet, Load, Store, I32Const, I64Const}
use Rattle.wasm_tree.specs.InstructionTable.{Form, nothing, an_index, a_mem_arg, labels, a_type, a_zero, an_i32, an_i64, a_sub_opcode, Row}
use Rattle.wasm_tree.specs.InstructionTable.{row_of, prefixed, opcode_of}

-- the form of an instruction that is no block
abbrev pub form_of : Kind → Option Form
form_of (Block result code end_place) = None
form_of (Loop result code end_place) = None
form_of (If result code otherwise end_place) = None
form_of (Br index) = Some (an_index Br)
form_of (BrIf index) = Some (an_index BrIf)
form_of (BrTable ls default) = Some (labels BrTable)
form_of (Call index) = Some (an_index Call)
form_of (CallIndirect index) = Some (a_type CallIndirect)
form_of (LocalGet index) = Some (an_index LocalGet)
form_of (LocalSet index) = Some (an_index LocalSet)
form_of (LocalTee index) = Some (an_index LocalTee)
form_of (GlobalGet index) = Some (an_index GlobalGet)
form_of (GlobalSet index) = Some (an_index GlobalSet)
form_of (Load op arg) = Some (a_mem_arg (Load op))
form_of (Store op arg) = Some (a_mem_arg (Store op))
form_of MemorySize = Some (a_zero MemorySize)
form_of MemoryGrow = Some (a_zero MemoryGrow)
form_of MemoryCopy = Some a_sub_opcode
form_of MemoryFill = Some a_sub_opcode
form_of (I32Const number) = Some (an_i32 I32Const)
form_of (I64Const number) = Some (an_i64 I64Const)
form_of kind = Some (nothing kind)

-- the form of the opcode's row
abbrev pub form_in : Option Row → Option Form
form_in None = None
form_in (Some r) = Some r.form

-- an instruction that is no block stands in its opcode's row
abbrev pub HasRow : Kind → Type 0
HasRow kind = (form : Form) → form_of kind ≡ Some form → form_in (row_of (opcode_of kind)) ≡ Some form

-- each instruction that a form makes has this opcode and this form
abbrev pub Makes : ℕ → Form → Type 0
Makes opcode (nothing kind) = (opcode_of kind ≡ opcode) × (form_of kind ≡ Some (nothing kind))
Makes opcode (an_index make) = (n : ℕ) → (opcode_of (make n) ≡ opcode) × (form_of (make n) ≡ Some (an_index make))
Makes opcode (a_mem_arg make) = (arg : MemArg) → (opcode_of (make arg) ≡ opcode) × (form_of (make arg) ≡ Some (a_mem_arg make))
Makes opcode (labels make) =
    (ls : List ℕ) (default : ℕ) → (opcode_of (make ls default) ≡ opcode) × (form_of (make ls default) ≡ Some (labels make))
Makes opcode (a_type make) = (n : ℕ) → (opcode_of (make n) ≡ opcode) × (form_of (make n) ≡ Some (a_type make))
Makes opcode (a_zero kind) = (opcode_of kind ≡ opcode) × (form_of kind ≡ Some (a_zero kind))
Makes opcode (an_i32 make) = (n : ℤ) → (opcode_of (make n) ≡ opcode) × (form_of (make n) ≡ Some (an_i32 make))
Makes opcode (an_i64 make) = (n : ℤ) → (opcode_of (make n) ≡ opcode) × (form_of (make n) ≡ Some (an_i64 make))
Makes opcode a_sub_opcode = AllByRecursion (λ r. (opcode_of r.kind ≡ opcode) × (form_of r.kind ≡ Some a_sub_opcode)) prefixed
