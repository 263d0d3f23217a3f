-- Parts of instructions, with the places given apart.
use Rattle.std.specs.Prelude.{ℕ, ◌-◌, Option, nat_lt}
use Rattle.w2c_base.specs.declared.value.ValType.{ValType}
use Rattle.wasm_tree.specs.declared.code.MemArg.{MemArg}
use Rattle.wasm_tree.specs.Instructions.{Code}
use Rattle.wasm_spelling.specs.Fields.{Fields, byte, number, here, provided}
use Rattle.wasm_spelling.specs.ModuleFields.{block_type_code, code_fields, end_byte}

abbrev pub mem_arg : MemArg → Fields → Fields
mem_arg arg rest = number arg.align (number arg.offset rest)

-- a block of one piece of code
abbrev pub block_fields : (room opcode : ℕ) → Option ValType → Code → (end_place : ℕ) → Fields → Fields
block_fields room opcode ty code end_place rest =
    byte opcode (provided (nat_lt 0 room) (byte (block_type_code ty) (code_fields (room - 1) code (end_byte end_place rest))))

-- an if with both branches
abbrev pub if_fields : (room : ℕ) → Option ValType → (first second : Code) → (else_place end_place : ℕ) → Fields → Fields
if_fields room ty first second else_place end_place rest =
    byte 0x04 (provided (nat_lt 0 room) (byte (block_type_code ty) (code_fields (room - 1) first
    (here else_place (byte 0x05 (code_fields (room - 1) second (end_byte end_place rest)))))))
