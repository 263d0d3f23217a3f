-- Files of a few bytes.
use Rattle.std.specs.Prelude.{ℕ, List, [], ◌∷◌, ◌++◌, false, Some}
use Rattle.w2c_base.specs.declared.value.ValType.TheVariants.{I32}
use Rattle.wasm_tree.specs.declared.tree.Module.{Module}
use Rattle.wasm_tree.specs.Instructions.{end_code, then_code, MemoryCopy}
use Rattle.wasm_spelling.specs.Reading.{no_module}

-- magic and version
abbrev pub head : List ℕ
head = 0x00 ∷ 0x61 ∷ 0x73 ∷ 0x6D ∷ 0x01 ∷ 0x00 ∷ 0x00 ∷ 0x00 ∷ []

-- a count of 0 in five bytes
abbrev pub padded : List ℕ
padded = head ++ 0x01 ∷ 0x05 ∷ 0x80 ∷ 0x80 ∷ 0x80 ∷ 0x80 ∷ 0x00 ∷ []

-- the number of data segments is said, and it is 0
abbrev pub announces_none : Module
announces_none = record no_module { data_count = Some (record { count = 0; place = 10 }) }

-- a global whose expression is a memory.copy, with a sub-opcode in two bytes
abbrev pub copying : List ℕ
copying = head ++ 0x06 ∷ 0x09 ∷ 0x01 ∷ 0x7F ∷ 0x00 ∷ 0xFC ∷ 0x8A ∷ 0x00 ∷ 0x00 ∷ 0x00 ∷ 0x0B ∷ []

abbrev pub copies : Module
copies = record no_module {
  globals = record { ty = I32; mutable = false; code = then_code 13 MemoryCopy end_code; place = 13 } ∷ [];
}
