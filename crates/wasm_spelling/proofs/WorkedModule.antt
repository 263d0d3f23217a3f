-- README's first module: the tree that its file spells.
use Rattle.std.specs.Char.{encode_utf8}
use Rattle.std.specs.Str.{chars, is_utf8}
use Rattle.std.proofs.Common.{ℕ, List, [], ◌∷◌, Some, None, codes, pos, refl, arith}
use Rattle.w2c_base.specs.declared.value.ValType.TheVariants.{I32}
use Rattle.leb_bytes.specs.Computed.{s32_of, u32_of}
use Rattle.wasm_tree.specs.Instructions.{end_code, then_code, I32Const, Binary}
use Rattle.wasm_tree.specs.declared.operators.BinaryOp.TheVariants.{Add}
use Rattle.wasm_tree.specs.declared.entries.ExportKind.TheVariants.{Func}
use Rattle.wasm_spelling.specs.ModuleFields.{Spells}
use Rattle.wasm_spelling.specs.Steps.{bytes_at, checked, number_at, reads, signed32_at}
use Rattle.wasm_spelling.specs.Reading.{bodies_at, body_at, body_content_at, content_at, exactly_at, export_entry_at, file_at, form_at}
use Rattle.wasm_spelling.specs.Reading.{func_entry_at, func_type_at, item_at, items_at, kind_at, magic_at, module_at, name_at, part_at}
use Rattle.wasm_spelling.specs.Reading.{sections_at, times_at, type_at, type_entry_at, utf8_at, version_at, window_at}
use Rattle.wasm_tree.specs.declared.tree.Module.{Module}
use Rattle.wasm_spelling.proofs.Whole.{file_takes}

-- the 37 bytes of its file
abbrev pub two_wasm : List ℕ
two_wasm =
    0x00 ∷ 0x61 ∷ 0x73 ∷ 0x6D ∷ 0x01 ∷ 0x00 ∷ 0x00 ∷ 0x00
    ∷ 0x01 ∷ 0x05 ∷ 0x01 ∷ 0x60 ∷ 0x00 ∷ 0x01 ∷ 0x7F
    ∷ 0x03 ∷ 0x02 ∷ 0x01 ∷ 0x00
    ∷ 0x07 ∷ 0x05 ∷ 0x01 ∷ 0x01 ∷ 0x66 ∷ 0x00 ∷ 0x00
    ∷ 0x0A ∷ 0x09 ∷ 0x01 ∷ 0x07 ∷ 0x00 ∷ 0x41 ∷ 0x28 ∷ 0x41 ∷ 0x02 ∷ 0x6A ∷ 0x0B
    ∷ []

abbrev pub two_tree : Module
two_tree = record {
  types = record { place = 11; ty = record { params = []; result = Some I32 } } ∷ [];
  imports = [];
  funcs = record { type_index = 0; place = 18 } ∷ [];
  tables = [];
  memories = [];
  globals = [];
  exports = record { name = codes "f"; kind = Func; index = 0; name_place = 22; index_place = 25 } ∷ [];
  start = None;
  elements = [];
  data_count = None;
  segments = [];
  bodies = record {
    runs = [];
    code = then_code 31 (I32Const (pos 40)) (then_code 33 (I32Const (pos 2)) (then_code 35 (Binary I32 Add) end_code));
    end_place = 36;
  } ∷ [];
}

pub two_spelled : Spells two_tree two_wasm
unfolding file_at module_at magic_at version_at exactly_at checked reads sections_at part_at content_at window_at times_at type_entry_at
    func_type_at type_at func_entry_at export_entry_at name_at utf8_at is_utf8 chars encode_utf8 kind_at bodies_at body_at body_content_at
    items_at item_at form_at bytes_at number_at signed32_at u32_of s32_of
two_spelled = (file_takes two_wasm two_tree refl, omega arith)
