use Rattle.std.proofs.Common.{[], ◌∷◌, ◌++◌, refl, arith}
use Rattle.leb_bytes.specs.Computed.{u32_of}
use Rattle.wasm_spelling.specs.Steps.{number_at, checked, reads}
use Rattle.wasm_spelling.specs.Table.{row, after}
use Rattle.wasm_spelling.specs.Samples.{head, padded, announces_none, copying, copies}
use Rattle.wasm_spelling.specs.Reading.{no_module, file_at, module_at, magic_at, version_at, exactly_at, sections_at, part_at, content_at}
use Rattle.wasm_spelling.specs.Reading.{window_at, times_at, type_at, mutability_at, form_at, item_at, items_at, expression_at}
use Rattle.wasm_spelling.specs.Reading.{data_count_entry_at, global_entry_at}
use Rattle.wasm_spelling.proofs.Whole.{file_takes}
use Rattle.wasm_spelling.proofs.cases.file_cases.Goals as goal

pub returns-clause-empty : goal.returns-clause-empty
unfolding file_at module_at magic_at version_at exactly_at checked reads sections_at
returns-clause-empty c = (file_takes head no_module refl, omega arith)

pub returns-clause-padded_count : goal.returns-clause-padded_count
unfolding file_at module_at magic_at version_at exactly_at checked reads sections_at part_at content_at window_at times_at number_at u32_of
returns-clause-padded_count c = (file_takes padded no_module refl, omega arith)

pub returns-clause-seven_bytes : goal.returns-clause-seven_bytes
unfolding row after checked number_at u32_of
returns-clause-seven_bytes c = (100, refl)

pub returns-clause-unused_bits : goal.returns-clause-unused_bits
unfolding row after checked number_at u32_of
returns-clause-unused_bits c = (100, refl)

pub returns-clause-order : goal.returns-clause-order
unfolding row after checked number_at u32_of
returns-clause-order c = (100, refl)

pub returns-clause-float_type : goal.returns-clause-float_type
unfolding row after checked number_at u32_of
returns-clause-float_type c = (100, refl)

pub returns-clause-no_code : goal.returns-clause-no_code
unfolding row after checked number_at u32_of
returns-clause-no_code c = (100, refl)

pub returns-clause-parameters : goal.returns-clause-parameters
unfolding row after checked number_at u32_of
returns-clause-parameters c = (100, refl)

pub returns-clause-most_parameters : goal.returns-clause-most_parameters
unfolding row after checked number_at u32_of
returns-clause-most_parameters c = (100, refl)

pub returns-clause-pages : goal.returns-clause-pages
unfolding row after checked number_at u32_of
returns-clause-pages c = (100, refl)

pub returns-clause-opcode : goal.returns-clause-opcode
unfolding row after checked number_at u32_of
returns-clause-opcode c = (100, refl)

pub returns-clause-no_data : goal.returns-clause-no_data
unfolding row after checked number_at u32_of
returns-clause-no_data c = (100, refl)

pub returns-clause-other_data : goal.returns-clause-other_data
unfolding row after checked number_at u32_of
returns-clause-other_data c = (100, refl)

pub returns-clause-data_count_behind_code : goal.returns-clause-data_count_behind_code
unfolding row after checked number_at u32_of
returns-clause-data_count_behind_code c = (100, refl)

pub returns-clause-section_id : goal.returns-clause-section_id
unfolding row after checked number_at u32_of
returns-clause-section_id c = (100, refl)

pub returns-clause-sub_opcode : goal.returns-clause-sub_opcode
unfolding row after checked number_at u32_of
returns-clause-sub_opcode c = (100, refl)

pub returns-clause-no_data_wanted : goal.returns-clause-no_data_wanted
unfolding file_at module_at magic_at version_at exactly_at checked reads sections_at part_at content_at
    window_at data_count_entry_at number_at u32_of
returns-clause-no_data_wanted c = (file_takes (head ++ 0x0C ∷ 0x01 ∷ 0x00 ∷ []) announces_none refl, omega arith)

pub returns-clause-copied : goal.returns-clause-copied
unfolding file_at module_at magic_at version_at exactly_at checked reads sections_at part_at content_at
    window_at times_at global_entry_at type_at mutability_at expression_at items_at item_at form_at number_at u32_of
returns-clause-copied c = (file_takes copying copies refl, omega arith)
