use Rattle.wasm2c_words.proofs.SetFiles.{files_are_distinct, header_beside, is_c}
use Rattle.wasm2c_words.proofs.set_files.files_of_a_set_are_distinct.Goals as goal

pub returns : goal.returns
returns c = record {
  distinct = files_are_distinct;
  c_file = is_c;
  beside = header_beside;
}
