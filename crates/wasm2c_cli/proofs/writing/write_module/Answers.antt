use Rattle.wasm2c_cli.proofs.Common.{◌≡◌, ℕ, List, [], ◌∷◌, Name, Module, Target, module_files, header_text_of, text_of, seen_target}
use Rattle.wasm2c_cli.proofs.ModuleFiles.{both_stand, first_stops, second_stops}
use Rattle.wasm2c_cli.proofs.Passing.{first_ends, second_ends, two_written}
use Rattle.wasm2c_cli.proofs.writing.write_module.Goals as goal

-- the files under the names that the calls had
files_are : {file header : Name} (t : Target) (m : Module) → file ≡ t.c_file → header ≡ t.header → ◌≡◌ {A = List (Name × List ℕ)}
    ((file, text_of m t.module_name) ∷ (header, header_text_of m t.module_name) ∷ []) (module_files t m)
files_are t m same same' = λ i. (same i, text_of m t.module_name) ∷ (same' i, header_text_of m t.module_name) ∷ []

pub returns-in-Err-clause-stop : goal.returns-in-Err-clause-stop
returns-in-Err-clause-stop g c =
    let files = files_are (seen_target c.args.target.now) c.args.module.now c.as_str-c_file.ensures.value c.as_str-header.ensures.value in
    first_stops _ _ _ _ _ c.in-Err.answer c.stop_for.result _ _ _ files c.in-Err.ensures.begun c.in-Err.ensures.cause
    c.in-Err.ensures.named c.stop_for.ensures

pub returns-in-Err-header_to_file-clause-stop : goal.returns-in-Err-header_to_file-clause-stop
returns-in-Err-header_to_file-clause-stop g c =
    let files = files_are (seen_target c.args.target.now) c.args.module.now c.as_str-c_file.ensures.value c.as_str-header.ensures.value in
    second_stops _ (g.F.Files.told c.unit_to_file.new.files) _ _ _ _ _ c.in-Err-header_to_file.answer
    c.stop_for-in-Err-header_to_file.result _ _ _ files c.in_default.ensures.whole c.in_default.ensures.cause.later
    c.in-Err-header_to_file.ensures.begun c.in-Err-header_to_file.ensures.cause c.in-Err-header_to_file.ensures.named
    c.stop_for-in-Err-header_to_file.ensures

pub returns-in-Err-clause-tried : goal.returns-in-Err-clause-tried
returns-in-Err-clause-tried g c =
    let files = files_are (seen_target c.args.target.now) c.args.module.now c.as_str-c_file.ensures.value c.as_str-header.ensures.value in
    first_ends _ _ _ _ _ files c.in-Err.answer c.stop_for.result c.in-Err.ensures.tried c.stop_for.ensures

pub returns-in-Err-header_to_file-clause-tried : goal.returns-in-Err-header_to_file-clause-tried
returns-in-Err-header_to_file-clause-tried g c =
    let files = files_are (seen_target c.args.target.now) c.args.module.now c.as_str-c_file.ensures.value c.as_str-header.ensures.value in
    second_ends _ _ _ _ _ _ files c.in-Err-header_to_file.answer c.stop_for-in-Err-header_to_file.result c.in_default.ensures.passed
    c.in-Err-header_to_file.ensures.tried c.stop_for-in-Err-header_to_file.ensures

pub returns-clause-whole : goal.returns-clause-whole
returns-clause-whole g c =
    let files = files_are (seen_target c.args.target.now) c.args.module.now c.as_str-c_file.ensures.value c.as_str-header.ensures.value in
    both_stand _ _ _ _ _ _ files c.in_default.ensures.whole c.in_default-header_to_file.ensures.whole

pub returns-clause-passed : goal.returns-clause-passed
returns-clause-passed g c =
    let files = files_are (seen_target c.args.target.now) c.args.module.now c.as_str-c_file.ensures.value c.as_str-header.ensures.value in
    two_written _ _ _ _ _ _ files c.in_default.ensures.passed c.in_default-header_to_file.ensures.passed
