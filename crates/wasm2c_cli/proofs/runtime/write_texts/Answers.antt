use Rattle.wasm2c_cli.proofs.Common.{◌≡◌, ℕ, List, [], ◌∷◌, refl, ◌∙◌, Name, runtime_under, runtime_header, runtime_source}
use Rattle.wasm2c_cli.proofs.ModuleFiles.{first_stops, second_stops}
use Rattle.wasm2c_cli.proofs.Passing.{first_ends, second_ends, two_written}
use Rattle.wasm2c_cli.proofs.runtime.write_texts.Goals as goal

-- the files with the texts that the calls had
files_are : {piece other : List ℕ} (header source : Name) → piece ≡ runtime_header → other ≡ runtime_source
    → ◌≡◌ {A = List (Name × List ℕ)} ((header, piece) ∷ (source, other) ∷ []) (runtime_under header source)
files_are header source is is' = λ i. (header, is i) ∷ (source, is' i) ∷ []

pub returns-in-Err-clause-stop : goal.returns-in-Err-clause-stop
returns-in-Err-clause-stop g c =
    let files = files_are c.args.header_file.now c.args.source_file.now (c.as_bytes.ensures.value ∙ c.header.ensures) refl in
    first_stops _ _ _ _ _ c.in-Err.answer c.stop_for.result _ _ _ files c.in-Err.ensures.begun c.in-Err.ensures.cause
    c.in-Err.ensures.named c.stop_for.ensures

pub returns-in-Err-write_file-clause-stop : goal.returns-in-Err-write_file-clause-stop
returns-in-Err-write_file-clause-stop g c =
    let files = files_are c.args.header_file.now c.args.source_file.now (c.as_bytes.ensures.value ∙ c.header.ensures)
    (c.as_bytes-2.ensures.value ∙ c.source.ensures) in
    second_stops _ (g.F.Files.told c.write_file.new.files) _ _ _ _ _ c.in-Err-write_file.answer c.stop_for-in-Err-write_file.result _ _ _
    files c.in_default.ensures.whole c.in_default.ensures.cause.later c.in-Err-write_file.ensures.begun c.in-Err-write_file.ensures.cause
    c.in-Err-write_file.ensures.named c.stop_for-in-Err-write_file.ensures

pub returns-in-Err-clause-tried : goal.returns-in-Err-clause-tried
returns-in-Err-clause-tried g c =
    let files = files_are c.args.header_file.now c.args.source_file.now (c.as_bytes.ensures.value ∙ c.header.ensures) refl in
    first_ends _ _ _ _ _ files c.in-Err.answer c.stop_for.result c.in-Err.ensures.tried c.stop_for.ensures

pub returns-in-Err-write_file-clause-tried : goal.returns-in-Err-write_file-clause-tried
returns-in-Err-write_file-clause-tried g c =
    let files = files_are c.args.header_file.now c.args.source_file.now (c.as_bytes.ensures.value ∙ c.header.ensures)
    (c.as_bytes-2.ensures.value ∙ c.source.ensures) in
    second_ends _ (g.F.Files.trace c.write_file.new.files) _ _ _ _ files c.in-Err-write_file.answer c.stop_for-in-Err-write_file.result
    c.in_default.ensures.passed c.in-Err-write_file.ensures.tried c.stop_for-in-Err-write_file.ensures

pub returns-clause-passed : goal.returns-clause-passed
returns-clause-passed g c =
    let files = files_are c.args.header_file.now c.args.source_file.now (c.as_bytes.ensures.value ∙ c.header.ensures)
    (c.as_bytes-2.ensures.value ∙ c.source.ensures) in
    two_written _ (g.F.Files.trace c.write_file.new.files) _ _ _ _ files c.in_default.ensures.passed c.in_default-write_file.ensures.passed
