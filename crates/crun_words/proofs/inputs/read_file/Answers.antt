use Rattle.crun_words.proofs.Common.{◌≡◌, string_bytes, inr, rules, no_file_told, HasNoFile}
use Rattle.crun_words.proofs.inputs.read_file.Goals as goal

pub returns-in_ok-from_str-in-Err-Absent-clause-stop : goal.returns-in_ok-from_str-in-Err-Absent-clause-stop
returns-in_ok-from_str-in-Err-Absent-clause-stop g c =
    let same : string_bytes c.in_ok-from_str-in-Err-Absent.field-0 ≡ c.args.name.now = search rules in
    let none : HasNoFile (g.F.Files.told c.args.files.now) c.args.name.now = search rules in
    (same, inr (no_file_told (g.F.Files.told c.args.files.now) c.args.name.now none))
