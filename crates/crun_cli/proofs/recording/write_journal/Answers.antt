use Rattle.crun_cli.proofs.Common.{Some, None, option_map, sym, refl, ◌∙◌, subst, inl, inr, none_passed, passed_so, BreaksOff, Passes}
use Rattle.crun_cli.proofs.Common.{IsBegun, recorded, journal_text, IsWrittenPart, PutsJournal, PutsJournalPart}
use Rattle.w2c_io.specs.declared.answers.WriteAnswer.TheVariants as answer
use Rattle.crun_cli.proofs.recording.write_journal.Goals as goal

pub returns-clause-part : goal.returns-clause-part
returns-clause-part g c =
    let old = g.F.Files.told c.args.files.now in
    let new = g.F.Files.told c.write_file.new.files in
    let name = c.in-Some.name.now in
    let begun = subst (λ text. IsBegun old new name text) (c.as_slice.ensures ∙ c.in-Ok.ensures.text) c.in-Err-write_file.ensures.begun in
    subst (λ j. IsWrittenPart (option_map (λ n. n.now) j) c.args.journal old new) (sym c.in-Some.is) (rw c.in-Some-journal.is begun)

pub returns-in_default-clause-passed : goal.returns-in_default-clause-passed
returns-in_default-clause-passed g c =
    let old = g.F.Files.trace c.args.files.now in
    rw c.in_default.is (none_passed old (PutsJournal None c.args.journal) refl)

pub returns-in-Err-clause-tried : goal.returns-in-Err-clause-tried
returns-in-Err-clause-tried g c =
    let old = g.F.Files.trace c.args.files.now in
    let name = c.in-Some.name.now in
    subst (λ j. Passes old old (PutsJournalPart (option_map (λ n. n.now) j) c.args.journal answer.Memory)) (sym c.in-Some.is)
    (rw c.in-Some-journal.is (none_passed old (PutsJournalPart (Some name) (Some c.in-Some-journal.file) answer.Memory) (inl (refl, refl))))

pub returns-in-Ok-write_file-clause-passed : goal.returns-in-Ok-write_file-clause-passed
returns-in-Ok-write_file-clause-passed g c =
    let old = g.F.Files.trace c.args.files.now in
    let new = g.F.Files.trace c.write_file.new.files in
    let name = c.in-Some.name.now in
    rw c.in-Some.is (rw c.in-Some-journal.is (rw (c.as_slice.ensures ∙ c.in-Ok.ensures.text) at c.in-Ok-write_file.ensures.passed))

pub returns-clause-tried : goal.returns-clause-tried
returns-clause-tried g c =
    let old = g.F.Files.trace c.args.files.now in
    let new = g.F.Files.trace c.write_file.new.files in
    let name = c.in-Some.name.now in
    let file = c.in-Some-journal.file in
    let why = c.in-Err-write_file.answer in
    subst (λ j. Passes old new (PutsJournalPart (option_map (λ n. n.now) j) c.args.journal why)) (sym c.in-Some.is)
    (subst (λ f. Passes old new (PutsJournalPart (Some name) f why)) (sym c.in-Some-journal.is)
    (passed_so old new (BreaksOff name (journal_text (recorded file)) why) (PutsJournalPart (Some name) (Some file) why)
    (λ events broken. inr broken) (rw (c.as_slice.ensures ∙ c.in-Ok.ensures.text) at c.in-Err-write_file.ensures.tried)))
