use Rattle.crun_cli.proofs.Common.{◌≤◌, length, Err, sym, ap, subst, passed_so, Passes, IsJournal, recorded, journal_read, Held, reason_of}
use Rattle.crun_cli.proofs.Common.{GivesJournal, TriesJournal, JournalLine, WantOfMemory, stop_for, files_seen, StopsReplay, GivesReplays}
use Rattle.crun_cli.proofs.Common.{TriesReplay}
use Rattle.host_replay.specs.Reading.{IsRefusedAt}
use Rattle.crun_cli.proofs.Passing.{replay_tried}
use Rattle.crun_cli.proofs.ReplaysOffered.{replays_offered}
use Rattle.crun_cli.proofs.RunForm.{journal_stop}
use Rattle.crun_cli.proofs.replaying.replayed_hosts.Goals as goal

pub read_journal-requires : goal.read_journal-requires
read_journal-requires g c = subst (λ t. length t ≤ 67108864) (sym c.as_slice.ensures) c.in-Ok.ensures.fit

pub returns-in-Err : goal.returns-in-Err
returns-in-Err g c =
    let name = c.args.name.now in
    let old = files_seen g.F.Files c.args.files.now in
    let new = files_seen g.F.Files c.read_journal_file.new.files in
    record {
      told = c.read_journal_file.ensures.told;
      current = c.read_journal_file.ensures.current;
      writes = c.read_journal_file.ensures.writes;
      later = c.read_journal_file.ensures.later;
      kept = tt;
      hosts = tt;
      offered = tt;
      stop = subst (λ s. StopsReplay name old new (reason_of s)) (sym c.stop_of.ensures)
          (journal_stop name old new c.in-Err.stop c.in-Err.ensures.stop);
      passed = tt;
      tried =
          let start = g.F.Files.trace c.args.files.now in
          let end = g.F.Files.trace c.read_journal_file.new.files in
          subst (λ s. Passes start end (TriesReplay name (reason_of s))) (sym c.stop_of.ensures)
          (passed_so start end (TriesJournal name c.in-Err.stop) (TriesReplay name (reason_of (stop_for c.in-Err.stop)))
          (replay_tried name c.in-Err.stop) c.in-Err.ensures.tried);
    }

pub returns-in-Err-Line : goal.returns-in-Err-Line
returns-in-Err-Line g c =
    let name = c.args.name.now in
    let old = files_seen g.F.Files c.args.files.now in
    let new = files_seen g.F.Files c.read_journal_file.new.files in
    let number = c.in-Err-Line.number in
    let refused : IsRefusedAt c.in-Ok.text number =
    rw c.as_slice.ensures at (c.in-Err-Line.ensures.line number (ap Err c.in-Err-Line.field-0-is)) in
    record {
      told = c.read_journal_file.ensures.told;
      current = c.read_journal_file.ensures.current;
      writes = c.read_journal_file.ensures.writes;
      later = c.read_journal_file.ensures.later;
      kept = tt;
      hosts = tt;
      offered = tt;
      stop = subst (λ k. StopsReplay name old new (JournalLine k)) (sym c.in-Err-Line.number-is)
          (λ m tells. (c.in-Ok.text, (c.in-Ok.ensures.read m tells, c.in-Ok.ensures.fit), refused));
      passed = tt;
      tried =
          let start = g.F.Files.trace c.args.files.now in
          let end = g.F.Files.trace c.read_journal_file.new.files in
          subst (λ k. Passes start end (TriesReplay name (JournalLine k))) (sym c.in-Err-Line.number-is)
          (passed_so start end (GivesJournal name (Held c.in-Ok.text)) (TriesReplay name (JournalLine number))
          (λ events gives. (c.in-Ok.text, gives, refused)) c.in-Ok.ensures.passed);
    }

pub returns-in-Err-Memory : goal.returns-in-Err-Memory
returns-in-Err-Memory g c =
    record {
      told = c.read_journal_file.ensures.told;
      current = c.read_journal_file.ensures.current;
      writes = c.read_journal_file.ensures.writes;
      later = c.read_journal_file.ensures.later;
      kept = tt;
      hosts = tt;
      offered = tt;
      stop = tt;
      passed = tt;
      tried = passed_so _ _ (GivesJournal c.args.name.now (Held c.in-Ok.text)) (TriesReplay c.args.name.now WantOfMemory)
          (journal_read c.args.name.now (Held c.in-Ok.text)) c.in-Ok.ensures.passed;
    }

pub returns-in-Ok-replay_hosts : goal.returns-in-Ok-replay_hosts
returns-in-Ok-replay_hosts g c =
    let text = c.in-Ok.text in
    let file = c.in-Ok-read_journal.file in
    let journal : IsJournal text (recorded file) =
    subst (λ t. IsJournal t (recorded file)) c.as_slice.ensures c.in-Ok-read_journal.ensures.journal in
    record {
      told = c.read_journal_file.ensures.told;
      current = c.read_journal_file.ensures.current;
      writes = c.read_journal_file.ensures.writes;
      later = c.read_journal_file.ensures.later;
      kept = c.in-Ok.ensures.kept;
      hosts = λ m tells.
          (recorded file, (text, (c.in-Ok.ensures.read m tells, c.in-Ok.ensures.fit), journal), c.in-Ok-replay_hosts.ensures);
      offered = replays_offered c.as_slice.result.now _ c.in-Ok-replay_hosts.hosts.items c.in-Ok-read_journal.ensures.journal
          c.in-Ok-replay_hosts.ensures;
      stop = tt;
      passed = passed_so _ _ (GivesJournal c.args.name.now (Held text)) (GivesReplays c.args.name.now c.in-Ok-replay_hosts.hosts.items)
          (λ events gives. (recorded file, (text, gives, journal), c.in-Ok-replay_hosts.ensures)) c.in-Ok.ensures.passed;
      tried = tt;
    }

pub returns : goal.returns
returns g c =
    record {
      told = c.read_journal_file.ensures.told;
      current = c.read_journal_file.ensures.current;
      writes = c.read_journal_file.ensures.writes;
      later = c.read_journal_file.ensures.later;
      kept = tt;
      hosts = tt;
      offered = tt;
      stop = tt;
      passed = tt;
      tried = passed_so _ _ (GivesJournal c.args.name.now (Held c.in-Ok.text)) (TriesReplay c.args.name.now WantOfMemory)
          (journal_read c.args.name.now (Held c.in-Ok.text)) c.in-Ok.ensures.passed;
    }
