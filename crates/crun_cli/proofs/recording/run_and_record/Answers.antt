use Rattle.crun_cli.proofs.Common.{ℕ, Ok, Err, sym, refl, ap, ◌∙◌, subst, inl, inr, le_refl, none_passed, hosts_of, seen_run, reason_of}
use Rattle.crun_cli.proofs.Common.{reason_for, stopped_by, outside, symbols_of_hosts, AreOffered, IsBlankFor, WritesOfTexts, ended_by}
use Rattle.crun_job.specs.declared.stop.Stop.TheVariants as stop
use Rattle.crun_cli.proofs.Passing.{broken_passed, left_passed, texts_stopped, written_passed}
use Rattle.crun_cli.proofs.ReplaysOffered.{offered_distinct}
use Rattle.crun_cli.proofs.RecordLaws.{is_blank, is_named, journal_part, kept_part, kept_whole, lines_part, ran_status, texts_stop}
use Rattle.crun_cli.proofs.RecordLaws.{whole_run}
use Rattle.crun_cli.proofs.recording.run_and_record.Goals as goal

pub task_of-requires : goal.task_of-requires
task_of-requires g c = record {
  offered = subst (λ hs. AreOffered g.H.HostModule hs) (sym c.as_slice.ensures.value) c.requires.offered;
  many = c.requires.many;
  short = c.requires.short;
}

pub run_task-requires : goal.run_task-requires
run_task-requires g c =
    let m = g.H.HostModule in
    let name = (seen_run c.args.line.now).journal in
    let file = c.in-Ok-blank_journal.journal in
    record {
      symbols = c.in-Ok.ensures.symbols ∙ ap (λ hs. symbols_of_hosts (hosts_of m hs)) c.as_slice.ensures.value;
      fit = c.in-Ok.ensures.fit;
      blank = is_blank m c.args.hosts.items name file
          (subst (λ hs. IsBlankFor m hs name file) c.as_slice-2.ensures.value c.in-Ok-blank_journal.ensures);
    }

pub write_journal-requires : goal.write_journal-requires
write_journal-requires g c =
    let m = g.H.HostModule in
    let name = (seen_run c.args.line.now).journal in
    let file = c.in-Ok-blank_journal.journal in
    let ran = c.in-Ok-run_task.ensures.ran in
    record {
      named = is_named m c.args.hosts.items name file c.in-Ok-run_task.played.journal ran.run.asks
          (subst (λ hs. IsBlankFor m hs name file) c.as_slice-2.ensures.value c.in-Ok-blank_journal.ensures) ran.filled_is;
    }

pub returns-in-Err : goal.returns-in-Err
returns-in-Err g c =
    let m = g.H.HostModule in
    let hosts = c.args.hosts.items in
    let told = g.O.Sink.told c.args.out.now in
    let line = seen_run c.args.line.now in
    let texts = c.args.inputs.units.items in
    let text = c.args.inputs.calls in
    let why = reason_of c.in-Err.stop in
    let seen = outside g.F.Files g.O.Sink c.args.files.now c.args.out.now in
    record {
      ran = tt;
      status = tt;
      stop = texts_stop m hosts line texts text seen seen (record { files = record { told = refl; current = refl }; lines = refl })
          why _ c.as_slice.ensures.value c.in-Err.ensures.stop;
      reads = refl;
      writes = le_refl (g.F.Files.write_faults c.args.files.now);
      writes_kept = tt;
      later = le_refl (g.O.Sink.faults c.args.out.now);
      lines_kept = tt;
      kept = inl refl;
      current = λ none. refl;
      passed = none_passed (g.F.Files.trace c.args.files.now) _ (texts_stopped m hosts line texts text told told (Err c.in-Err.stop) why
          (rw c.as_slice.ensures.value at c.in-Err.ensures.stop) (refl, refl));
    }

pub returns-in-Err-blank_journal : goal.returns-in-Err-blank_journal
returns-in-Err-blank_journal g c =
    let told = g.O.Sink.told c.args.out.now in
    record {
      ran = tt;
      status = tt;
      stop = inl (record { files = record { told = refl; current = refl }; lines = refl });
      reads = refl;
      writes = le_refl (g.F.Files.write_faults c.args.files.now);
      writes_kept = tt;
      later = le_refl (g.O.Sink.faults c.args.out.now);
      lines_kept = tt;
      kept = inl refl;
      current = λ none. refl;
      passed = none_passed (g.F.Files.trace c.args.files.now)
          (WritesOfTexts g.H.HostModule c.args.hosts.items (seen_run c.args.line.now) c.args.inputs.units.items c.args.inputs.calls
          told told (ended_by (Err stop.Memory)) (stopped_by {A = ℕ} (Err stop.Memory))) (inl (refl, (refl, refl)));
    }

pub returns-in-Err-Failed : goal.returns-in-Err-Failed
returns-in-Err-Failed g c =
    let part = lines_part g.H.HostModule c.args.hosts.items (seen_run c.args.line.now) c.args.inputs.units.items c.args.inputs.calls
    (outside g.F.Files g.O.Sink c.args.files.now c.args.out.now) (outside g.F.Files g.O.Sink c.args.files.now c.run_task.new.out)
    _ _ _ _ _ c.as_slice.ensures.value c.in-Ok.ensures.task c.in-Err-Failed.ensures.part refl in
    record {
      ran = tt;
      status = tt;
      stop = (inl (c.in-Err-Failed.ensures.cause.failed (ap Err c.in-Err-Failed.field-0-is)), part);
      reads = refl;
      writes = le_refl (g.F.Files.write_faults c.args.files.now);
      writes_kept = tt;
      later = c.in-Err-Failed.ensures.cause.later;
      lines_kept = tt;
      kept = inl refl;
      current = λ none. refl;
      passed = left_passed g.H.HostModule c.args.hosts.items (seen_run c.args.line.now) c.args.inputs.units.items c.args.inputs.calls
          (g.O.Sink.told c.args.out.now) (g.O.Sink.told c.run_task.new.out) (Err stop.Unwritten) _ _ _ _ _
          c.as_slice.ensures.value c.in-Ok.ensures.task (g.F.Files.trace c.args.files.now) c.in-Err-Failed.ensures.part (inl refl);
    }

pub returns-in-Err-Memory : goal.returns-in-Err-Memory
returns-in-Err-Memory g c = record {
  ran = tt;
  status = tt;
  stop = inr (lines_part g.H.HostModule c.args.hosts.items (seen_run c.args.line.now) c.args.inputs.units.items c.args.inputs.calls
      (outside g.F.Files g.O.Sink c.args.files.now c.args.out.now) (outside g.F.Files g.O.Sink c.args.files.now c.run_task.new.out)
      _ _ _ _ _ c.as_slice.ensures.value c.in-Ok.ensures.task c.in-Err-Memory.ensures.part refl);
  reads = refl;
  writes = le_refl (g.F.Files.write_faults c.args.files.now);
  writes_kept = tt;
  later = c.in-Err-Memory.ensures.cause.later;
  lines_kept = tt;
  kept = inl refl;
  current = λ none. refl;
  passed = left_passed g.H.HostModule c.args.hosts.items (seen_run c.args.line.now) c.args.inputs.units.items c.args.inputs.calls
      (g.O.Sink.told c.args.out.now) (g.O.Sink.told c.run_task.new.out) (Err stop.Memory) _ _ _ _ _
      c.as_slice.ensures.value c.in-Ok.ensures.task (g.F.Files.trace c.args.files.now) c.in-Err-Memory.ensures.part (inr refl);
}

pub returns-in-Ok-write_journal : goal.returns-in-Ok-write_journal
returns-in-Ok-write_journal g c =
    let distinct = offered_distinct (hosts_of g.H.HostModule c.args.hosts.items) c.requires.offered in
    record {
      ran = whole_run g.H.HostModule c.args.hosts.items (seen_run c.args.line.now) c.args.inputs.units.items c.args.inputs.calls
          (outside g.F.Files g.O.Sink c.args.files.now c.args.out.now) (outside g.F.Files g.O.Sink c.write_journal.new.files
          c.run_task.new.out) _ _ _ _ _ c.as_slice.ensures.value c.in-Ok.ensures.task _ _ _ c.in-Ok-run_task.ensures.ran
          _ c.as_slice-2.ensures.value c.in-Ok-blank_journal.ensures distinct c.in-Ok-write_journal.ensures.written;
      status = ran_status c.in-Ok-run_task.ensures.ran.run;
      stop = tt;
      reads = c.write_journal.ensures.reads;
      writes = c.in-Ok-write_journal.ensures.cause.later;
      writes_kept = c.in-Ok-write_journal.ensures.cause.kept;
      later = c.in-Ok-run_task.ensures.cause.later;
      lines_kept = c.in-Ok-run_task.ensures.cause.kept;
      kept = kept_whole (seen_run c.args.line.now).journal c.in-Ok-run_task.played.journal (g.F.Files.told c.args.files.now)
          (g.F.Files.told c.write_journal.new.files) c.in-Ok-write_journal.ensures.written;
      current = c.write_journal.ensures.current;
      passed = written_passed g.H.HostModule c.args.hosts.items (seen_run c.args.line.now) c.args.inputs.units.items c.args.inputs.calls
          (g.O.Sink.told c.args.out.now) (g.O.Sink.told c.run_task.new.out) (Ok c.in-Ok-run_task.played.status)
          _ _ _ _ _ c.as_slice.ensures.value c.in-Ok.ensures.task _ _ _ c.in-Ok-run_task.ensures.ran
          _ c.as_slice-2.ensures.value c.in-Ok-blank_journal.ensures _ _ (g.F.Files.told c.args.files.now) (g.F.Files.told
          c.write_journal.new.files) distinct c.in-Ok-write_journal.ensures.written refl c.in-Ok-write_journal.ensures.passed;
    }

pub returns-in-Err-Failed-write_journal : goal.returns-in-Err-Failed-write_journal
returns-in-Err-Failed-write_journal g c =
    let part = journal_part g.H.HostModule c.args.hosts.items (seen_run c.args.line.now) c.args.inputs.units.items c.args.inputs.calls
    (outside g.F.Files g.O.Sink c.args.files.now c.args.out.now) (outside g.F.Files g.O.Sink c.write_journal.new.files c.run_task.new.out) _
    _ _ _ _ c.as_slice.ensures.value c.in-Ok.ensures.task _ _ _ c.in-Ok-run_task.ensures.ran
    _ c.as_slice-2.ensures.value c.in-Ok-blank_journal.ensures c.in-Err-Failed-write_journal.ensures.part in
    record {
      ran = tt;
      status = tt;
      stop = (inr (c.in-Err-Failed-write_journal.ensures.failed (ap Err c.in-Err-Failed-write_journal.field-0-is)), part);
      reads = c.write_journal.ensures.reads;
      writes = c.in-Err-Failed-write_journal.ensures.cause.later;
      writes_kept = tt;
      later = c.in-Ok-run_task.ensures.cause.later;
      lines_kept = tt;
      kept = kept_part (seen_run c.args.line.now).journal c.in-Ok-run_task.played.journal (g.F.Files.told c.args.files.now)
          (g.F.Files.told c.write_journal.new.files) c.in-Err-Failed-write_journal.ensures.part;
      current = c.write_journal.ensures.current;
      passed = broken_passed g.H.HostModule c.args.hosts.items (seen_run c.args.line.now) c.args.inputs.units.items c.args.inputs.calls
          (g.O.Sink.told c.args.out.now) (g.O.Sink.told c.run_task.new.out) (Err stop.Unwritten)
          _ _ _ _ _ c.as_slice.ensures.value c.in-Ok.ensures.task _ _ _ c.in-Ok-run_task.ensures.ran
          _ c.as_slice-2.ensures.value c.in-Ok-blank_journal.ensures _ _ c.in-Err-Failed-write_journal.field-0
          (ap reason_for (sym c.in-Err-Failed-write_journal.field-0-is)) c.in-Err-Failed-write_journal.ensures.tried;
    }

pub returns-in-Err-Memory-write_journal : goal.returns-in-Err-Memory-write_journal
returns-in-Err-Memory-write_journal g c = record {
  ran = tt;
  status = tt;
  stop = inr (journal_part g.H.HostModule c.args.hosts.items (seen_run c.args.line.now) c.args.inputs.units.items c.args.inputs.calls
      (outside g.F.Files g.O.Sink c.args.files.now c.args.out.now) (outside g.F.Files g.O.Sink c.write_journal.new.files c.run_task.new.out)
      _ _ _ _ _ c.as_slice.ensures.value c.in-Ok.ensures.task _ _ _ c.in-Ok-run_task.ensures.ran
      _ c.as_slice-2.ensures.value c.in-Ok-blank_journal.ensures c.in-Err-Memory-write_journal.ensures.part);
  reads = c.write_journal.ensures.reads;
  writes = c.in-Err-Memory-write_journal.ensures.cause.later;
  writes_kept = tt;
  later = c.in-Ok-run_task.ensures.cause.later;
  lines_kept = tt;
  kept = kept_part (seen_run c.args.line.now).journal c.in-Ok-run_task.played.journal (g.F.Files.told c.args.files.now)
      (g.F.Files.told c.write_journal.new.files) c.in-Err-Memory-write_journal.ensures.part;
  current = c.write_journal.ensures.current;
  passed = broken_passed g.H.HostModule c.args.hosts.items (seen_run c.args.line.now) c.args.inputs.units.items c.args.inputs.calls
      (g.O.Sink.told c.args.out.now) (g.O.Sink.told c.run_task.new.out) (Err stop.Memory)
      _ _ _ _ _ c.as_slice.ensures.value c.in-Ok.ensures.task _ _ _ c.in-Ok-run_task.ensures.ran
      _ c.as_slice-2.ensures.value c.in-Ok-blank_journal.ensures _ _ c.in-Err-Memory-write_journal.field-0
      (ap reason_for (sym c.in-Err-Memory-write_journal.field-0-is)) c.in-Err-Memory-write_journal.ensures.tried;
}
