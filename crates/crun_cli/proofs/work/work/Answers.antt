use Rattle.crun_cli.proofs.Common.{ℕ, Some, Ok, Err, sym, refl, ap, ◌∙◌, subst, inl, le_refl, none_passed, texts, merges, runs, trims}
use Rattle.crun_cli.proofs.Common.{seen_line, seen_merge, seen_run, seen_trim, reason_of, stopped_by, outside, AreOffered, ended_by}
use Rattle.crun_words.specs.Seen.{HasFewUnits}
use Rattle.crun_job.specs.declared.stop.Stop.TheVariants as stop
use Rattle.crun_cli.specs.Files.{WritesNothing}
use Rattle.crun_cli.proofs.EndPasses.{words_merge, words_run, words_trim}
use Rattle.crun_cli.proofs.Passing.{usage_passed, words_wanting}
use Rattle.crun_cli.proofs.WriteForms.{has_line, kept_line, kept_unit, merge_done, merge_stop, trim_done, trim_stop}
use Rattle.crun_cli.proofs.work.work.Goals as goal

pub run-requires : goal.run-requires
run-requires g c = record {
  offered = c.requires.offered;
  few = subst (λ l. HasFewUnits l) c.in-Run.is c.in-Ok.ensures.few;
}

pub merge-requires : goal.merge-requires
merge-requires g c = record {
  offered = subst (λ hs. AreOffered g.H.HostModule hs) (sym c.as_slice.ensures.value) c.requires.offered;
  few = subst (λ l. HasFewUnits l) c.in-Merge.is c.in-Ok.ensures.few;
}

pub returns-in-Err-Usage : goal.returns-in-Err-Usage
returns-in-Err-Usage g c =
    let words = texts c.args.words.now in
    let told = g.O.Sink.told c.args.out.now in
    let usage = c.in-Err-Usage.ensures.usage (ap Err c.in-Err-Usage.field-0-is) in
    record {
      finished = tt;
      status = tt;
      line = tt;
      stop = (usage, record { files = record { told = refl; current = refl }; lines = refl });
      reads = le_refl (g.F.Files.read_faults c.args.files.now);
      writes = le_refl (g.F.Files.write_faults c.args.files.now);
      reads_kept = tt;
      writes_kept = tt;
      later = le_refl (g.O.Sink.faults c.args.out.now);
      lines_kept = tt;
      kept = inl refl;
      current = λ nothing. refl;
      passed = none_passed (g.F.Files.trace c.args.files.now) _ (usage_passed g.H.HostModule c.args.hosts.items words told told
          (ended_by (Err stop.Usage)) (stopped_by {A = ℕ} (Err stop.Usage)) usage refl refl);
    }

pub returns-in-Err-Memory : goal.returns-in-Err-Memory
returns-in-Err-Memory g c =
    let words = texts c.args.words.now in
    let told = g.O.Sink.told c.args.out.now in
    record {
      finished = tt;
      status = tt;
      line = tt;
      stop = λ m tells. inl (record { files = record { told = refl; current = refl }; lines = refl });
      reads = le_refl (g.F.Files.read_faults c.args.files.now);
      writes = le_refl (g.F.Files.write_faults c.args.files.now);
      reads_kept = tt;
      writes_kept = tt;
      later = le_refl (g.O.Sink.faults c.args.out.now);
      lines_kept = tt;
      kept = inl refl;
      current = λ nothing. refl;
      passed = none_passed (g.F.Files.trace c.args.files.now) _ (words_wanting g.H.HostModule c.args.hosts.items words told told
          (ended_by (Err stop.Memory)) (stopped_by {A = ℕ} (Err stop.Memory)) refl refl);
    }

pub returns-in-Ok-run : goal.returns-in-Ok-run
returns-in-Ok-run g c =
    let line = seen_run c.in-Run.line in
    let words = texts c.args.words.now in
    let is = c.in-Ok.ensures.line ∙ ap (λ l. Some (seen_line l)) c.in-Run.is in
    let old = outside g.F.Files g.O.Sink c.args.files.now c.args.out.now in
    let new = outside g.F.Files g.O.Sink c.run.new.files c.run.new.out in
    record {
      finished = λ m tells. inl (c.in-Ok-run.ensures.ran words is m tells);
      status = c.in-Ok-run.ensures.status;
      line = has_line words (runs line) is;
      stop = tt;
      reads = c.run.ensures.reads;
      writes = c.run.ensures.writes;
      reads_kept = c.in-Ok-run.ensures.reads_kept;
      writes_kept = c.in-Ok-run.ensures.writes_kept;
      later = c.run.ensures.later;
      lines_kept = c.in-Ok-run.ensures.lines_kept;
      kept = kept_line words (runs line) is old new c.run.ensures.kept;
      current = λ nothing. c.run.ensures.current (subst (λ l. WritesNothing l) is nothing);
      passed = words_run g.H.HostModule c.args.hosts.items words old.out.told (g.F.Files.trace c.args.files.now)
          (g.F.Files.trace c.run.new.files) new.out.told (Ok c.in-Ok-run.status) line is c.in-Ok-run.ensures.passed;
    }

pub returns-in-Run : goal.returns-in-Run
returns-in-Run g c =
    let line = seen_run c.in-Run.line in
    let words = texts c.args.words.now in
    let is = c.in-Ok.ensures.line ∙ ap (λ l. Some (seen_line l)) c.in-Run.is in
    let old = outside g.F.Files g.O.Sink c.args.files.now c.args.out.now in
    let new = outside g.F.Files g.O.Sink c.run.new.files c.run.new.out in
    record {
      finished = tt;
      status = tt;
      line = tt;
      stop = c.in-Err.ensures.stop words is;
      reads = c.run.ensures.reads;
      writes = c.run.ensures.writes;
      reads_kept = tt;
      writes_kept = tt;
      later = c.run.ensures.later;
      lines_kept = tt;
      kept = kept_line words (runs line) is old new c.run.ensures.kept;
      current = λ nothing. c.run.ensures.current (subst (λ l. WritesNothing l) is nothing);
      passed = words_run g.H.HostModule c.args.hosts.items words old.out.told (g.F.Files.trace c.args.files.now)
          (g.F.Files.trace c.run.new.files) new.out.told (Err c.in-Err.stop) line is c.in-Err.ensures.passed;
    }

pub returns-in-Ok-merge : goal.returns-in-Ok-merge
returns-in-Ok-merge g c =
    let line = seen_merge c.in-Merge.line in
    let words = texts c.args.words.now in
    let is = c.in-Ok.ensures.line ∙ ap (λ l. Some (seen_line l)) c.in-Merge.is in
    let old = outside g.F.Files g.O.Sink c.args.files.now c.args.out.now in
    let new = outside g.F.Files g.O.Sink c.merge.new.files c.args.out.now in
    record {
      finished = λ m tells. rw c.as_slice.ensures.value at
          (merge_done g.H.HostModule c.as_slice.result.now words old.out old.files new.files line is m
          (c.in-Ok-merge.ensures.wrote m tells));
      status = inl refl;
      line = has_line words (merges line) is;
      stop = tt;
      reads = c.merge.ensures.reads;
      writes = c.merge.ensures.writes;
      reads_kept = c.in-Ok-merge.ensures.reads_kept;
      writes_kept = c.in-Ok-merge.ensures.writes_kept;
      later = le_refl (g.O.Sink.faults c.args.out.now);
      lines_kept = refl;
      kept = kept_unit words (merges line) line.output refl is old new c.merge.ensures.kept;
      current = λ nothing. absurd (subst (λ l. WritesNothing l) is nothing);
      passed = words_merge g.H.HostModule c.args.hosts.items words old.out.told (g.F.Files.trace c.args.files.now)
          (g.F.Files.trace c.merge.new.files) (ended_by (Ok 0)) (stopped_by {A = ℕ} (Ok 0)) line is _ c.as_slice.ensures.value
          c.in-Ok-merge.ensures.passed;
    }

pub returns-in-Merge : goal.returns-in-Merge
returns-in-Merge g c =
    let line = seen_merge c.in-Merge.line in
    let words = texts c.args.words.now in
    let is = c.in-Ok.ensures.line ∙ ap (λ l. Some (seen_line l)) c.in-Merge.is in
    let old = outside g.F.Files g.O.Sink c.args.files.now c.args.out.now in
    let new = outside g.F.Files g.O.Sink c.merge.new.files c.args.out.now in
    record {
      finished = tt;
      status = tt;
      line = tt;
      stop = rw c.as_slice.ensures.value at (merge_stop g.H.HostModule c.as_slice.result.now words old.out old.files new.files line is
          (reason_of c.in-Err-merge.stop) c.in-Err-merge.ensures.stop);
      reads = c.merge.ensures.reads;
      writes = c.merge.ensures.writes;
      reads_kept = tt;
      writes_kept = tt;
      later = le_refl (g.O.Sink.faults c.args.out.now);
      lines_kept = tt;
      kept = kept_unit words (merges line) line.output refl is old new c.merge.ensures.kept;
      current = λ nothing. absurd (subst (λ l. WritesNothing l) is nothing);
      passed = words_merge g.H.HostModule c.args.hosts.items words old.out.told (g.F.Files.trace c.args.files.now)
          (g.F.Files.trace c.merge.new.files) (ended_by (Err c.in-Err-merge.stop)) (stopped_by {A = ℕ} (Err c.in-Err-merge.stop)) line is
          _ c.as_slice.ensures.value c.in-Err-merge.ensures.passed;
    }

pub returns-in-Ok-trim_unit : goal.returns-in-Ok-trim_unit
returns-in-Ok-trim_unit g c =
    let line = seen_trim c.in-Trim.line in
    let words = texts c.args.words.now in
    let is = c.in-Ok.ensures.line ∙ ap (λ l. Some (seen_line l)) c.in-Trim.is in
    let old = outside g.F.Files g.O.Sink c.args.files.now c.args.out.now in
    let new = outside g.F.Files g.O.Sink c.trim_unit.new.files c.args.out.now in
    record {
      finished = λ m tells. trim_done g.H.HostModule c.args.hosts.items words old.out old.files new.files line is m
          (c.in-Ok-trim_unit.ensures.wrote m tells);
      status = inl refl;
      line = has_line words (trims line) is;
      stop = tt;
      reads = c.trim_unit.ensures.reads;
      writes = c.trim_unit.ensures.writes;
      reads_kept = c.in-Ok-trim_unit.ensures.reads_kept;
      writes_kept = c.in-Ok-trim_unit.ensures.writes_kept;
      later = le_refl (g.O.Sink.faults c.args.out.now);
      lines_kept = refl;
      kept = kept_unit words (trims line) line.output refl is old new c.trim_unit.ensures.kept;
      current = λ nothing. absurd (subst (λ l. WritesNothing l) is nothing);
      passed = words_trim g.H.HostModule c.args.hosts.items words old.out.told (g.F.Files.trace c.args.files.now)
          (g.F.Files.trace c.trim_unit.new.files) (ended_by (Ok 0)) (stopped_by {A = ℕ} (Ok 0)) line is c.in-Ok-trim_unit.ensures.passed;
    }

pub returns : goal.returns
returns g c =
    let line = seen_trim c.in-Trim.line in
    let words = texts c.args.words.now in
    let is = c.in-Ok.ensures.line ∙ ap (λ l. Some (seen_line l)) c.in-Trim.is in
    let old = outside g.F.Files g.O.Sink c.args.files.now c.args.out.now in
    let new = outside g.F.Files g.O.Sink c.trim_unit.new.files c.args.out.now in
    record {
      finished = tt;
      status = tt;
      line = tt;
      stop = trim_stop g.H.HostModule c.args.hosts.items words old.out old.files new.files line is (reason_of c.in-Err-trim_unit.stop)
          c.in-Err-trim_unit.ensures.stop;
      reads = c.trim_unit.ensures.reads;
      writes = c.trim_unit.ensures.writes;
      reads_kept = tt;
      writes_kept = tt;
      later = le_refl (g.O.Sink.faults c.args.out.now);
      lines_kept = tt;
      kept = kept_unit words (trims line) line.output refl is old new c.trim_unit.ensures.kept;
      current = λ nothing. absurd (subst (λ l. WritesNothing l) is nothing);
      passed = words_trim g.H.HostModule c.args.hosts.items words old.out.told (g.F.Files.trace c.args.files.now)
          (g.F.Files.trace c.trim_unit.new.files) (ended_by (Err c.in-Err-trim_unit.stop))
          (stopped_by {A = ℕ} (Err c.in-Err-trim_unit.stop)) line is c.in-Err-trim_unit.ensures.passed;
    }
