use Rattle.crun_cli.proofs.Common.{◌≡◌, ℕ, List, length, Some, None, Ok, Err, option_map, sym, refl, ap, ◌∙◌, subst, inl, le_of_eq, le_refl}
use Rattle.crun_cli.proofs.Common.{le_trans, both_passed, passed_so, Passes, names_of, RunLine, AllRead, GivesInputs, TriesInputs, seen_run}
use Rattle.crun_cli.proofs.Common.{reason_of, stop_for, files_seen, stopped_by, Outside, outside, PassesRun, StopsWork, TriesReplay}
use Rattle.crun_cli.proofs.Common.{ended_by}
use Rattle.w2c_io.specs.Events.{Event}
use Rattle.crun_cli.proofs.EndPasses.{run_handed, run_replayed}
use Rattle.crun_cli.proofs.Passing.{inputs_stopped, replay_stopped}
use Rattle.crun_cli.proofs.RunForm.{handed_ran, handed_stop, inputs_stop, kept_from, replay_stop, replayed_ran, replayed_run_stop}
use Rattle.crun_cli.proofs.running.run.Goals as goal

pub run_and_record-requires : goal.run_and_record-requires
run_and_record-requires g c = record {
  offered = c.requires.offered;
  many = c.in-Ok.ensures.many ∙ ap length c.as_slice.ensures.value;
  short = c.in-Ok.ensures.units_fit;
}

pub run_and_record-requires-in-Some : goal.run_and_record-requires-in-Some
run_and_record-requires-in-Some g c = record {
  offered = c.in-Ok-replayed_hosts.ensures.offered;
  many = c.in-Ok.ensures.many ∙ ap length c.as_slice.ensures.value;
  short = c.in-Ok.ensures.units_fit;
}

pub returns-in-Err : goal.returns-in-Err
returns-in-Err g c =
    let m = g.H.HostModule in
    let hosts = c.args.hosts.items in
    let line : RunLine = seen_run c.args.line.now in
    record {
      ran = tt;
      status = tt;
      stop = λ words is.
          let old : Outside = outside g.F.Files g.O.Sink c.args.files.now c.args.out.now in
          let new : Outside = outside g.F.Files g.O.Sink c.read_inputs.new.files c.args.out.now in
          subst (λ stop. StopsWork m hosts words old new (reason_of stop)) (sym c.stop_of.ensures)
          (inputs_stop m hosts line words is old new
          (record { files = record { told = c.read_inputs.ensures.told; current = c.read_inputs.ensures.current }; lines = refl })
          c.in-Err.stop (rw c.as_slice.ensures.value at c.in-Err.ensures.stop));
      reads = c.read_inputs.ensures.later;
      writes = le_of_eq (sym c.read_inputs.ensures.writes);
      reads_kept = tt;
      writes_kept = tt;
      later = le_refl (g.O.Sink.faults c.args.out.now);
      lines_kept = tt;
      kept = inl c.read_inputs.ensures.told;
      current = λ none. c.read_inputs.ensures.current;
      passed =
          let start = g.F.Files.trace c.args.files.now in
          let middle = g.F.Files.trace c.read_inputs.new.files in
          let told = g.O.Sink.told c.args.out.now in
          let ends = ended_by (Err (stop_for c.in-Err.stop)) in
          let stopped = stopped_by {A = ℕ} (Err (stop_for c.in-Err.stop)) in
          subst (λ s. Passes start middle (PassesRun m hosts line told told (ended_by (Err s)) (stopped_by {A = ℕ} (Err s))))
          (sym c.stop_of.ensures) (passed_so start middle (TriesInputs line.units line.calls c.in-Err.stop)
          (PassesRun m hosts line told told ends stopped)
          (λ events tried. inputs_stopped m hosts line told told ends stopped c.in-Err.stop events tried (refl, refl))
          (rw c.as_slice.ensures.value at c.in-Err.ensures.tried));
    }

pub returns-in-Ok-run_and_record : goal.returns-in-Ok-run_and_record
returns-in-Ok-run_and_record g c =
    let m = g.H.HostModule in
    let hosts = c.args.hosts.items in
    let line : RunLine = seen_run c.args.line.now in
    let old : Outside = outside g.F.Files g.O.Sink c.args.files.now c.args.out.now in
    let new : Outside = outside g.F.Files g.O.Sink c.run_and_record.new.files c.run_and_record.new.out in
    let texts = c.in-Ok.inputs.units.items in
    let text = c.in-Ok.inputs.calls in
    let none : line.replayed ≡ None = ap (λ o. option_map (λ n. n.now) o) c.in-None.is in
    record {
      ran = λ words is.
          handed_ran m hosts line words is old new texts text (rw c.as_slice.ensures.value at c.in-Ok.ensures.read)
          (files_seen g.F.Files c.read_inputs.new.files) c.read_inputs.ensures.told none c.in-Ok-run_and_record.status
          c.in-Ok-run_and_record.ensures.ran;
      status = c.in-Ok-run_and_record.ensures.status;
      stop = tt;
      reads = le_trans c.read_inputs.ensures.later (le_of_eq (sym c.run_and_record.ensures.reads));
      writes = le_trans (le_of_eq (sym c.read_inputs.ensures.writes)) c.run_and_record.ensures.writes;
      reads_kept = c.run_and_record.ensures.reads ∙ c.in-Ok.ensures.kept;
      writes_kept = c.in-Ok-run_and_record.ensures.writes_kept ∙ c.read_inputs.ensures.writes;
      later = c.run_and_record.ensures.later;
      lines_kept = c.in-Ok-run_and_record.ensures.lines_kept;
      kept = kept_from c.read_inputs.ensures.told c.run_and_record.ensures.kept;
      current = λ none. c.run_and_record.ensures.current none ∙ c.read_inputs.ensures.current;
      passed = run_handed m hosts line old.out.told new.out.told (Ok c.in-Ok-run_and_record.status) texts text _ _ _ _
          (ap (λ ns. names_of ns) c.as_slice.ensures.value) c.in-Ok.ensures.passed none c.in-Ok-run_and_record.ensures.passed;
    }

pub returns-in-None : goal.returns-in-None
returns-in-None g c =
    let m = g.H.HostModule in
    let hosts = c.args.hosts.items in
    let line : RunLine = seen_run c.args.line.now in
    let old : Outside = outside g.F.Files g.O.Sink c.args.files.now c.args.out.now in
    let new : Outside = outside g.F.Files g.O.Sink c.run_and_record.new.files c.run_and_record.new.out in
    let texts = c.in-Ok.inputs.units.items in
    let text = c.in-Ok.inputs.calls in
    let none : line.replayed ≡ None = ap (λ o. option_map (λ n. n.now) o) c.in-None.is in
    record {
      ran = tt;
      status = tt;
      stop = λ words is.
          handed_stop m hosts line words is old new texts text (rw c.as_slice.ensures.value at c.in-Ok.ensures.read)
          (files_seen g.F.Files c.read_inputs.new.files) c.read_inputs.ensures.told none c.read_inputs.ensures.current
          c.read_inputs.ensures.writes (reason_of c.in-Err-run_and_record.stop) c.in-Err-run_and_record.ensures.stop;
      reads = le_trans c.read_inputs.ensures.later (le_of_eq (sym c.run_and_record.ensures.reads));
      writes = le_trans (le_of_eq (sym c.read_inputs.ensures.writes)) c.run_and_record.ensures.writes;
      reads_kept = tt;
      writes_kept = tt;
      later = c.run_and_record.ensures.later;
      lines_kept = tt;
      kept = kept_from c.read_inputs.ensures.told c.run_and_record.ensures.kept;
      current = λ none. c.run_and_record.ensures.current none ∙ c.read_inputs.ensures.current;
      passed = run_handed m hosts line old.out.told new.out.told (Err c.in-Err-run_and_record.stop) texts text _ _ _ _
          (ap (λ ns. names_of ns) c.as_slice.ensures.value) c.in-Ok.ensures.passed none c.in-Err-run_and_record.ensures.passed;
    }

pub returns-in-Err-replayed_hosts : goal.returns-in-Err-replayed_hosts
returns-in-Err-replayed_hosts g c =
    let m = g.H.HostModule in
    let hosts = c.args.hosts.items in
    let line : RunLine = seen_run c.args.line.now in
    let old : Outside = outside g.F.Files g.O.Sink c.args.files.now c.args.out.now in
    let texts = c.in-Ok.inputs.units.items in
    let text = c.in-Ok.inputs.calls in
    let name = c.in-Some.name.now in
    let named : line.replayed ≡ Some name = ap (λ o. option_map (λ n. n.now) o) c.in-Some.is in
    let told = c.replayed_hosts.ensures.told ∙ c.read_inputs.ensures.told in
    let current = c.replayed_hosts.ensures.current ∙ c.read_inputs.ensures.current in
    let why = reason_of c.in-Err-replayed_hosts.stop in
    record {
      ran = tt;
      status = tt;
      stop = λ words is.
          replay_stop m hosts line words is old (outside g.F.Files g.O.Sink c.replayed_hosts.new.files c.args.out.now) texts text
          (rw c.as_slice.ensures.value at c.in-Ok.ensures.read) (files_seen g.F.Files c.read_inputs.new.files) c.read_inputs.ensures.told
          name named c.read_inputs.ensures.later (record { files = record { told = told; current = current }; lines = refl }) why
          c.in-Err-replayed_hosts.ensures.stop;
      reads = le_trans c.read_inputs.ensures.later c.replayed_hosts.ensures.later;
      writes = le_of_eq (sym (c.replayed_hosts.ensures.writes ∙ c.read_inputs.ensures.writes));
      reads_kept = tt;
      writes_kept = tt;
      later = le_refl (g.O.Sink.faults c.args.out.now);
      lines_kept = tt;
      kept = inl told;
      current = λ none. current;
      passed =
          let start = g.F.Files.trace c.args.files.now in
          let middle = g.F.Files.trace c.read_inputs.new.files in
          let Gives : List Event → Type 0 = GivesInputs line.units line.calls (AllRead texts text) in
          let gives : Passes start middle Gives = rw c.as_slice.ensures.value at c.in-Ok.ensures.passed in
          let ends = ended_by (Err c.in-Err-replayed_hosts.stop) in
          let stopped = stopped_by {A = ℕ} (Err c.in-Err-replayed_hosts.stop) in
          both_passed start middle (g.F.Files.trace c.replayed_hosts.new.files) Gives (TriesReplay name why)
          (PassesRun m hosts line old.out.told old.out.told ends stopped)
          (λ first last gave tried. replay_stopped m hosts line old.out.told old.out.told ends stopped texts text first gave name named last
          why tried (refl, refl)) gives c.in-Err-replayed_hosts.ensures.tried;
    }

pub returns-in-Ok-run_and_record-2 : goal.returns-in-Ok-run_and_record-2
returns-in-Ok-run_and_record-2 g c =
    let m = g.H.HostModule in
    let hosts = c.args.hosts.items in
    let line : RunLine = seen_run c.args.line.now in
    let old : Outside = outside g.F.Files g.O.Sink c.args.files.now c.args.out.now in
    let new : Outside = outside g.F.Files g.O.Sink c.run_and_record-in-Some.new.files c.run_and_record-in-Some.new.out in
    let texts = c.in-Ok.inputs.units.items in
    let text = c.in-Ok.inputs.calls in
    let name = c.in-Some.name.now in
    let named : line.replayed ≡ Some name = ap (λ o. option_map (λ n. n.now) o) c.in-Some.is in
    let replays = c.in-Ok-replayed_hosts.replays.items in
    let done = c.run_and_record-in-Some.ensures in
    let told = c.replayed_hosts.ensures.told ∙ c.read_inputs.ensures.told in
    let writes = c.replayed_hosts.ensures.writes ∙ c.read_inputs.ensures.writes in
    record {
      ran = λ words is.
          replayed_ran m hosts line words is old new texts text (rw c.as_slice.ensures.value at c.in-Ok.ensures.read)
          (files_seen g.F.Files c.replayed_hosts.new.files) told name named replays
          (rw c.read_inputs.ensures.told at c.in-Ok-replayed_hosts.ensures.hosts) c.in-Ok-run_and_record-2.status
          c.in-Ok-run_and_record-2.ensures.ran;
      status = c.in-Ok-run_and_record-2.ensures.status;
      stop = tt;
      reads = le_trans (le_trans c.read_inputs.ensures.later c.replayed_hosts.ensures.later) (le_of_eq (sym done.reads));
      writes = le_trans (le_of_eq (sym writes)) done.writes;
      reads_kept = done.reads ∙ c.in-Ok-replayed_hosts.ensures.kept ∙ c.in-Ok.ensures.kept;
      writes_kept = c.in-Ok-run_and_record-2.ensures.writes_kept ∙ writes;
      later = done.later;
      lines_kept = c.in-Ok-run_and_record-2.ensures.lines_kept;
      kept = kept_from told done.kept;
      current = λ none. done.current none ∙ c.replayed_hosts.ensures.current ∙ c.read_inputs.ensures.current;
      passed = run_replayed m hosts line old.out.told new.out.told (Ok c.in-Ok-run_and_record-2.status) texts text _ _ _ _
          (ap (λ ns. names_of ns) c.as_slice.ensures.value) c.in-Ok.ensures.passed _ name named replays
          c.in-Ok-replayed_hosts.ensures.passed c.in-Ok-run_and_record-2.ensures.passed;
    }

pub returns : goal.returns
returns g c =
    let m = g.H.HostModule in
    let hosts = c.args.hosts.items in
    let line : RunLine = seen_run c.args.line.now in
    let old : Outside = outside g.F.Files g.O.Sink c.args.files.now c.args.out.now in
    let new : Outside = outside g.F.Files g.O.Sink c.run_and_record-in-Some.new.files c.run_and_record-in-Some.new.out in
    let texts = c.in-Ok.inputs.units.items in
    let text = c.in-Ok.inputs.calls in
    let name = c.in-Some.name.now in
    let named : line.replayed ≡ Some name = ap (λ o. option_map (λ n. n.now) o) c.in-Some.is in
    let replays = c.in-Ok-replayed_hosts.replays.items in
    let done = c.run_and_record-in-Some.ensures in
    let told = c.replayed_hosts.ensures.told ∙ c.read_inputs.ensures.told in
    let current = c.replayed_hosts.ensures.current ∙ c.read_inputs.ensures.current in
    let writes = c.replayed_hosts.ensures.writes ∙ c.read_inputs.ensures.writes in
    record {
      ran = tt;
      status = tt;
      stop = λ words is.
          replayed_run_stop m hosts line words is old new texts text (rw c.as_slice.ensures.value at c.in-Ok.ensures.read)
          (files_seen g.F.Files c.replayed_hosts.new.files) told name named replays
          (rw c.read_inputs.ensures.told at c.in-Ok-replayed_hosts.ensures.hosts) current writes
          (reason_of c.in-Err-run_and_record-2.stop) c.in-Err-run_and_record-2.ensures.stop;
      reads = le_trans (le_trans c.read_inputs.ensures.later c.replayed_hosts.ensures.later) (le_of_eq (sym done.reads));
      writes = le_trans (le_of_eq (sym writes)) done.writes;
      reads_kept = tt;
      writes_kept = tt;
      later = done.later;
      lines_kept = tt;
      kept = kept_from told done.kept;
      current = λ none. done.current none ∙ current;
      passed = run_replayed m hosts line old.out.told new.out.told (Err c.in-Err-run_and_record-2.stop) texts text _ _ _ _
          (ap (λ ns. names_of ns) c.as_slice.ensures.value) c.in-Ok.ensures.passed _ name named replays
          c.in-Ok-replayed_hosts.ensures.passed c.in-Err-run_and_record-2.ensures.passed;
    }
