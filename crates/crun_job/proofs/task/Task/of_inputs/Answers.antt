use Rattle.crun_job.proofs.Common.{map, length, sym, refl, ap, ◌∙◌, subst, unit_of, c_symbols, seen_run, AreLinked, IsWithin, RefusesUnits}
use Rattle.crun_job.proofs.Common.{reason_of, StopsUnit}
use Rattle.w2c_files.specs.Words.{names_of}
use Rattle.crun_job.proofs.Tasks.{unit_stops}
use Rattle.crun_job.proofs.task.Task.of_inputs.Goals as goal

pub stop_at-requires : goal.stop_at-requires
stop_at-requires c =
    subst (λ many. IsWithin many c.in-Err.refusal)
    (ap length c.as_slice.ensures.value ∙ c.requires.many ∙ ap length (sym c.as_slice-in-Err.ensures.value)) c.in-Err.ensures.within

pub returns-in-Err-clause-stop : goal.returns-in-Err-clause-stop
returns-in-Err-clause-stop c =
    let symbols = c_symbols c.args.hosts.now in
    let inputs = c.args.inputs.now in
    unit_stops (seen_run c.args.line.now) symbols inputs.units.items inputs.calls c.in-Err.refusal (reason_of c.stop_at.result)
    (subst (λ ts. RefusesUnits ts symbols c.in-Err.refusal) c.as_slice.ensures.value c.in-Err.ensures.first)
    (subst (λ ns. StopsUnit (names_of ns) c.in-Err.refusal (reason_of c.stop_at.result)) c.as_slice-in-Err.ensures.value c.stop_at.ensures)

pub returns-in-Err-Line-clause-stop : goal.returns-in-Err-Line-clause-stop
returns-in-Err-Line-clause-stop c =
    let units = map unit_of c.in-Ok.linked.0 in (
      units,
      subst (λ ts. AreLinked ts (c_symbols c.args.hosts.now) units) c.as_slice.ensures.value c.in-Ok.ensures.units,
      rw (c.in-Err-Line.field-0-is, c.as_slice-2.ensures) at c.in-Err-Line.ensures.first,
    )

pub returns-clause-task : goal.returns-clause-task
returns-clause-task c =
    let units = map unit_of c.in-Ok.linked.0 in (
      subst (λ ts. AreLinked ts (c_symbols c.args.hosts.now) units) c.as_slice.ensures.value c.in-Ok.ensures.units,
      rw c.as_slice-2.ensures at c.in-Ok-read_calls.ensures.calls,
      refl,
      refl,
    )
