use Rattle.crun_cli.proofs.Common.{Err, refl, ap, ◌∙◌, none_passed, c_symbols, seen_merge, units_wanting, done_by, stopped_by}
use Rattle.crun_job.specs.declared.stop.Stop.TheVariants as stop
use Rattle.crun_cli.proofs.work.merge.Goals as goal

pub returns-clause-stop : goal.returns-clause-stop
returns-clause-stop g c =
    let line = seen_merge c.args.line.now in
    rw (ap c_symbols c.as_slice.ensures.value ∙ c.in-Ok.ensures.meaning) at c.in-Err-merge_units.ensures.stop

pub returns-in-Ok-merge_units-clause-wrote : goal.returns-in-Ok-merge_units-clause-wrote
returns-in-Ok-merge_units-clause-wrote g c =
    let line = seen_merge c.args.line.now in
    let told = g.F.Files.told c.args.files.now in
    rw (ap c_symbols c.as_slice.ensures.value ∙ c.in-Ok.ensures.meaning) at c.in-Ok-merge_units.ensures.wrote

pub returns-in-Ok-merge_units-clause-passed : goal.returns-in-Ok-merge_units-clause-passed
returns-in-Ok-merge_units-clause-passed g c =
    let line = seen_merge c.args.line.now in
    rw (ap c_symbols c.as_slice.ensures.value ∙ c.in-Ok.ensures.meaning) at c.in-Ok-merge_units.ensures.passed

pub returns-clause-passed : goal.returns-clause-passed
returns-clause-passed g c =
    let line = seen_merge c.args.line.now in
    rw (ap c_symbols c.as_slice.ensures.value ∙ c.in-Ok.ensures.meaning) at c.in-Err-merge_units.ensures.passed

pub returns-in-Err-clause-passed : goal.returns-in-Err-clause-passed
returns-in-Err-clause-passed g c =
    none_passed (g.F.Files.trace c.args.files.now) _
    (units_wanting (seen_merge c.args.line.now).units _ (done_by (Err stop.Memory)) (stopped_by {A = Unit {0}} (Err stop.Memory)) refl)
