use Rattle.crun_units.proofs.Common.{Ok, Err, sym, refl, ap, inl, inr, passed_so, BreaksOff, WritesFile, unit_of, print_of, WritesUnit}
use Rattle.crun_units.proofs.Common.{reason_for, done_by, stopped_by}
use Rattle.crun_job.specs.declared.stop.Stop.TheVariants as stop
use Rattle.crun_units.proofs.output.write_output.Goals as goal

pub returns-in-Ok-clause-passed : goal.returns-in-Ok-clause-passed
returns-in-Ok-clause-passed g c =
    let unit = unit_of c.args.unit.now in
    let name = c.args.output.now in
    passed_so (g.F.Files.trace c.args.files.now) (g.F.Files.trace c.write_unit.new.files) (WritesFile name (print_of unit))
    (WritesUnit (done_by (Ok tt)) (stopped_by {A = Unit {0}} (Ok tt)) name unit)
    (λ events whole. inl (whole, c.write_unit.ensures.spells, refl)) c.in-Ok.ensures.passed

pub returns-in-Err-Failed-clause-passed : goal.returns-in-Err-Failed-clause-passed
returns-in-Err-Failed-clause-passed g c =
    let unit = unit_of c.args.unit.now in
    let name = c.args.output.now in
    let why = c.in-Err-Failed.field-0 in
    passed_so (g.F.Files.trace c.args.files.now) (g.F.Files.trace c.write_unit.new.files) (BreaksOff name (print_of unit) why)
    (WritesUnit (done_by (Err stop.Unwritten)) (stopped_by {A = Unit {0}} (Err stop.Unwritten)) name unit)
    (λ events broken. inr (why, broken, ap reason_for (sym c.in-Err-Failed.field-0-is))) c.in-Err-Failed.ensures.tried

pub returns-in-Err-Memory-clause-passed : goal.returns-in-Err-Memory-clause-passed
returns-in-Err-Memory-clause-passed g c =
    let unit = unit_of c.args.unit.now in
    let name = c.args.output.now in
    let why = c.in-Err-Memory.field-0 in
    passed_so (g.F.Files.trace c.args.files.now) (g.F.Files.trace c.write_unit.new.files) (BreaksOff name (print_of unit) why)
    (WritesUnit (done_by (Err stop.Memory)) (stopped_by {A = Unit {0}} (Err stop.Memory)) name unit)
    (λ events broken. inr (why, broken, ap reason_for (sym c.in-Err-Memory.field-0-is))) c.in-Err-Memory.ensures.tried
