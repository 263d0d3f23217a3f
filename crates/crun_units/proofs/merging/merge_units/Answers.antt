use Rattle.crun_units.proofs.Common.{Ok, Err, refl, both_passed, passed_so, unit_of, c_symbols, seen_merge, Write, reason_of, files_seen}
use Rattle.crun_units.proofs.Common.{IsMergeJob, IsMerged, IsUnitsJobOver, PassesUnits, WritesUnit, TriesUnit, done_by, stopped_by}
use Rattle.crun_units.proofs.Passing.{unit_refused, unit_written}
use Rattle.crun_units.proofs.WriteStops.{output_stops}
use Rattle.crun_units.proofs.merging.merge_units.Goals as goal

pub returns-clause-stop : goal.returns-clause-stop
returns-clause-stop g c =
    let line = seen_merge c.args.line.now in
    output_stops (IsMergeJob line (c_symbols c.args.hosts.now)) line.units line.output (unit_of c.in-Ok.one)
    (files_seen g.F.Files c.args.files.now) (files_seen g.F.Files c.merged_unit.new.files) (files_seen g.F.Files c.write_output.new.files)
    (reason_of c.in-Err-write_output.stop) c.in-Ok.ensures.unit c.in-Ok.ensures.told c.in-Ok.ensures.writes
    c.in-Err-write_output.ensures.stop

pub returns-in-Err-clause-passed : goal.returns-in-Err-clause-passed
returns-in-Err-clause-passed g c =
    let line = seen_merge c.args.line.now in
    let of = IsMerged line (c_symbols c.args.hosts.now) in
    let why = reason_of c.in-Err.stop in
    let ends = done_by (Err c.in-Err.stop) in
    let stopped = stopped_by {A = Unit {0}} (Err c.in-Err.stop) in
    passed_so (g.F.Files.trace c.args.files.now) (g.F.Files.trace c.merged_unit.new.files) (TriesUnit line.units of why)
    (PassesUnits line.units of ends stopped) (λ events tried. unit_refused line.units of ends stopped why events tried refl)
    c.in-Err.ensures.tried

pub returns-in-Ok-write_output-clause-passed : goal.returns-in-Ok-write_output-clause-passed
returns-in-Ok-write_output-clause-passed g c =
    let line = seen_merge c.args.line.now in
    let of = IsMerged line (c_symbols c.args.hosts.now) in
    let unit = unit_of c.in-Ok.one in
    let ends = done_by (Ok tt) in
    let stopped = stopped_by {A = Unit {0}} (Ok tt) in
    both_passed (g.F.Files.trace c.args.files.now) (g.F.Files.trace c.merged_unit.new.files) (g.F.Files.trace c.write_output.new.files)
    (λ events. IsUnitsJobOver line.units of events (Write line.output unit)) (WritesUnit ends stopped line.output unit)
    (PassesUnits line.units of ends stopped) (unit_written line.units of ends stopped line.output unit) c.in-Ok.ensures.passed
    c.in-Ok-write_output.ensures.passed

pub returns-clause-passed : goal.returns-clause-passed
returns-clause-passed g c =
    let line = seen_merge c.args.line.now in
    let of = IsMerged line (c_symbols c.args.hosts.now) in
    let unit = unit_of c.in-Ok.one in
    let ends = done_by (Err c.in-Err-write_output.stop) in
    let stopped = stopped_by {A = Unit {0}} (Err c.in-Err-write_output.stop) in
    both_passed (g.F.Files.trace c.args.files.now) (g.F.Files.trace c.merged_unit.new.files) (g.F.Files.trace c.write_output.new.files)
    (λ events. IsUnitsJobOver line.units of events (Write line.output unit)) (WritesUnit ends stopped line.output unit)
    (PassesUnits line.units of ends stopped) (unit_written line.units of ends stopped line.output unit) c.in-Ok.ensures.passed
    c.in-Err-write_output.ensures.passed
