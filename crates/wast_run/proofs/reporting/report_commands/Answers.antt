use Rattle.wast_run.proofs.Common.{length, refl, reason_of, seen_commands, total_line}
use Rattle.wast_run.proofs.PartLaws.{whole_report}
use Rattle.wast_run.proofs.ReportStops.{many_seen, total_stops}
use Rattle.wast_run.proofs.Passing.{no_total_over, reported_over}
use Rattle.wast_run.proofs.reporting.report_commands.Goals as goal

pub returns-in-Ok-write_line-clause-reported : goal.returns-in-Ok-write_line-clause-reported
returns-in-Ok-write_line-clause-reported g c =
    let commands = c.args.commands.now in
    whole_report (g.F.Files.told c.args.files.now) c.args.steps (seen_commands commands)
    (g.O.Sink.told c.args.out.now) (g.O.Sink.told c.tell_commands.new.out) (g.O.Sink.told c.write_line.new.out) c.in-Ok.ok (length commands)
    (many_seen commands (length commands) refl) c.in-Ok.ensures.behind
    (c.in-Ok-write_line.ensures.whole (total_line (length commands) c.in-Ok.ok) c.total_line.ensures)

pub returns-in-Err-write_line-clause-stop : goal.returns-in-Err-write_line-clause-stop
returns-in-Err-write_line-clause-stop g c =
    let commands = c.args.commands.now in
    let files = g.F.Files in
    let out = g.O.Sink in
    total_stops (files.told c.args.files.now) c.args.steps (seen_commands commands)
    (files.read_faults c.args.files.now) (files.read_faults c.tell_commands.new.files) (files.fault_name c.tell_commands.new.files)
    (out.told c.args.out.now) (out.told c.tell_commands.new.out) (out.told c.write_line.new.out)
    (out.faults c.args.out.now) (out.faults c.tell_commands.new.out) (out.faults c.write_line.new.out)
    c.in-Ok.ok (length commands) (reason_of c.in-Err-write_line.stop) c.in-Ok.ensures.later
    (many_seen commands (length commands) refl) c.in-Ok.ensures.behind
    (c.in-Err-write_line.ensures.part (total_line (length commands) c.in-Ok.ok) c.total_line.ensures)
    c.in-Err-write_line.ensures.stop

pub returns-in-Ok-write_line-clause-passed : goal.returns-in-Ok-write_line-clause-passed
returns-in-Ok-write_line-clause-passed g c =
    let commands = c.args.commands.now in
    reported_over _ _ c.args.steps (seen_commands commands) (g.O.Sink.told c.args.out.now) (g.O.Sink.told c.tell_commands.new.out)
    (g.O.Sink.told c.write_line.new.out) c.in-Ok.ok (length commands) (many_seen commands (length commands) refl) c.in-Ok.ensures.passed
    (c.in-Ok-write_line.ensures.whole (total_line (length commands) c.in-Ok.ok) c.total_line.ensures)

pub returns-in-Err-write_line-clause-tried : goal.returns-in-Err-write_line-clause-tried
returns-in-Err-write_line-clause-tried g c =
    let commands = c.args.commands.now in
    let out = g.O.Sink in
    no_total_over _ _ c.args.steps (seen_commands commands) (out.told c.args.out.now) (out.told c.tell_commands.new.out)
    (out.told c.write_line.new.out) c.in-Ok.ok (length commands) (many_seen commands (length commands) refl) c.in-Ok.ensures.passed
    (out.faults c.tell_commands.new.out) (out.faults c.write_line.new.out) (reason_of c.in-Err-write_line.stop)
    (c.in-Err-write_line.ensures.part (total_line (length commands) c.in-Ok.ok) c.total_line.ensures)
    c.in-Err-write_line.ensures.stop
