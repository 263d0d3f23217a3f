use Rattle.wast_run.proofs.Common.{◌+◌, reason_of, seen_command, command_line, setting_of}
use Rattle.wast_run.proofs.ReportStops.{line_stops}
use Rattle.wast_run.proofs.Passing.{line_over, no_line_over, no_word_over}
use Rattle.wast_run.proofs.reporting.tell_command.Goals as goal

pub returns-in-Err-write_line-clause-stop : goal.returns-in-Err-write_line-clause-stop
returns-in-Err-write_line-clause-stop g c =
    let out = g.O.Sink in
    line_stops (g.F.Files.told c.args.files.now) c.args.steps c.args.index (setting_of c.args.stage.now) (seen_command c.args.command.now)
    c.in-Ok.word (setting_of c.run_command.new.stage)
    (g.F.Files.read_faults c.args.files.now) (g.F.Files.read_faults c.run_command.new.files) (g.F.Files.fault_name c.run_command.new.files)
    (out.told c.args.out.now) (out.told c.write_line.new.out) (out.faults c.args.out.now) (out.faults c.write_line.new.out)
    (reason_of c.in-Err-write_line.stop) c.in-Ok.ensures.comes c.in-Ok.ensures.timely
    (c.in-Err-write_line.ensures.part (command_line (c.args.index + 1) c.in-Ok.word) c.command_line.ensures)
    c.in-Err-write_line.ensures.stop

pub returns-in-Ok-write_line-clause-passed : goal.returns-in-Ok-write_line-clause-passed
returns-in-Ok-write_line-clause-passed g c =
    line_over _ _ c.args.steps c.args.index (setting_of c.args.stage.now) (seen_command c.args.command.now) c.in-Ok.word
    (setting_of c.run_command.new.stage) (g.O.Sink.told c.args.out.now) (g.O.Sink.told c.write_line.new.out) c.in-Ok.ensures.passed
    c.in-Ok.ensures.timely (c.in-Ok-write_line.ensures.whole (command_line (c.args.index + 1) c.in-Ok.word) c.command_line.ensures)

pub returns-in-Err-clause-tried : goal.returns-in-Err-clause-tried
returns-in-Err-clause-tried g c =
    no_word_over _ _ c.args.steps c.args.index (setting_of c.args.stage.now) (seen_command c.args.command.now)
    (g.O.Sink.told c.args.out.now) (reason_of c.in-Err.stop) c.in-Err.ensures.tried

pub returns-in-Err-write_line-clause-tried : goal.returns-in-Err-write_line-clause-tried
returns-in-Err-write_line-clause-tried g c =
    let out = g.O.Sink in
    no_line_over _ _ c.args.steps c.args.index (setting_of c.args.stage.now) (seen_command c.args.command.now) c.in-Ok.word
    (setting_of c.run_command.new.stage) (out.told c.args.out.now) (out.told c.write_line.new.out) (out.faults c.args.out.now)
    (out.faults c.write_line.new.out) (reason_of c.in-Err-write_line.stop) c.in-Ok.ensures.passed c.in-Ok.ensures.timely
    (c.in-Err-write_line.ensures.part (command_line (c.args.index + 1) c.in-Ok.word) c.command_line.ensures)
    c.in-Err-write_line.ensures.stop
