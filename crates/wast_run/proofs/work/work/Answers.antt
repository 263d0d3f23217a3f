use Rattle.wast_run.proofs.Common.{Err, ◌∙◌, texts, reason_of, seen_line, seen_script}
use Rattle.wast_run.proofs.WorkLaws.{report_stops, reports, script_stops, words_stop}
use Rattle.wast_run.proofs.Passing.{commands_end, report_ends, script_ends, words_end}
use Rattle.wast_run.proofs.work.work.Goals as goal

pub returns-in-Err-clause-stop : goal.returns-in-Err-clause-stop
returns-in-Err-clause-stop g c =
    words_stop (texts c.args.words.now) g.F.Files g.O.Sink c.args.files.now c.args.out.now (reason_of c.in-Err.stop) c.in-Err.ensures.stop

pub returns-in-Err-script_in-clause-stop : goal.returns-in-Err-script_in-clause-stop
returns-in-Err-script_in-clause-stop g c =
    script_stops (texts c.args.words.now) (seen_line c.in-Ok.line) c.in-Ok.ensures.line g.F.Files g.O.Sink c.args.files.now
    c.script_in.new.files c.args.out.now (reason_of c.in-Err-script_in.stop) c.in-Err-script_in.ensures.stop

pub returns-clause-stop : goal.returns-clause-stop
returns-clause-stop g c =
    let script = c.in-Ok-script_in.ensures in
    let it = c.in-Err-report_commands.ensures in
    report_stops (texts c.args.words.now) (seen_line c.in-Ok.line) c.in-Ok.ensures.line g.F.Files g.O.Sink c.args.files.now
    c.script_in.new.files c.report_commands.new.files c.args.out.now c.report_commands.new.out (seen_script c.in-Ok-script_in.script)
    script.script _ script.passed it.tried (reason_of c.in-Err-report_commands.stop) script.later
    (rw (c.as_slice.ensures.value, c.script_in.ensures.told) at it.stop)

pub returns-in-Ok-report_commands-clause-reported : goal.returns-in-Ok-report_commands-clause-reported
returns-in-Ok-report_commands-clause-reported g c = λ m tells.
    let script = c.in-Ok-script_in.ensures in
    let it = c.in-Ok-report_commands.ensures in
    reports (texts c.args.words.now) (seen_line c.in-Ok.line) c.in-Ok.ensures.line g.F.Files g.O.Sink c.args.files.now
    c.script_in.new.files c.report_commands.new.files c.args.out.now c.report_commands.new.out (seen_script c.in-Ok-script_in.script)
    script.script _ script.passed it.passed m tells c.in-Ok-report_commands.all_ok c.status_for.result
    (rw c.as_slice.ensures.value at (it.reported m (c.script_in.ensures.told ∙ tells))) c.status_for.ensures

-- ---- what passed through the files

pub returns-in-Err-clause-tried : goal.returns-in-Err-clause-tried
returns-in-Err-clause-tried g c =
    words_end (g.F.Files.trace c.args.files.now) (texts c.args.words.now) (g.O.Sink.told c.args.out.now) (reason_of c.in-Err.stop)
    c.in-Err.ensures.stop

pub returns-in-Err-script_in-clause-tried : goal.returns-in-Err-script_in-clause-tried
returns-in-Err-script_in-clause-tried g c =
    script_ends (texts c.args.words.now) (seen_line c.in-Ok.line) c.in-Ok.ensures.line _ _ (g.O.Sink.told c.args.out.now)
    (reason_of c.in-Err-script_in.stop) c.in-Err-script_in.ensures.tried

pub returns-clause-tried : goal.returns-clause-tried
returns-clause-tried g c =
    let out = g.O.Sink in
    commands_end (texts c.args.words.now) (seen_line c.in-Ok.line) c.in-Ok.ensures.line _ _ _ (g.F.Files.told c.args.files.now)
    (seen_script c.in-Ok-script_in.script) (out.told c.args.out.now) (out.told c.report_commands.new.out)
    (Err (reason_of c.in-Err-report_commands.stop)) c.in-Ok-script_in.ensures.passed
    (rw c.as_slice.ensures.value at c.in-Err-report_commands.ensures.tried)

pub returns-in-Ok-report_commands-clause-passed : goal.returns-in-Ok-report_commands-clause-passed
returns-in-Ok-report_commands-clause-passed g c =
    let out = g.O.Sink in
    report_ends (texts c.args.words.now) (seen_line c.in-Ok.line) c.in-Ok.ensures.line _ _ _ (g.F.Files.told c.args.files.now)
    (seen_script c.in-Ok-script_in.script) (out.told c.args.out.now) (out.told c.report_commands.new.out)
    c.in-Ok-report_commands.all_ok c.status_for.result c.status_for.ensures c.in-Ok-script_in.ensures.passed
    (rw c.as_slice.ensures.value at c.in-Ok-report_commands.ensures.passed)
