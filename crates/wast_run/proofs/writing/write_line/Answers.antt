use Rattle.wast_run.proofs.Common.{Ok, Err, ap, line_cause}
use Rattle.wast_run.proofs.writing.write_line.Goals as goal

pub returns-in-Ok-clause-later : goal.returns-in-Ok-clause-later
returns-in-Ok-clause-later g c =
    (line_cause c.args.line c.put_line.result (g.O.Sink.told c.args.out.now) (g.O.Sink.told c.put_line.new.out)
    (g.O.Sink.faults c.args.out.now) (g.O.Sink.faults c.put_line.new.out) c.put_line.ensures).later

pub returns-in-Ok-clause-kept : goal.returns-in-Ok-clause-kept
returns-in-Ok-clause-kept g c =
    (line_cause c.args.line (Ok c.in-Ok.field-0) (g.O.Sink.told c.args.out.now) (g.O.Sink.told c.put_line.new.out)
    (g.O.Sink.faults c.args.out.now) (g.O.Sink.faults c.put_line.new.out) c.in-Ok.ensures).kept

pub returns-in-Err-Failed-clause-stop : goal.returns-in-Err-Failed-clause-stop
returns-in-Err-Failed-clause-stop g c =
    let out = g.O.Sink in
    (line_cause c.args.line (Err c.in-Err-Failed.field-0) (out.told c.args.out.now) (out.told c.put_line.new.out)
    (out.faults c.args.out.now) (out.faults c.put_line.new.out) c.in-Err-Failed.ensures).failed (ap Err c.in-Err-Failed.field-0-is)

pub returns-in-Err-Failed-clause-later : goal.returns-in-Err-Failed-clause-later
returns-in-Err-Failed-clause-later g c =
    (line_cause c.args.line c.put_line.result (g.O.Sink.told c.args.out.now) (g.O.Sink.told c.put_line.new.out)
    (g.O.Sink.faults c.args.out.now) (g.O.Sink.faults c.put_line.new.out) c.put_line.ensures).later

pub returns-in-Err-Memory-clause-later : goal.returns-in-Err-Memory-clause-later
returns-in-Err-Memory-clause-later g c =
    (line_cause c.args.line c.put_line.result (g.O.Sink.told c.args.out.now) (g.O.Sink.told c.put_line.new.out)
    (g.O.Sink.faults c.args.out.now) (g.O.Sink.faults c.put_line.new.out) c.put_line.ensures).later
