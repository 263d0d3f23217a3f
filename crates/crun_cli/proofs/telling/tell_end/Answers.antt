use Rattle.crun_cli.proofs.Common.{sym, ap, phase_of, line_as, end_line}
use Rattle.crun_cli.proofs.telling.tell_end.Goals as goal

pub returns-in-Call : goal.returns-in-Call
returns-in-Call g c =
    c.put_line.ensures (end_line (phase_of c.args.phase) c.args.value)
    (line_as c.ended_line.result _ _ (ap (λ phase. end_line (phase_of phase) c.args.value) (sym c.in-Call.is)) c.ended_line.ensures)
