use Rattle.crun_cli.proofs.Common.{sym, ap, phase_of, line_as, outcome_line}
use Rattle.crun_cli.proofs.telling.tell_outcome.Goals as goal

pub returns-in-Trapped : goal.returns-in-Trapped
returns-in-Trapped g c =
    c.put_line.ensures (outcome_line (phase_of c.args.phase) c.args.outcome)
    (line_as c.last_line.result _ _ (ap (outcome_line (phase_of c.args.phase)) (sym c.in-Trapped.is)) c.last_line.ensures)

pub returns-in-Undefined : goal.returns-in-Undefined
returns-in-Undefined g c =
    c.put_line-in-Undefined.ensures (outcome_line (phase_of c.args.phase) c.args.outcome) (line_as c.last_line-in-Undefined.result _ _
    (ap (outcome_line (phase_of c.args.phase)) (sym c.in-Undefined.is)) c.last_line-in-Undefined.ensures)

pub returns-in-OutOfSteps : goal.returns-in-OutOfSteps
returns-in-OutOfSteps g c =
    c.put_line-in-OutOfSteps.ensures (outcome_line (phase_of c.args.phase) c.args.outcome) (line_as c.last_line-in-OutOfSteps.result _ _
    (ap (outcome_line (phase_of c.args.phase)) (sym c.in-OutOfSteps.is)) c.last_line-in-OutOfSteps.ensures)
