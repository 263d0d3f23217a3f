use Rattle.std.proofs.Common.{refl}
use Rattle.std.specs.Fmt.{digits}
use Rattle.crun_lines.proofs.cases.run_line_cases.Goals as goal

pub returns-clause-two_ticks : goal.returns-clause-two_ticks
unfolding digits
returns-clause-two_ticks c = refl

pub returns-clause-stops_at_an_ask : goal.returns-clause-stops_at_an_ask
unfolding digits
returns-clause-stops_at_an_ask c = refl

pub returns-clause-host_trap : goal.returns-clause-host_trap
unfolding digits
returns-clause-host_trap c = refl

pub returns-clause-state_behind : goal.returns-clause-state_behind
unfolding digits
returns-clause-state_behind c = refl
