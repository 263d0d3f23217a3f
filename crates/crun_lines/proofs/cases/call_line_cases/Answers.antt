use Rattle.std.proofs.Common.{refl}
use Rattle.std.specs.Fmt.{digits}
use Rattle.crun_lines.proofs.cases.call_line_cases.Goals as goal

pub returns-clause-sum : goal.returns-clause-sum
unfolding digits
returns-clause-sum c = refl

pub returns-clause-wide : goal.returns-clause-wide
unfolding digits
returns-clause-wide c = refl

pub returns-clause-no_value : goal.returns-clause-no_value
unfolding digits
returns-clause-no_value c = refl

pub returns-clause-trap : goal.returns-clause-trap
unfolding digits
returns-clause-trap c = refl

pub returns-clause-init_trap : goal.returns-clause-init_trap
unfolding digits
returns-clause-init_trap c = refl

pub returns-clause-undefined : goal.returns-clause-undefined
unfolding digits
returns-clause-undefined c = refl

pub returns-clause-out_of_steps : goal.returns-clause-out_of_steps
unfolding digits
returns-clause-out_of_steps c = refl

pub returns-clause-all_ended : goal.returns-clause-all_ended
unfolding digits
returns-clause-all_ended c = refl

pub returns-clause-waits : goal.returns-clause-waits
unfolding digits
returns-clause-waits c = refl

pub returns-clause-stuck : goal.returns-clause-stuck
unfolding digits
returns-clause-stuck c = refl
