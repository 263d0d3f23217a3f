use Rattle.c_sound.proofs.Tells.{after_tells, run_tells}
use Rattle.c_sound.proofs.laws.runs_tell_more.Goals as goal

pub returns-clause-after : goal.returns-clause-after
returns-clause-after c = after_tells

pub returns-clause-run : goal.returns-clause-run
returns-clause-run c = run_tells
