use Rattle.c_sound.proofs.Units.{typed_program}
use Rattle.c_sound.proofs.Calls.{first_call_typed}
use Rattle.c_sound.proofs.Statements.{step_typed}
use Rattle.c_sound.proofs.laws.typed_states_stay_typed.Goals as goal

pub returns-clause-program : goal.returns-clause-program
returns-clause-program c = typed_program

pub returns-clause-begin : goal.returns-clause-begin
returns-clause-begin c = first_call_typed

pub returns-clause-step : goal.returns-clause-step
returns-clause-step c = step_typed
