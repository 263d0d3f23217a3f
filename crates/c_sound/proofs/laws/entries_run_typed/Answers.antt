use Rattle.c_sound.proofs.Runs.{after_typed, all_inits_begin, call_fits, entry_typed}
use Rattle.c_sound.proofs.laws.entries_run_typed.Goals as goal

pub returns-clause-call : goal.returns-clause-call
returns-clause-call c = call_fits

pub returns-clause-init : goal.returns-clause-init
returns-clause-init c = all_inits_begin

pub returns-clause-begin : goal.returns-clause-begin
returns-clause-begin c = λ p program m machine last e b. entry_typed p program m last e machine b

pub returns-clause-run : goal.returns-clause-run
returns-clause-run c = after_typed
