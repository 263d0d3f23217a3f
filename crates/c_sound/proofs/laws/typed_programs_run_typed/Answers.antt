use Rattle.c_sound.proofs.Runs.{entries_begin, on_the_way, over_well}
use Rattle.c_sound.proofs.laws.typed_programs_run_typed.Goals as goal

pub returns-clause-entries : goal.returns-clause-entries
returns-clause-entries c = entries_begin

pub returns-clause-going : goal.returns-clause-going
returns-clause-going c = on_the_way

pub returns-clause-over : goal.returns-clause-over
returns-clause-over c = over_well
