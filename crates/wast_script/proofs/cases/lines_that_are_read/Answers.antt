use Rattle.std.proofs.Common.{refl}
use Rattle.clap.proofs.OnLiterals.{clap_on_literals}
use Rattle.program_words.specs.Command.{rows_read}
use Rattle.wast_script.specs.CommandLine.{line_of}
use Rattle.wast_script.proofs.cases.lines_that_are_read.Goals as goal

pub returns-clause-in_order : goal.returns-clause-in_order
unfolding line_of rows_read clap_on_literals
returns-clause-in_order c = refl

pub returns-clause-other_order : goal.returns-clause-other_order
unfolding line_of rows_read clap_on_literals
returns-clause-other_order c = refl

pub returns-clause-most_steps : goal.returns-clause-most_steps
unfolding line_of rows_read clap_on_literals
returns-clause-most_steps c = refl
