use Rattle.std.proofs.Common.{refl}
use Rattle.clap.proofs.OnLiterals.{clap_on_literals}
use Rattle.program_words.specs.Command.{rows_read}
use Rattle.wast_script.specs.CommandLine.{line_of}
use Rattle.wast_script.proofs.cases.lines_that_are_refused.Goals as goal

pub returns-clause-no_word : goal.returns-clause-no_word
unfolding line_of rows_read clap_on_literals
returns-clause-no_word c = refl

pub returns-clause-no_steps : goal.returns-clause-no_steps
unfolding line_of rows_read clap_on_literals
returns-clause-no_steps c = refl

pub returns-clause-no_script : goal.returns-clause-no_script
unfolding line_of rows_read clap_on_literals
returns-clause-no_script c = refl

pub returns-clause-steps_twice : goal.returns-clause-steps_twice
unfolding line_of rows_read clap_on_literals
returns-clause-steps_twice c = refl

pub returns-clause-two_scripts : goal.returns-clause-two_scripts
unfolding line_of rows_read clap_on_literals
returns-clause-two_scripts c = refl

pub returns-clause-no_value : goal.returns-clause-no_value
unfolding line_of rows_read clap_on_literals
returns-clause-no_value c = refl

pub returns-clause-unknown : goal.returns-clause-unknown
unfolding line_of rows_read clap_on_literals
returns-clause-unknown c = refl

pub returns-clause-help : goal.returns-clause-help
unfolding line_of rows_read clap_on_literals
returns-clause-help c = refl

pub returns-clause-no_number : goal.returns-clause-no_number
unfolding line_of rows_read clap_on_literals
returns-clause-no_number c = refl

pub returns-clause-too_large : goal.returns-clause-too_large
unfolding line_of rows_read clap_on_literals
returns-clause-too_large c = refl
