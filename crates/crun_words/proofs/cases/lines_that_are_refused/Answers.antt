use Rattle.crun_words.proofs.Common.{refl}
use Rattle.clap.proofs.OnLiterals.{clap_on_literals}
use Rattle.program_words.specs.Command.{rows_read}
use Rattle.crun_words.specs.Command.{values_of}
use Rattle.crun_words.proofs.cases.lines_that_are_refused.Goals as goal

pub returns-clause-no_word : goal.returns-clause-no_word
unfolding values_of rows_read clap_on_literals
returns-clause-no_word c = refl

pub returns-clause-no_steps : goal.returns-clause-no_steps
unfolding values_of rows_read clap_on_literals
returns-clause-no_steps c = refl

pub returns-clause-no_calls : goal.returns-clause-no_calls
unfolding values_of rows_read clap_on_literals
returns-clause-no_calls c = refl

pub returns-clause-no_unit : goal.returns-clause-no_unit
unfolding values_of rows_read clap_on_literals
returns-clause-no_unit c = refl

pub returns-clause-calls_twice : goal.returns-clause-calls_twice
unfolding values_of rows_read clap_on_literals
returns-clause-calls_twice c = refl

pub returns-clause-state_twice : goal.returns-clause-state_twice
unfolding values_of rows_read clap_on_literals
returns-clause-state_twice c = refl

pub returns-clause-journal_twice : goal.returns-clause-journal_twice
unfolding values_of rows_read clap_on_literals
returns-clause-journal_twice c = refl

pub returns-clause-replayed_twice : goal.returns-clause-replayed_twice
unfolding values_of rows_read clap_on_literals
returns-clause-replayed_twice c = refl

pub returns-clause-state_with_a_value : goal.returns-clause-state_with_a_value
unfolding values_of rows_read clap_on_literals
returns-clause-state_with_a_value c = refl

pub returns-clause-no_value : goal.returns-clause-no_value
unfolding values_of rows_read clap_on_literals
returns-clause-no_value c = refl

pub returns-clause-no_journal : goal.returns-clause-no_journal
unfolding values_of rows_read clap_on_literals
returns-clause-no_journal c = refl

pub returns-clause-unknown : goal.returns-clause-unknown
unfolding values_of rows_read clap_on_literals
returns-clause-unknown c = refl

pub returns-clause-help : goal.returns-clause-help
unfolding values_of rows_read clap_on_literals
returns-clause-help c = refl

pub returns-clause-no_digit : goal.returns-clause-no_digit
unfolding values_of rows_read clap_on_literals
returns-clause-no_digit c = refl

pub returns-clause-no_number : goal.returns-clause-no_number
unfolding values_of rows_read clap_on_literals
returns-clause-no_number c = refl

pub returns-clause-too_large : goal.returns-clause-too_large
unfolding values_of rows_read clap_on_literals
returns-clause-too_large c = refl

pub returns-clause-too_many_digits : goal.returns-clause-too_many_digits
unfolding values_of rows_read clap_on_literals
returns-clause-too_many_digits c = refl
