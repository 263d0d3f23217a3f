use Rattle.crun_words.proofs.Common.{refl}
use Rattle.clap.proofs.OnLiterals.{clap_on_literals}
use Rattle.program_words.specs.Command.{rows_read}
use Rattle.crun_words.specs.Command.{values_of}
use Rattle.crun_words.proofs.cases.lines_that_are_read.Goals as goal

pub returns-clause-in_order : goal.returns-clause-in_order
unfolding values_of rows_read clap_on_literals
returns-clause-in_order c = refl

pub returns-clause-other_order : goal.returns-clause-other_order
unfolding values_of rows_read clap_on_literals
returns-clause-other_order c = refl

pub returns-clause-most_steps : goal.returns-clause-most_steps
unfolding values_of rows_read clap_on_literals
returns-clause-most_steps c = refl

pub returns-clause-with_journals : goal.returns-clause-with_journals
unfolding values_of rows_read clap_on_literals
returns-clause-with_journals c = refl

pub returns-clause-two_merged : goal.returns-clause-two_merged
unfolding values_of rows_read clap_on_literals
returns-clause-two_merged c = refl

pub returns-clause-one_merged : goal.returns-clause-one_merged
unfolding values_of rows_read clap_on_literals
returns-clause-one_merged c = refl

pub returns-clause-trimmed : goal.returns-clause-trimmed
unfolding values_of rows_read clap_on_literals
returns-clause-trimmed c = refl
