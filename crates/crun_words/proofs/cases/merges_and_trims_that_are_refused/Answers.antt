use Rattle.crun_words.proofs.Common.{refl}
use Rattle.clap.proofs.OnLiterals.{clap_on_literals}
use Rattle.program_words.specs.Command.{rows_read}
use Rattle.crun_words.specs.Command.{values_of}
use Rattle.crun_words.proofs.cases.merges_and_trims_that_are_refused.Goals as goal

pub returns-clause-merge_of_none : goal.returns-clause-merge_of_none
unfolding values_of rows_read clap_on_literals
returns-clause-merge_of_none c = refl

pub returns-clause-trim_of_none : goal.returns-clause-trim_of_none
unfolding values_of rows_read clap_on_literals
returns-clause-trim_of_none c = refl

pub returns-clause-trim_of_two : goal.returns-clause-trim_of_two
unfolding values_of rows_read clap_on_literals
returns-clause-trim_of_two c = refl

pub returns-clause-merged_to_no_c_file : goal.returns-clause-merged_to_no_c_file
unfolding values_of rows_read clap_on_literals
returns-clause-merged_to_no_c_file c = refl

pub returns-clause-trimmed_to_no_c_file : goal.returns-clause-trimmed_to_no_c_file
unfolding values_of rows_read clap_on_literals
returns-clause-trimmed_to_no_c_file c = refl

pub returns-clause-merge_and_trim : goal.returns-clause-merge_and_trim
unfolding values_of rows_read clap_on_literals
returns-clause-merge_and_trim c = refl

pub returns-clause-merge_twice : goal.returns-clause-merge_twice
unfolding values_of rows_read clap_on_literals
returns-clause-merge_twice c = refl

pub returns-clause-trim_twice : goal.returns-clause-trim_twice
unfolding values_of rows_read clap_on_literals
returns-clause-trim_twice c = refl

pub returns-clause-merge_with_steps : goal.returns-clause-merge_with_steps
unfolding values_of rows_read clap_on_literals
returns-clause-merge_with_steps c = refl

pub returns-clause-merge_with_calls : goal.returns-clause-merge_with_calls
unfolding values_of rows_read clap_on_literals
returns-clause-merge_with_calls c = refl

pub returns-clause-merge_with_state : goal.returns-clause-merge_with_state
unfolding values_of rows_read clap_on_literals
returns-clause-merge_with_state c = refl

pub returns-clause-merge_with_a_journal : goal.returns-clause-merge_with_a_journal
unfolding values_of rows_read clap_on_literals
returns-clause-merge_with_a_journal c = refl

pub returns-clause-merge_with_a_replay : goal.returns-clause-merge_with_a_replay
unfolding values_of rows_read clap_on_literals
returns-clause-merge_with_a_replay c = refl

pub returns-clause-trim_with_steps : goal.returns-clause-trim_with_steps
unfolding values_of rows_read clap_on_literals
returns-clause-trim_with_steps c = refl

pub returns-clause-trim_with_calls : goal.returns-clause-trim_with_calls
unfolding values_of rows_read clap_on_literals
returns-clause-trim_with_calls c = refl

pub returns-clause-trim_with_state : goal.returns-clause-trim_with_state
unfolding values_of rows_read clap_on_literals
returns-clause-trim_with_state c = refl

pub returns-clause-trim_with_a_journal : goal.returns-clause-trim_with_a_journal
unfolding values_of rows_read clap_on_literals
returns-clause-trim_with_a_journal c = refl

pub returns-clause-trim_with_a_replay : goal.returns-clause-trim_with_a_replay
unfolding values_of rows_read clap_on_literals
returns-clause-trim_with_a_replay c = refl
