use Rattle.wasm2c_words.proofs.Common.{refl}
use Rattle.clap.proofs.OnLiterals.{clap_on_literals}
use Rattle.program_words.specs.Command.{rows_read}
use Rattle.wasm2c_words.specs.Command.{values_of}
use Rattle.wasm2c_words.proofs.cases.lines_that_are_refused.Goals as goal

pub returns-clause-no_word : goal.returns-clause-no_word
unfolding values_of rows_read clap_on_literals
returns-clause-no_word c = refl

pub returns-clause-no_output : goal.returns-clause-no_output
unfolding values_of rows_read clap_on_literals
returns-clause-no_output c = refl

pub returns-clause-output_twice : goal.returns-clause-output_twice
unfolding values_of rows_read clap_on_literals
returns-clause-output_twice c = refl

pub returns-clause-no_value : goal.returns-clause-no_value
unfolding values_of rows_read clap_on_literals
returns-clause-no_value c = refl

pub returns-clause-value_like_an_option : goal.returns-clause-value_like_an_option
unfolding values_of rows_read clap_on_literals
returns-clause-value_like_an_option c = refl

pub returns-clause-unknown : goal.returns-clause-unknown
unfolding values_of rows_read clap_on_literals
returns-clause-unknown c = refl

pub returns-clause-help : goal.returns-clause-help
unfolding values_of rows_read clap_on_literals
returns-clause-help c = refl

pub returns-clause-no_function : goal.returns-clause-no_function
unfolding values_of rows_read clap_on_literals
returns-clause-no_function c = refl

pub returns-clause-generated_from_a_file : goal.returns-clause-generated_from_a_file
unfolding values_of rows_read clap_on_literals
returns-clause-generated_from_a_file c = refl

pub returns-clause-same_module : goal.returns-clause-same_module
unfolding values_of rows_read clap_on_literals
returns-clause-same_module c = refl
