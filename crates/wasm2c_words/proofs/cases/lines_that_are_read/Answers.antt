use Rattle.wasm2c_words.proofs.Common.{refl}
use Rattle.clap.proofs.OnLiterals.{clap_on_literals}
use Rattle.program_words.specs.Command.{rows_read}
use Rattle.wasm2c_words.specs.Command.{values_of}
use Rattle.wasm2c_words.proofs.cases.lines_that_are_read.Goals as goal

pub returns-clause-file_first : goal.returns-clause-file_first
unfolding values_of rows_read clap_on_literals
returns-clause-file_first c = refl

pub returns-clause-output_first : goal.returns-clause-output_first
unfolding values_of rows_read clap_on_literals
returns-clause-output_first c = refl

pub returns-clause-joined : goal.returns-clause-joined
unfolding values_of rows_read clap_on_literals
returns-clause-joined c = refl

pub returns-clause-two_files : goal.returns-clause-two_files
unfolding values_of rows_read clap_on_literals
returns-clause-two_files c = refl

pub returns-clause-generated : goal.returns-clause-generated
unfolding values_of rows_read clap_on_literals
returns-clause-generated c = refl

pub returns-clause-runtime_texts : goal.returns-clause-runtime_texts
unfolding values_of rows_read clap_on_literals
returns-clause-runtime_texts c = refl
