use Rattle.wasm2c_cli.proofs.JobLaws.{distinct_files}
use Rattle.wasm2c_cli.proofs.law.distinct_files.Goals as goal

pub returns : goal.returns
returns c = distinct_files
