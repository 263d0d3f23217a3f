use Rattle.wast_script.proofs.Readings.{no_both, one_fault, one_script}
use Rattle.wast_script.proofs.law.one_reading.Goals as goal

pub returns : goal.returns
returns c = record {
  script = one_script;
  fault = one_fault;
  apart = λ text a b other said is. no_both text a b other said is;
}
