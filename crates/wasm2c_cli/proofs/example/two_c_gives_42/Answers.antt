use Rattle.c_print.proofs.WorkedUnit.{two_unit}
use Rattle.wasm2c_cli.proofs.ExampleRuns.{two_enough, two_over, two_spells}
use Rattle.wasm2c_cli.proofs.example.two_c_gives_42.Goals as goal

pub returns-clause-some : goal.returns-clause-some
returns-clause-some c = (two_unit, two_spells)

pub returns-clause-over : goal.returns-clause-over
returns-clause-over c = two_over

pub returns-clause-enough : goal.returns-clause-enough
returns-clause-enough c = two_enough
