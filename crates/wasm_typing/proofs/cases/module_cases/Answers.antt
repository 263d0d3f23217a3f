use Rattle.std.proofs.Common.{[], refl}
use Rattle.wasm_typing.specs.ModuleFaults.{module_faults}
use Rattle.wasm_typing.proofs.ClosedBodies as closed
use Rattle.wasm_typing.proofs.cases.module_cases.Goals as goal

pub returns-clause-empty : goal.returns-clause-empty
unfolding module_faults
returns-clause-empty c = ([], ([], refl, refl), refl)

pub returns-clause-second_body : goal.returns-clause-second_body
returns-clause-second_body c = closed.second_body
