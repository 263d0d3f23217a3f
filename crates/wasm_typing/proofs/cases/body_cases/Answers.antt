use Rattle.wasm_typing.proofs.ClosedBodies as closed
use Rattle.wasm_typing.proofs.cases.body_cases.Goals as goal

pub returns-clause-dead_code : goal.returns-clause-dead_code
returns-clause-dead_code c = closed.dead_code

pub returns-clause-if_without_else : goal.returns-clause-if_without_else
returns-clause-if_without_else c = closed.if_without_else

pub returns-clause-two_results : goal.returns-clause-two_results
returns-clause-two_results c = closed.two_results

pub returns-clause-alignment : goal.returns-clause-alignment
returns-clause-alignment c = closed.alignment
