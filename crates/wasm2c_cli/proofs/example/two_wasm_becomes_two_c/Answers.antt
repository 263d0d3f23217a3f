use Rattle.wasm2c_cli.proofs.ExampleJob.{two_done, two_status}
use Rattle.wasm2c_cli.proofs.example.two_wasm_becomes_two_c.Goals as goal

pub returns-clause-status : goal.returns-clause-status
returns-clause-status c = λ contents job status there. two_status contents there job status

pub returns-clause-done : goal.returns-clause-done
returns-clause-done c = λ contents new there. two_done contents there new
