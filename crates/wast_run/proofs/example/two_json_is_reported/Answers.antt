use Rattle.wast_run.proofs.ExampleScript.{two_reported}
use Rattle.wast_run.proofs.example.two_json_is_reported.Goals as goal

pub returns : goal.returns
returns c = λ contents old new status script_there module_there. two_reported contents script_there module_there old new status
