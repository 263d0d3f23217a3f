use Rattle.crun_cli.proofs.Common.{ap, ◌∙◌, c_symbols}
use Rattle.crun_cli.proofs.recording.task_of.Goals as goal

pub returns-in-Ok-of_inputs-clause-task : goal.returns-in-Ok-of_inputs-clause-task
returns-in-Ok-of_inputs-clause-task g c =
    let inputs = c.args.inputs.now in
    rw (ap c_symbols c.as_slice.ensures.value ∙ c.in-Ok.ensures.meaning) at c.in-Ok-of_inputs.ensures.task

pub returns-clause-stop : goal.returns-clause-stop
returns-clause-stop g c =
    let inputs = c.args.inputs.now in
    rw (ap c_symbols c.as_slice.ensures.value ∙ c.in-Ok.ensures.meaning) at c.in-Err-of_inputs.ensures.stop
