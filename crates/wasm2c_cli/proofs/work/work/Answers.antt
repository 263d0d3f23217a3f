use Rattle.wasm2c_cli.proofs.LineStops.{work_finished, work_stopped}
use Rattle.wasm2c_cli.proofs.Passed.{passed}
use Rattle.wasm2c_cli.proofs.PassingLines.{work_passed, work_tried}
use Rattle.wasm2c_cli.proofs.work.work.Goals as goal

pub work_on-requires : goal.work_on-requires
work_on-requires g c = passed _ _ c.in-Ok.ensures.line

pub returns-clause-done : goal.returns-clause-done
returns-clause-done g c =
    work_finished _ _ _ _ c.work_on.result c.in-Ok.ensures.line (passed _ _ c.in-Ok.ensures.line) c.work_on.ensures.done

pub returns-clause-stop : goal.returns-clause-stop
returns-clause-stop g c = work_stopped _ _ _ _ _ _ _ _ _ c.work_on.result c.in-Ok.ensures.line c.work_on.ensures.stop

pub returns-clause-passed : goal.returns-clause-passed
returns-clause-passed g c =
    work_passed _ _ _ _ c.work_on.result c.in-Ok.ensures.line (passed _ _ c.in-Ok.ensures.line) c.work_on.ensures.passed

pub returns-clause-tried : goal.returns-clause-tried
returns-clause-tried g c = work_tried _ _ _ _ c.work_on.result c.in-Ok.ensures.line c.work_on.ensures.tried
