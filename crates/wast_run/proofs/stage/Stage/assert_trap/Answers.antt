use Rattle.wast_run.proofs.Common.{subst, seen_call, HasRun, setting_of}
use Rattle.wast_run.proofs.Assertions.{asserts_trap}
use Rattle.wast_run.proofs.stage.Stage.assert_trap.Goals as goal

pub returns-in-Ok-Some-clause-asserts : goal.returns-in-Ok-Some-clause-asserts
returns-in-Ok-Some-clause-asserts c =
    let call = seen_call c.args.call.now in
    let run = subst (HasRun c.args.self.now call c.args.steps) c.in-Ok-Some.field-0-is c.in-Ok-Some.ensures.came in
    asserts_trap c.args.self.now call c.args.steps c.args.cause c.in-Ok-Some.came c.word_of_trap.result
    (setting_of c.run.new.self) c.in-Ok-Some.ensures.same run c.word_of_trap.ensures
