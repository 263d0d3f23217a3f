use Rattle.wast_run.proofs.Common.{seen_module, setting_of}
use Rattle.wast_run.proofs.Comings.{file_accepted}
use Rattle.wast_run.proofs.Passing.{accepted_over}
use Rattle.wast_run.proofs.stage.Stage.join_file.Goals as goal

pub returns-in-Ok-clause-comes : goal.returns-in-Ok-clause-comes
returns-in-Ok-clause-comes g c =
    file_accepted _ (setting_of c.args.self.now) (setting_of c.join.new.self) (seen_module c.args.file.now) _ _ _ _ c.in-Ok.word
    c.as_str.ensures.value c.as_bytes.ensures.value c.in-Ok-Accepted.field-0-is c.in-Ok-Accepted.ensures.judged c.in-Ok.ensures.joins

pub returns-in-Ok-clause-passed : goal.returns-in-Ok-clause-passed
returns-in-Ok-clause-passed g c =
    accepted_over _ _ (setting_of c.args.self.now) (setting_of c.join.new.self) (seen_module c.args.file.now) _ _ _ _ c.in-Ok.word
    c.as_str.ensures.value c.as_bytes.ensures.value c.in-Ok-Accepted.field-0-is c.in-Ok-Accepted.ensures.passed c.in-Ok.ensures.joins
