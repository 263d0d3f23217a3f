use Rattle.std.proofs.Common.{subst}
use Rattle.w2c_sim.specs.Refusals.{IsRefusal}
use Rattle.wast_run.proofs.Comings.{said_malformed, said_float, said_limit, said_invalid}
use Rattle.wast_run.proofs.judging.judge.Goals as goal

pub returns-in-Err-Malformed : goal.returns-in-Err-Malformed
returns-in-Err-Malformed c =
    let bytes = c.args.bytes.now in
    said_malformed bytes _ _ (subst (IsRefusal bytes) c.in-Err-Malformed.field-0-is c.in-Err-Malformed.ensures.refused)

pub returns-in-Err-Float : goal.returns-in-Err-Float
returns-in-Err-Float c =
    said_float c.args.bytes.now _ (subst (IsRefusal c.args.bytes.now) c.in-Err-Float.field-0-is c.in-Err-Float.ensures.refused)

pub returns-in-Err-Limit : goal.returns-in-Err-Limit
returns-in-Err-Limit c =
    said_limit c.args.bytes.now _ _ (subst (IsRefusal c.args.bytes.now) c.in-Err-Limit.field-0-is c.in-Err-Limit.ensures.refused)

pub returns-in-Err-Invalid : goal.returns-in-Err-Invalid
returns-in-Err-Invalid c =
    said_invalid c.args.bytes.now _ _ (subst (IsRefusal c.args.bytes.now) c.in-Err-Invalid.field-0-is c.in-Err-Invalid.ensures.refused)
