use Rattle.wasm2c_cli.proofs.Common.{arith, names_of, target_in}
use Rattle.w2c_files.proofs.Loops.{length-names}
use Rattle.wasm2c_cli.proofs.ModuleFiles.{all_targets, one_more_target}
use Rattle.wasm2c_cli.proofs.plan.set_targets.Goals as goal

pub loop-k-preserved : goal.loop-k-preserved
loop-k-preserved c =
    one_more_target (target_in c.args.dir.now) _ c.loop-k.k _ _ _ _ c.name_at.ensures c.loop-k.invariant c.in_ok-within.ensures
    c.in_ok-push.ensures.items

pub returns : goal.returns
returns c = all_targets _ (names_of c.args.inputs.now) c.loop-k.k _ (omega (arith, length-names c.args.inputs.now)) c.loop-k.invariant
