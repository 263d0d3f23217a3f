use Rattle.w2c_base.proofs.Types.{unequal}
use Rattle.wasm_set.proofs.types.same_types.Goals as goal

pub returns-then-left-right : goal.returns-then-left-right
returns-then-left-right c = unequal c.args.left.now c.args.right.now c.if-left-right.true
