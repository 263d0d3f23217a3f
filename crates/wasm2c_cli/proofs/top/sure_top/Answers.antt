use Rattle.std.proofs.Common.{arith}
use Rattle.wasm2c_cli.proofs.top.sure_top.Goals as goal

pub returns : goal.returns
returns c = λ m told. c.wasm2c_top.ensures.complete m told (λ rose. omega (arith, rose)) (λ rose. omega (arith, rose))
