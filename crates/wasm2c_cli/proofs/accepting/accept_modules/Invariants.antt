use Rattle.wasm2c_cli.proofs.Common.{take, AreTaken}
use Rattle.wasm2c_cli.proofs.accepting.accept_modules.Given as goal

-- so many are accepted
abbrev pub invariant-loop-k : goal.invariant-loop-k
invariant-loop-k l = AreTaken (take l.k l.sources) l.modules.items
