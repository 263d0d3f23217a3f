use Rattle.wasm_binary.proofs.Common.{times_at, at}
use Rattle.wasm_binary.proofs.Loop.{Ahead}
use Rattle.wasm_binary.proofs.vectors.times.Given as goal

abbrev pub invariant-loop : goal.invariant-loop
invariant-loop g l = Ahead g.E.Entry.reading l.count l.counter l.entries (at l.ahead) (times_at g.E.Entry.reading l.fn.count (at l.fn.rest))
