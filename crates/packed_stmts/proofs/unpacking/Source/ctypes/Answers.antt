use Rattle.packed_stmts.specs.Unpacked.{type_at, list_at}
use Rattle.packed_stmts.proofs.Turns.{goes_on, is_done}
use Rattle.packed_stmts.proofs.unpacking.Source.ctypes.Goals as goal

pub loop-preserved : goal.loop-preserved
loop-preserved c =
    rw c.in_ok-push.ensures.ok (goes_on type_at c.loop.types c.u64-count.result c.loop.counter c.loop.self c.ctype-ty.new.self
    c.ctype-ty.result (list_at type_at c.args.self.now) c.loop-test.true c.ctype-ty.ensures c.loop.invariant)

pub returns : goal.returns
returns c =
    is_done type_at c.loop.types c.u64-count.result c.loop.counter c.loop.self (list_at type_at c.args.self.now) c.loop-test.false
    c.loop.invariant
