use Rattle.packed_stmts.specs.Unpacked.{case_at, list_at}
use Rattle.packed_stmts.proofs.Turns.{goes_on, is_done}
use Rattle.packed_stmts.proofs.unpacking.Source.cases.Goals as goal

pub loop-preserved : goal.loop-preserved
loop-preserved c =
    rw c.in_ok-push.ensures.ok (goes_on case_at c.loop.cases c.u64-count.result c.loop.counter c.loop.self c.case.new.self
    c.in_ok-case.case (list_at case_at c.args.self.now) c.loop-test.true c.in_ok-case.ensures c.loop.invariant)

pub returns : goal.returns
returns c =
    is_done case_at c.loop.cases c.u64-count.result c.loop.counter c.loop.self (list_at case_at c.args.self.now) c.loop-test.false
    c.loop.invariant
