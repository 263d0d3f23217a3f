use Rattle.packed_stmts.proofs.Common.{◌≡◌, ◌-◌}
use Rattle.packed_stmts.specs.Unpacked.{list_at, times_at, case_at}
use Rattle.packed_stmts.proofs.Turns.{with_front}
use Rattle.packed_stmts.proofs.unpacking.Source.cases.Given as goal

abbrev pub invariant-loop : goal.invariant-loop
invariant-loop l = with_front l.cases (times_at case_at (l.count - l.counter) l.self) ≡ list_at case_at l.fn.self
