use Rattle.packed_stmts.proofs.Common.{◌≡◌, ◌-◌, map, stmt_of}
use Rattle.packed_stmts.specs.Unpacked.{list_at, times_at}
use Rattle.packed_stmts.specs.Statement.{stmt_at}
use Rattle.packed_stmts.proofs.Turns.{with_front}
use Rattle.packed_stmts.proofs.chunk.stmts_of.Given as goal

abbrev pub invariant-loop : goal.invariant-loop
invariant-loop l = with_front (map stmt_of l.stmts.items) (times_at stmt_at (l.count - l.counter) l.source) ≡ list_at stmt_at l.fn.chunk
