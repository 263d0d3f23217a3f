use Rattle.packed_stmts.proofs.Common.{◌≡◌, ◌-◌, map}
use Rattle.c_tree.specs.View.{arg_of}
use Rattle.packed_stmts.specs.Unpacked.{list_at, times_at, arg_at}
use Rattle.packed_stmts.proofs.Turns.{with_front}
use Rattle.packed_stmts.proofs.unpacking.Source.args.Given as goal

abbrev pub invariant-loop : goal.invariant-loop
invariant-loop l = with_front (map arg_of l.args) (times_at arg_at (l.count - l.counter) l.self) ≡ list_at arg_at l.fn.self
