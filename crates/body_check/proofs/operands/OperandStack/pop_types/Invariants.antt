use Rattle.body_check.proofs.Common.{◌≡◌, ◌≤◌, reverse, length, take, pop_types, Keeps, shown}
use Rattle.body_check.proofs.operands.OperandStack.pop_types.Given as goal

abbrev pub decreases-loop-left : goal.decreases-loop-left
decreases-loop-left l = l.left

abbrev pub invariant-loop-left : goal.invariant-loop-left
invariant-loop-left l = (l.left ≤ length l.types)
    × (pop_types (reverse (take l.left l.types)) (shown l.self) ≡ pop_types (reverse l.types) (shown l.initial.self))
    × Keeps l.initial.self l.self
