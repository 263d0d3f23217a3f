use Rattle.c_lex.proofs.Common.{◌≡◌, ◌-◌, ◌≤◌, length, drop, comment_end}
use Rattle.c_lex.proofs.Runs.{shifted}
use Rattle.c_lex.proofs.front.comment_end.Given as goal

abbrev pub invariant-loop-i : goal.invariant-loop-i
invariant-loop-i l = (l.i ≤ length l.bytes) × (comment_end l.bytes ≡ shifted l.i (comment_end (drop l.i l.bytes)))

abbrev pub decreases-loop-i : goal.decreases-loop-i
decreases-loop-i l = length l.bytes - l.i
