use Rattle.std.proofs.Common.{◌≡◌, take}
use Rattle.c_trim.proofs.copies.copy_cases.Given as goal

abbrev pub invariant-loop-number : goal.invariant-loop-number
invariant-loop-number l = l.copies ≡ take l.number-index l.cases
