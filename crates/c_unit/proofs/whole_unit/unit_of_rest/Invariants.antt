use Rattle.c_unit.proofs.Common.{◌≡◌, ◌++◌, length, unit_of, left_of}
use Rattle.c_unit.proofs.whole_unit.unit_of_rest.Given as goal

abbrev pub invariant-more : goal.invariant-more
invariant-more l = unit_of l.unit ++ left_of l.items ≡ left_of l.fn.items

abbrev pub decreases-more : goal.decreases-more
decreases-more l = length (left_of l.items)
