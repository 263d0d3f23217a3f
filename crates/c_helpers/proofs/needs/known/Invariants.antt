use Rattle.c_helpers.proofs.Common.{◌≡◌, ◌++◌, drop, filter, marked}
use Rattle.c_helpers.proofs.needs.known.Given as goal

abbrev pub invariant-loop-which : goal.invariant-loop-which
invariant-loop-which l = l.list.items ++ filter (marked l.marks) (drop l.which-index l.all) ≡ filter (marked l.marks) l.all
