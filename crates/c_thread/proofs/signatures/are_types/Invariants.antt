use Rattle.c_thread.proofs.Common.{◌≡◌, drop, same_types}
use Rattle.c_thread.proofs.signatures.are_types.Given as goal

abbrev pub invariant-loop-i : goal.invariant-loop-i
invariant-loop-i l = same_types (drop l.i l.types) (drop l.i l.others) ≡ same_types l.types l.others
