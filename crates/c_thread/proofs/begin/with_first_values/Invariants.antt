use Rattle.c_thread.proofs.Common.{◌≡◌, List, length, Name, Naming, value_of, Grows}
use Rattle.c_thread.proofs.begin.with_first_values.Given as goal

abbrev pub invariant-loop-local : goal.invariant-loop-local
invariant-loop-local l = (names : Naming) (params : List Name) → length params ≡ length l.fn.values.items
    → Grows (value_of names) params l.fn.values.items l.locals l.local-index l.values.items
