use Rattle.c_tree.proofs.Common.{◌≡◌, drop, bytes_eq, list_any}
use Rattle.c_tree.proofs.name.is_among.Given as goal

abbrev pub invariant-loop-other : goal.invariant-loop-other
invariant-loop-other l =
    list_any (λ other. bytes_eq l.word other.now) (drop l.other-index l.words) ≡ list_any (λ other. bytes_eq l.word other.now) l.words
