use Rattle.c_check.proofs.Common.{◌≡◌, map, drop, same_types}
use Rattle.c_check.proofs.declarations.same_types.Given as goal

abbrev pub invariant-loop-i : goal.invariant-loop-i
invariant-loop-i l =
    same_types (map (λ p. p.0) (drop l.i l.a)) (map (λ p. p.0) (drop l.i l.b)) ≡ same_types (map (λ p. p.0) l.a) (map (λ p. p.0) l.b)
