-- Two pieces that were put into an array, one behind the other.
use Rattle.std.proofs.Common.{◌≡◌, ℕ, ◌+◌, List, ◌++◌, length, take, ap, ◌∙◌}

pub both_placed : (first second front back : List ℕ) (at end : ℕ) → at ≡ length front → end ≡ at + length back
    → take (length front) first ≡ front → take (at + length back) second ≡ take at first ++ back → take end second ≡ front ++ back
both_placed first second front back at end is_at is_end one two =
    ap (λ (n : ℕ). take n second) is_end ∙ two
    ∙ ap (λ (xs : List ℕ). xs ++ back) (ap (λ (n : ℕ). take n first) is_at ∙ one)
