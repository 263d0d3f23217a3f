-- The number that digits write.
use Rattle.c_lex.proofs.Common.{◌≡◌, ℕ, ◌+◌, ◌-◌, ◌*◌, ◌<◌, ◌≤◌, List, [], ◌∷◌, length, get_or, drop, refl, add-one, arith, drop-cons}
use Rattle.c_lex.proofs.Common.{value_of}

pub value_grows : (n : ℕ) (ds : List ℕ) → n ≤ value_of n ds
value_grows n [] = omega arith
value_grows n (d ∷ ds) = omega (arith, value_grows (10 * n + (d - 48)) ds)

pub value_step : (n i : ℕ) (ds : List ℕ) → i < length ds
    → value_of n (drop i ds) ≡ value_of (10 * n + (get_or ds i 0 - 48)) (drop (i + 1) ds)
value_step n i ds lt = rw (add-one, drop-cons ds i 0 lt) refl
