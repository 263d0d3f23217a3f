-- Lists that are not empty.
use Rattle.c_init.proofs.Common.{◌≡◌, ℕ, ◌<◌, ◌≤◌, true, false, List, [], ◌∷◌, length, refl, arith, SegmentEntry, has_bytes, is_some_of}

pub some_there : {A : Type 0} (xs : List A) → 0 < length xs → true ≡ is_some_of xs
some_there [] h = absurd (omega (arith, h))
some_there (x ∷ xs) h = refl

pub some_none : {A : Type 0} (xs : List A) → length xs ≤ 0 → false ≡ is_some_of xs
some_none [] h = refl
some_none (x ∷ xs) h = absurd (omega (arith, h))

pub bytes_some : (d : SegmentEntry) → 0 < length d.bytes → true ≡ has_bytes d
bytes_some d h = at d.bytes h
  where
    at : (bytes : List ℕ) → 0 < length bytes → true ≡ (elim bytes [ [] ↦ false | b ∷ rest ↦ true ])
    at [] h = absurd (omega (arith, h))
    at (b ∷ rest) h = refl

pub bytes_none : (d : SegmentEntry) → length d.bytes ≤ 0 → false ≡ has_bytes d
bytes_none d h = at d.bytes h
  where
    at : (bytes : List ℕ) → length bytes ≤ 0 → false ≡ (elim bytes [ [] ↦ false | b ∷ rest ↦ true ])
    at [] h = refl
    at (b ∷ rest) h = absurd (omega (arith, h))
