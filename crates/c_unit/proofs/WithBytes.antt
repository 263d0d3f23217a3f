-- Segments with and without bytes.
use Rattle.c_unit.proofs.Common.{◌≡◌, ℕ, ◌<◌, ◌≤◌, List, [], ◌∷◌, ◌++◌, map, length, sym, refl, ap, ◌∙◌, append-nil, arith, Bor, map_push}
use Rattle.c_unit.proofs.Common.{SegmentEntry, bytes_if, bytes_of}

abbrev single : ℕ → List ℕ → List (ℕ × List ℕ)
single n bytes = (n, bytes) ∷ []

abbrev none : List (ℕ × List ℕ)
none = []

some_bytes : (n : ℕ) (d : SegmentEntry) → 0 < length d.bytes → single n d.bytes ≡ bytes_if (n, d)
some_bytes n d h = at d.bytes h
  where
    at : (bytes : List ℕ) → 0 < length bytes → single n d.bytes ≡ (elim bytes [ [] ↦ [] | b ∷ rest ↦ single n d.bytes ])
    at [] h = absurd (omega (arith, h))
    at (b ∷ rest) h = refl

no_bytes : (n : ℕ) (d : SegmentEntry) → length d.bytes ≤ 0 → none ≡ bytes_if (n, d)
no_bytes n d h = at d.bytes h
  where
    at : (bytes : List ℕ) → length bytes ≤ 0 → none ≡ (elim bytes [ [] ↦ [] | b ∷ rest ↦ single n d.bytes ])
    at [] h = refl
    at (b ∷ rest) h = absurd (omega (arith, h))

pub put_some : (before : List (ℕ × Bor SegmentEntry)) (n : ℕ) (d : Bor SegmentEntry) → 0 < length d.now.bytes
    → map bytes_of (before ++ (n, d) ∷ []) ≡ map bytes_of before ++ bytes_if (n, d.now)
put_some before n d h = map_push bytes_of before (n, d) ∙ ap (λ ys. map bytes_of before ++ ys) (some_bytes n d.now h)

pub put_none : (before : List (ℕ × Bor SegmentEntry)) (n : ℕ) (d : SegmentEntry) → length d.bytes ≤ 0
    → map bytes_of before ≡ map bytes_of before ++ bytes_if (n, d)
put_none before n d h = sym (append-nil (map bytes_of before)) ∙ ap (λ ys. map bytes_of before ++ ys) (no_bytes n d h)
