-- Two lists of types, type by type.
use Rattle.c_thread.proofs.Common.{◌≡◌, ℕ, zero, suc, ◌+◌, ◌<◌, ◌≤◌, Bool, true, false, ◌&&◌, List, [], ◌∷◌, length, drop, slice_get, sym}
use Rattle.c_thread.proofs.Common.{refl, ap, ◌∙◌, arith, drop_all, same_types, CType, agree_at}

front : (types others : List CType) (i : ℕ) → i < length types → i < length others
    → same_types (drop i types) (drop i others)
    ≡ (agree_at (slice_get types i) (slice_get others i) && same_types (drop (i + 1) types) (drop (i + 1) others))
front [] others i lt lt2 = absurd (omega (arith, lt))
front (t ∷ types) [] i lt lt2 = absurd (omega (arith, lt2))
front (t ∷ types) (a ∷ others) zero lt lt2 = refl
front (t ∷ types) (a ∷ others) (suc i) lt lt2 =
    let one : suc i + 1 ≡ suc (i + 1) = omega arith in
    front types others i (omega (arith, lt)) (omega (arith, lt2))
    ∙ ap (λ n. agree_at (slice_get types i) (slice_get others i) && same_types (drop n (t ∷ types)) (drop n (a ∷ others))) (sym one)

module _ (types others : List CType) (i : ℕ) where
  pub same_end : (whole : Bool) → length types ≡ length others → length types ≤ i
      → same_types (drop i types) (drop i others) ≡ whole → true ≡ whole
  same_end whole same past so_far =
      sym (ap (λ ts. same_types ts (drop i others)) (drop_all i types past) ∙ ap (same_types []) (drop_all i others (omega arith))) ∙ so_far

  module _ (lt : i < length types) (lt2 : i < length others) (whole : Bool) where
    pub same_more : agree_at (slice_get types i) (slice_get others i) ≡ true → same_types (drop i types) (drop i others) ≡ whole
        → same_types (drop (i + 1) types) (drop (i + 1) others) ≡ whole
    same_more same so_far =
        sym (front types others i lt lt2 ∙ ap (λ b. b && same_types (drop (i + 1) types) (drop (i + 1) others)) same) ∙ so_far

    pub same_stops : agree_at (slice_get types i) (slice_get others i) ≡ false → same_types (drop i types) (drop i others) ≡ whole
        → false ≡ whole
    same_stops fails so_far =
        sym (front types others i lt lt2 ∙ ap (λ b. b && same_types (drop (i + 1) types) (drop (i + 1) others)) fails) ∙ so_far
