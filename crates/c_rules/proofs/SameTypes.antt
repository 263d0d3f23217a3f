-- Two lists of types, type by type.
use Rattle.c_rules.proofs.Common.{◌≡◌, ℕ, suc, ◌+◌, ◌<◌, ◌≤◌, Bool, true, false, ◌&&◌, ◌≢◌, List, [], ◌∷◌, map, length, get_or, drop, sym}
use Rattle.c_rules.proofs.Common.{refl, ap, ◌∙◌, arith, same_type, same_types, CType}
use Rattle.std.proofs.lemmas.List.{drop_all, length-map}
use Rattle.c_tree.proofs.Tested.{at_front}

-- as many of both
pub same_many : (types others : List CType) → length types ≢ length others → same_types types others ≡ false
same_many [] [] n = absurd (n refl)
same_many [] (a ∷ others) n = refl
same_many (t ∷ types) [] n = refl
same_many (t ∷ types) (a ∷ others) n = go (same_type t a) (same_many types others (λ e. n (ap suc e)))
  where
    go : (b : Bool) → same_types types others ≡ false → (b && same_types types others) ≡ false
    go true e = e
    go false e = refl

module _ {T : Type 0} (type_in : T → CType) (types others : List T) where
  pub same_never : length types ≢ length others → false ≡ same_types (map type_in types) (map type_in others)
  same_never n =
      let t : length (map type_in types) ≡ length types = simp length-map in
      let a : length (map type_in others) ≡ length others = simp length-map in
      sym (same_many (map type_in types) (map type_in others) (λ e. n (sym t ∙ e ∙ a)))

  module _ (i : ℕ) where
    pub same_end : (whole : Bool) → length types ≡ length others → length types ≤ i
        → same_types (map type_in (drop i types)) (map type_in (drop i others)) ≡ whole → true ≡ whole
    same_end whole same past so_far =
        sym (ap (λ ts. same_types (map type_in ts) (map type_in (drop i others))) (drop_all i types past)
        ∙ ap (λ ys. same_types [] (map type_in ys)) (drop_all i others (omega arith))) ∙ so_far

    module _ (t a : T) (lt : i < length types) (is : t ≡ get_or types i t) (lt2 : i < length others) (is2 : a ≡ get_or others i a)
        (whole : Bool) where
      front : same_types (map type_in (drop i types)) (map type_in (drop i others))
          ≡ (same_type (type_in t) (type_in a) && same_types (map type_in (drop (i + 1) types)) (map type_in (drop (i + 1) others)))
      front = ap (λ ts. same_types (map type_in ts) (map type_in (drop i others))) (at_front types i t lt is)
          ∙ ap (λ ys. same_types (map type_in (t ∷ drop (i + 1) types)) (map type_in ys)) (at_front others i a lt2 is2)

      pub same_more : same_type (type_in t) (type_in a) ≡ true
          → same_types (map type_in (drop i types)) (map type_in (drop i others)) ≡ whole
          → same_types (map type_in (drop (i + 1) types)) (map type_in (drop (i + 1) others)) ≡ whole
      same_more same so_far =
          sym (front ∙ ap (λ b. b && same_types (map type_in (drop (i + 1) types)) (map type_in (drop (i + 1) others))) same) ∙ so_far

      pub same_stops : same_type (type_in t) (type_in a) ≡ false
          → same_types (map type_in (drop i types)) (map type_in (drop i others)) ≡ whole → false ≡ whole
      same_stops fails so_far =
          sym (front ∙ ap (λ b. b && same_types (map type_in (drop (i + 1) types)) (map type_in (drop (i + 1) others))) fails) ∙ so_far
