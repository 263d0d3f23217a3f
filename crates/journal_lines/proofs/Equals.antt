-- Words around =.
use Rattle.journal_lines.proofs.Common.{◌≡◌, ℕ, false, List, [], ◌∷◌, ◌++◌, codes, bytes_eq, sym, ap, ◌∙◌, subst, append_assoc, Bor}
use Rattle.journal_lines.proofs.Common.{map_push, same_from_push, texts, equals}

texts_push : (words rest : List (Bor (List ℕ))) (x : Bor (List ℕ)) → words ≡ rest ++ x ∷ [] → texts words ≡ texts rest ++ x.now ∷ []
texts_push words rest x is = ap texts is ∙ map_push (λ (b : Bor (List ℕ)). b.now) rest x

pub equals_same : (f g : List (List ℕ)) (l m : List ℕ) → equals f l ≡ equals g m → (f ≡ g) × (l ≡ m)
equals_same f g l m is =
    let same : (f ++ codes "=" ∷ []) ++ l ∷ [] ≡ (g ++ codes "=" ∷ []) ++ m ∷ [] =
    append_assoc f (codes "=" ∷ []) (l ∷ []) ∙ is ∙ sym (append_assoc g (codes "=" ∷ []) (m ∷ [])) in
    let both = same_from_push (f ++ codes "=" ∷ []) (g ++ codes "=" ∷ []) l m same in
    ((same_from_push f g (codes "=") (codes "=") both.0).0, both.1)

module _ (words rest front : List (Bor (List ℕ))) (last sign : Bor (List ℕ)) (is_last : words ≡ rest ++ last ∷ [])
    (is_sign : rest ≡ front ++ sign ∷ []) where
  two : texts words ≡ (texts front ++ sign.now ∷ []) ++ last.now ∷ []
  two = texts_push words rest last is_last ∙ ap (λ (l : List (List ℕ)). l ++ last.now ∷ []) (texts_push rest front sign is_sign)

  pub around : sign.now ≡ codes "=" → texts words ≡ equals (texts front) last.now
  around is = two ∙ append_assoc (texts front) (sign.now ∷ []) (last.now ∷ []) ∙ ap (λ (s : List ℕ). texts front ++ s ∷ last.now ∷ []) is

  pub not_around : bytes_eq sign.now (codes "=") ≡ false → (f : List (List ℕ)) (l : List ℕ) → texts words ≡ equals f l → ⊥
  not_around differs f l is =
      let same : (texts front ++ sign.now ∷ []) ++ last.now ∷ [] ≡ (f ++ codes "=" ∷ []) ++ l ∷ [] =
      sym two ∙ is ∙ sym (append_assoc f (codes "=" ∷ []) (l ∷ [])) in
      let before : texts front ++ sign.now ∷ []
      ≡ f ++ codes "=" ∷ [] = (same_from_push (texts front ++ sign.now ∷ []) (f ++ codes "=" ∷ []) last.now l same).0 in
      let sign_is : sign.now ≡ codes "=" = (same_from_push (texts front) f sign.now (codes "=") before).1 in
      let both : bytes_eq (codes "=") (codes "=") ≡ false = subst (λ w. bytes_eq w (codes "=") ≡ false) sign_is differs in
      cc
