-- What the items of a list give is gathered item by item: what is there, and what the rest gives, is the whole.
use Rattle.body_check.proofs.Common.{◌≡◌, ℕ, ◌+◌, ◌<◌, List, [], ◌∷◌, ◌++◌, map, length, get_or, drop, replicate, flat_map, sym, ap, ◌∙◌}
use Rattle.body_check.proofs.Common.{append_assoc, drop_more, replicate-append-replicate}

pub one_more_gathered : {A B : Type 0} (f : A → List B) (items : List A) (i : ℕ) (x default : A) (old new whole : List B)
    → i < length items → x ≡ get_or items i default → new ≡ old ++ f x → old ++ flat_map f (drop i items) ≡ whole
    → new ++ flat_map f (drop (i + 1) items) ≡ whole
one_more_gathered f items i x default old new whole less is more h =
    let rest = flat_map f (drop (i + 1) items) in
    ap (λ ys. ys ++ rest) more ∙ append_assoc old (f x) rest
    ∙ ap (λ y. old ++ flat_map f (y ∷ drop (i + 1) items)) is
    ∙ ap (λ ys. old ++ flat_map f ys) (sym (drop_more items i default less)) ∙ h

-- one more of the items is copied
pub one_more_copied : {A B : Type 0} (f : A → B) (items : List A) (i : ℕ) (x default : A) (old new whole : List B)
    → i < length items → x ≡ get_or items i default → new ≡ old ++ f x ∷ [] → old ++ map f (drop i items) ≡ whole
    → new ++ map f (drop (i + 1) items) ≡ whole
one_more_copied f items i x default old new whole less is more h =
    let rest = map f (drop (i + 1) items) in
    ap (λ ys. ys ++ rest) more ∙ append_assoc old (f x ∷ []) rest
    ∙ ap (λ y. old ++ map f (y ∷ drop (i + 1) items)) is
    ∙ ap (λ ys. old ++ map f ys) (sym (drop_more items i default less)) ∙ h

-- one more is repeated
pub one_more_repeated : {A : Type 0} (old now new : List A) (n : ℕ) (x : A) → now ≡ old ++ replicate n x → new ≡ now ++ x ∷ []
    → new ≡ old ++ replicate (n + 1) x
one_more_repeated old now new n x so_far more =
    more ∙ ap (λ xs. xs ++ x ∷ []) so_far ∙ append_assoc old (replicate n x) (x ∷ [])
    ∙ ap (λ xs. old ++ xs) (replicate-append-replicate n 1 x)
