-- What is found in lists that are joined.
use Rattle.std.proofs.Common.{◌≡◌, ℕ, Bool, true, false, ◌||◌, if◌then◌else◌, List, [], ◌∷◌, ◌++◌, bytes_eq, Some, None, refl, sym, ap, ◌∙◌}
use Rattle.std.specs.Option.{option_or}
use Rattle.std.specs.List.{list_any}
use Rattle.w2c_base.specs.Lookup.{named}
use Rattle.w2c_base.proofs.Options.{or_assoc}

pub named-append : {A : Type 0} (q : List ℕ) (xs ys : List (List ℕ × A)) → named q (xs ++ ys) ≡ option_or (named q xs) (named q ys)
named-append q [] ys = refl
named-append q (x ∷ xs) ys = go (bytes_eq x.0 q) (named-append q xs ys)
  where
    go : (b : Bool) → named q (xs ++ ys) ≡ option_or (named q xs) (named q ys)
        → (if b then Some x.1 else named q (xs ++ ys)) ≡ option_or (if b then Some x.1 else named q xs) (named q ys)
    go true behind = refl
    go false behind = behind

pub found_left : {A : Type 0} (q : List ℕ) (xs ys : List (List ℕ × A)) (x : A) → Some x ≡ named q xs → Some x ≡ named q (xs ++ ys)
found_left q xs ys x e = ap (λ o. option_or o (named q ys)) e ∙ sym (named-append q xs ys)

pub found_right : {A : Type 0} (q : List ℕ) (xs ys : List (List ℕ × A)) → None ≡ named q xs → named q ys ≡ named q (xs ++ ys)
found_right q xs ys e = ap (λ o. option_or o (named q ys)) e ∙ sym (named-append q xs ys)

-- parameters and local variables in one table, and two lists behind them
pub found_of_four : {A : Type 0} (q : List ℕ) (a b c d own : List (List ℕ × A)) → named q own ≡ named q (a ++ b)
    → option_or (option_or (named q own) (named q c)) (named q d) ≡ named q (a ++ (b ++ (c ++ d)))
found_of_four q a b c d own e =
    ap (λ o. option_or (option_or o (named q c)) (named q d)) (e ∙ named-append q a b)
    ∙ or_assoc (option_or (named q a) (named q b)) (named q c) (named q d)
    ∙ or_assoc (named q a) (named q b) (option_or (named q c) (named q d))
    ∙ sym (named-append q a (b ++ (c ++ d))
    ∙ ap (option_or (named q a)) (named-append q b (c ++ d) ∙ ap (option_or (named q b)) (named-append q c d)))

pub among-append : (q : List ℕ) (xs ys : List (List ℕ))
    → list_any (bytes_eq q) (xs ++ ys) ≡ (list_any (bytes_eq q) xs || list_any (bytes_eq q) ys)
among-append q [] ys = refl
among-append q (x ∷ xs) ys = go (bytes_eq q x) (among-append q xs ys)
  where
    go : (b : Bool) → list_any (bytes_eq q) (xs ++ ys) ≡ (list_any (bytes_eq q) xs || list_any (bytes_eq q) ys)
        → (b || list_any (bytes_eq q) (xs ++ ys)) ≡ ((b || list_any (bytes_eq q) xs) || list_any (bytes_eq q) ys)
    go true behind = refl
    go false behind = behind
