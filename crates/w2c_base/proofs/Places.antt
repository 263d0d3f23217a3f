-- What stands at a place of a list, and the list on both sides of it.
use Rattle.std.proofs.Common.{◌≡◌, ℕ, zero, suc, ◌+◌, ◌<◌, true, List, [], ◌∷◌, ◌++◌, length, get_or, drop, take, replicate, map, is_some}
use Rattle.std.proofs.Common.{Some, slice_get, slice_set, refl, sym, ap, ◌∙◌, add-one, arith, option_map, take-append-drop, drop-cons}
use Rattle.std.proofs.lemmas.Option.{same_Some, slice_get-get_or, slice_get-map}

pub get_within : {A : Type 0} (xs : List A) (i : ℕ) → i < length xs → (x : A) × (slice_get xs i ≡ Some x)
get_within [] i less = absurd (omega (arith, less))
get_within (x ∷ xs) zero less = (x, refl)
get_within (x ∷ xs) (suc i) less = get_within xs i (omega (arith, less))

pub some_first : {A : Type 0} (xs : List A) → 0 < length xs → is_some (slice_get xs 0) ≡ true
some_first [] some = absurd (omega (arith, some))
some_first (x ∷ xs) some = refl

-- whatever else would be read past its end
pub read_again : {A : Type 0} (xs : List A) (i : ℕ) (d : A) → i < length xs → get_or xs i d ≡ get_or xs i (get_or xs i d)
read_again [] i d less = absurd (omega (arith, less))
read_again (x ∷ xs) zero d less = refl
read_again (x ∷ xs) (suc i) d less = read_again xs i d (omega (arith, less))

-- what stands there does not hang on what would be read past its end
pub same_at : {A : Type 0} (xs : List A) (i : ℕ) (d e : A) → i < length xs → get_or xs i d ≡ get_or xs i e
same_at [] i d e less = absurd (omega (arith, less))
same_at (x ∷ xs) zero d e less = refl
same_at (x ∷ xs) (suc i) d e less = same_at xs i d e (omega (arith, less))

pub set_same : {A : Type 0} (xs : List A) (k : ℕ) (x : A) → slice_get xs k ≡ Some x → slice_set xs k x ≡ xs
set_same [] k x e = refl
set_same (y ∷ xs) zero x e = ap (λ z. z ∷ xs) (sym (same_Some y x e))
set_same (y ∷ xs) (suc k) x e = ap (λ ys. y ∷ ys) (set_same xs k x e)

pub set_there : {A : Type 0} (xs : List A) (i : ℕ) (x y : A) → slice_get xs i ≡ Some x → slice_get (slice_set xs i y) i ≡ Some y
set_there [] i x y e = absurd cc
set_there (z ∷ xs) zero x y e = refl
set_there (z ∷ xs) (suc i) x y e = set_there xs i x y e

pub beside : {A B : Type 0} (xs : List A) (ys : List B) (i : ℕ) (x : A) → length xs ≡ length ys → slice_get xs i ≡ Some x
    → (y : B) × (slice_get ys i ≡ Some y)
beside [] ys i x many at = absurd cc
beside (a ∷ xs) [] i x many at = absurd (omega arith)
beside (a ∷ xs) (y ∷ ys) zero x many at = (y, refl)
beside (a ∷ xs) (y ∷ ys) (suc i) x many at = beside xs ys i x (omega arith) at

-- ---- of a list that is joined, or mapped

pub get_front : {A : Type 0} (xs ys : List A) (k : ℕ) (x : A) → slice_get xs k ≡ Some x → slice_get (xs ++ ys) k ≡ Some x
get_front [] ys k x at = absurd cc
get_front (z ∷ xs) ys zero x at = at
get_front (z ∷ xs) ys (suc k) x at = get_front xs ys k x at

pub get_before : {A : Type 0} (xs ys : List A) (k : ℕ) → k < length xs → slice_get (xs ++ ys) k ≡ slice_get xs k
get_before [] ys k less = absurd (omega (arith, less))
get_before (x ∷ xs) ys zero less = refl
get_before (x ∷ xs) ys (suc k) less = get_before xs ys k (omega (arith, less))

pub get_replicated : {A : Type 0} (n k : ℕ) (x : A) → k < n → slice_get (replicate n x) k ≡ Some x
get_replicated zero k x less = absurd (omega (arith, less))
get_replicated (suc n) zero x less = refl
get_replicated (suc n) (suc k) x less = get_replicated n k x (omega (arith, less))

pub take_front : {A : Type 0} (front back : List A) → take (length front) (front ++ back) ≡ front
take_front [] back = refl
take_front (x ∷ front) back = ap (λ xs. x ∷ xs) (take_front front back)

pub take_with : {A : Type 0} (xs : List A) (y : A) (ys : List A) → take (length xs + 1) (xs ++ y ∷ ys) ≡ xs ++ y ∷ []
take_with [] y ys = refl
take_with (x ∷ xs) y ys =
    let e : suc (length xs) + 1 ≡ suc (length xs + 1) = omega arith in
    ap (λ n. take n (x ∷ (xs ++ y ∷ ys))) e ∙ ap (λ l. x ∷ l) (take_with xs y ys)

pub right_behind : {A : Type 0} (before : List A) (x : A) (xs : List A) → slice_get (before ++ x ∷ xs) (length before) ≡ Some x
right_behind [] x xs = refl
right_behind (y ∷ before) x xs = right_behind before x xs

pub seen_at : {A X : Type 0} (view : X → A) (xs : List X) (i : ℕ) (x : X) → slice_get xs i ≡ Some x
    → slice_get (map view xs) i ≡ Some (view x)
seen_at view xs i x at = slice_get-map view xs i ∙ ap (option_map view) at

pub mapped_at : {A B : Type 0} (f : A → B) (xs : List A) (i : ℕ) (x : A) → i < length xs → x ≡ get_or xs i x
    → slice_get (map f xs) i ≡ Some (f x)
mapped_at f xs i x less is = seen_at f xs i x (slice_get-get_or xs i x less ∙ ap Some (sym is))

-- ---- the list up to it, and from it on

pub take_next : {A : Type 0} (xs : List A) (i : ℕ) (x : A) → slice_get xs i ≡ Some x → take (i + 1) xs ≡ take i xs ++ x ∷ []
take_next [] i x at = absurd cc
take_next (y ∷ xs) zero x at = let e : y ≡ x = cc in ap (λ z. z ∷ []) e
take_next (y ∷ xs) (suc i) x at =
    ap (λ n. take n (y ∷ xs)) (add-one (suc i)) ∙ ap (λ zs. y ∷ zs) (ap (λ n. take n xs) (sym (add-one i)) ∙ take_next xs i x at)

pub drop_front : {A : Type 0} (xs : List A) (i : ℕ) (x : A) → slice_get xs i ≡ Some x → drop i xs ≡ x ∷ drop (i + 1) xs
drop_front [] i x at = absurd cc
drop_front (y ∷ xs) zero x at = let e : y ≡ x = cc in ap (λ z. z ∷ xs) e
drop_front (y ∷ xs) (suc i) x at = drop_front xs i x at ∙ ap (λ n. x ∷ drop n xs) (add-one i) ∙ rw (add-one (suc i)) refl

pub around : {A : Type 0} (xs : List A) (i : ℕ) (x : A) → slice_get xs i ≡ Some x → xs ≡ take i xs ++ x ∷ drop (suc i) xs
around [] i x at = absurd cc
around (y ∷ xs) zero x at = let e : y ≡ x = cc in ap (λ z. z ∷ xs) e
around (y ∷ xs) (suc i) x at = ap (λ zs. y ∷ zs) (around xs i x at)

-- ---- by an index

pub front_next : {A : Type 0} (xs : List A) (i : ℕ) (x : A) → i < length xs → x ≡ get_or xs i x → take (i + 1) xs ≡ take i xs ++ x ∷ []
front_next xs i x less is = take_next xs i x (slice_get-get_or xs i x less ∙ ap Some (sym is))

pub front_split : {A : Type 0} (xs : List A) (i : ℕ) (x : A) → i < length xs → x ≡ get_or xs i x → xs ≡ take i xs ++ x ∷ drop (i + 1) xs
front_split xs i x less is =
    sym (take-append-drop i xs)
    ∙ ap (λ l. take i xs ++ l) (rw add-one (drop-cons xs i x less ∙ ap (λ y. y ∷ drop (suc i) xs) (sym is)))

pub mapped_next : {A B : Type 0} (f : A → B) (xs : List A) (i : ℕ) (x : A) → i < length xs → x ≡ get_or xs i x
    → take (i + 1) (map f xs) ≡ take i (map f xs) ++ f x ∷ []
mapped_next f xs i x less is = take_next (map f xs) i (f x) (mapped_at f xs i x less is)
