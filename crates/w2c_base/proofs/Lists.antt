-- Lists: elements by their index, what a filter keeps, what holds of all elements, and lists with one item changed.
use Rattle.std.proofs.Common.{◌≡◌, ℕ, zero, suc, ◌+◌, ◌-◌, ◌<◌, ◌≤◌, Bool, true, false, cond, ◌⊎◌, List, [], ◌∷◌, ◌++◌, map, length, take}
use Rattle.std.proofs.Common.{drop, replicate, if◌then◌else◌, slice_get, slice_set, Some, None, Contains, filter, Option, option_map, find}
use Rattle.std.proofs.Common.{zip, flat_map, bytes_eq, sym, refl, ap, ◌∙◌, subst, inl, inr, arith, length-append}
use Rattle.std.proofs.lemmas.Option.{none-some, same_Some, slice_get-map}
use Rattle.std.specs.List.{AllByRecursion, range_with_len}
use Rattle.w2c_base.specs.Lookup.{if_found, named}

-- ---- elements by their index

pub get_behind : {A : Type 0} (xs ys : List A) (i : ℕ) → slice_get (xs ++ ys) (length xs + i) ≡ slice_get ys i
get_behind [] ys i = ap (slice_get ys) (omega arith)
get_behind (x ∷ xs) ys i =
    let e : length (x ∷ xs) + i ≡ suc (length xs + i) = omega arith in
    ap (slice_get (x ∷ xs ++ ys)) e ∙ get_behind xs ys i

-- behind a front of known length
pub get_past : {A : Type 0} (xs ys : List A) (k : ℕ) (z : A) → length xs ≤ k → slice_get (xs ++ ys) k ≡ Some z
    → (n : ℕ) × (k ≡ length xs + n) × (slice_get ys n ≡ Some z)
get_past xs ys k z le e =
    let n = k - length xs in
    let at : k ≡ length xs + n = omega (arith, le) in
    (n, at, sym (get_behind xs ys n) ∙ (sym (ap (λ i. slice_get (xs ++ ys) i) at) ∙ e))

-- an element of joined lists is one of the first, or of the second
pub get_joined : {A : Type 0} (xs ys : List A) (i : ℕ) (y : A) → slice_get (xs ++ ys) i ≡ Some y
    → (slice_get xs i ≡ Some y) ⊎ ((j : ℕ) × (i ≡ length xs + j) × (slice_get ys j ≡ Some y))
get_joined [] ys i y e = inr (i, omega arith, e)
get_joined (x ∷ xs) ys zero y e = inl e
get_joined (x ∷ xs) ys (suc i) y e = elim (get_joined xs ys i y e) [
  | inl here ↦ inl here
  | inr behind ↦ inr (behind.0, omega (arith, behind.1), behind.2)
]

pub get_none : {A : Type 0} (xs : List A) (i : ℕ) → slice_get xs i ≡ None → length xs ≤ i
get_none [] i e = omega arith
get_none (x ∷ xs) zero e = absurd cc
get_none (x ∷ xs) (suc i) e = let h = get_none xs i e in omega (arith, h)

pub get_mapped : {A B : Type 0} (f : A → B) (xs : List A) (i : ℕ) (x : A) → slice_get xs i ≡ Some x → slice_get (map f xs) i ≡ Some (f x)
get_mapped f xs i x e = slice_get-map f xs i ∙ ap (option_map f) e

pub get_unmapped : {A B : Type 0} (f : A → B) (xs : List A) (i : ℕ) (y : B) → slice_get (map f xs) i ≡ Some y
    → (x : A) × (slice_get xs i ≡ Some x) × (f x ≡ y)
get_unmapped f [] i y e = absurd cc
get_unmapped f (x ∷ xs) zero y e = (x, refl, cc)
get_unmapped f (x ∷ xs) (suc i) y e = get_unmapped f xs i y e

pub get_numbered : (a n i : ℕ) → i < n → slice_get (range_with_len a n) i ≡ Some (a + i)
get_numbered a zero i less = absurd (omega (arith, less))
get_numbered a (suc n) zero less = ap (λ (k : ℕ). Some k) (omega arith)
get_numbered a (suc n) (suc i) less = get_numbered (a + 1) n i (omega (arith, less)) ∙ ap (λ (k : ℕ). Some k) (omega arith)

pub get_zipped : {A B : Type 0} (xs : List A) (ys : List B) (i : ℕ) (q : A × B) → slice_get (zip xs ys) i ≡ Some q
    → (slice_get xs i ≡ Some q.0) × (slice_get ys i ≡ Some q.1)
get_zipped [] ys i q e = absurd cc
get_zipped (x ∷ xs) [] i q e = absurd cc
get_zipped {A = A} {B = B} (x ∷ xs) (y ∷ ys) zero q e = let same : (x, y) ≡ q = cc in
    (ap (λ (r : A × B). Some r.0) same, ap (λ (r : A × B). Some r.1) same)
get_zipped (x ∷ xs) (y ∷ ys) (suc i) q e = get_zipped xs ys i q e

-- ---- what a filter keeps

-- what a filter keeps was there
pub get_kept : {A : Type 0} (test : A → Bool) (xs : List A) (i : ℕ) (x : A) → slice_get (filter test xs) i ≡ Some x
    → (j : ℕ) × (slice_get xs j ≡ Some x)
get_kept test [] i x e = absurd cc
get_kept test (y ∷ xs) i x e = by_test (test y) i e (λ k h. let r = get_kept test xs k x h in (suc r.0, r.1))
  where
    by_test : (keep : Bool) (i : ℕ) → slice_get (cond keep (y ∷ filter test xs) (filter test xs)) i ≡ Some x
        → ((k : ℕ) → slice_get (filter test xs) k ≡ Some x → (j : ℕ) × (slice_get (y ∷ xs) j ≡ Some x))
        → (j : ℕ) × (slice_get (y ∷ xs) j ≡ Some x)
    by_test true zero e more = (0, e)
    by_test true (suc i) e more = more i e
    by_test false i e more = more i e

contains_first : {A : Type 0} (b : Bool) (y : A) (xs : List A) (x : A) → b ≡ true → y ≡ x → Contains (cond b (y ∷ xs) xs) x
contains_first true y xs x e same = (0, omega arith, same)
contains_first false y xs x e same = absurd cc

contains_behind : {A : Type 0} (b : Bool) (y : A) (xs : List A) (x : A) → Contains xs x → Contains (cond b (y ∷ xs) xs) x
contains_behind true y xs x h = (suc h.0, omega (arith, h.1), h.2)
contains_behind false y xs x h = h

pub contains_kept : {A : Type 0} (test : A → Bool) (xs : List A) (i : ℕ) (x : A) → slice_get xs i ≡ Some x → test x ≡ true
    → Contains (filter test xs) x
contains_kept test [] i x at_it passes = absurd (cc)
contains_kept test (y ∷ xs) zero x at_it passes = let same : y ≡ x = cc in
    contains_first (test y) y (filter test xs) x (ap test same ∙ passes) same
contains_kept test (y ∷ xs) (suc i) x at_it passes = contains_behind (test y) y (filter test xs) x (contains_kept test xs i x at_it passes)

pub filter_few : {A : Type 0} (test : A → Bool) (xs : List A) → length (filter test xs) ≤ length xs
filter_few test [] = omega arith
filter_few test (x ∷ xs) = go (test x) (filter_few test xs)
  where
    go : (b : Bool) → length (filter test xs) ≤ length xs → length (cond b (x ∷ filter test xs) (filter test xs)) ≤ suc (length xs)
    go true le = omega (arith, le)
    go false le = omega (arith, le)

-- what each element brings, where those that pass a test bring one
pub one_each : {A B : Type 0} (wanted : A → Bool) (brings : A → List B) → ((x : A) → length (brings x) ≡ cond (wanted x) 1 0)
    → (xs : List A)
    → length (filter wanted xs) ≡ length (flat_map brings xs)
one_each wanted brings one [] = refl
one_each wanted brings one (x ∷ xs) = go (wanted x) (one x) (one_each wanted brings one xs)
  where
    go : (b : Bool) → length (brings x) ≡ cond b 1 0 → length (filter wanted xs) ≡ length (flat_map brings xs)
        → length (cond b (x ∷ filter wanted xs) (filter wanted xs)) ≡ length (brings x ++ flat_map brings xs)
    go true e more = omega (arith, e, more, length-append (brings x) (flat_map brings xs))
    go false e more = omega (arith, e, more, length-append (brings x) (flat_map brings xs))

-- ---- what holds of all elements

pub all_of : {A : Type 0} (P : A → Type 0) (xs : List A) → ((x : A) → P x) → AllByRecursion P xs
all_of P [] h = tt
all_of P (x ∷ xs) h = (h x, all_of P xs h)

pub all_front : {A : Type 0} (P : A → Type 0) (xs ys : List A) → AllByRecursion P (xs ++ ys) → AllByRecursion P xs
all_front P [] ys all = tt
all_front P (x ∷ xs) ys all = (all.0, all_front P xs ys all.1)

pub all_behind : {A : Type 0} (P : A → Type 0) (xs ys : List A) → AllByRecursion P (xs ++ ys) → AllByRecursion P ys
all_behind P [] ys all = all
all_behind P (x ∷ xs) ys all = all_behind P xs ys all.1

pub all_replicate : {A : Type 0} (P : A → Type 0) (n : ℕ) (x : A) → (0 < n → P x) → AllByRecursion P (replicate n x)
all_replicate P zero x h = tt
all_replicate P (suc n) x h = (h (omega arith), all_replicate P n x (λ some. h (omega arith)))

pub all_range : (P : ℕ → Type 0) (a n : ℕ) → ((k : ℕ) → a ≤ k → k < a + n → P k) → AllByRecursion P (range_with_len a n)
all_range P a zero h = tt
all_range P a (suc n) h = (
  h a (omega arith) (omega arith),
  all_range P (a + 1) n
      (λ k le less. h k (omega (arith, le)) (omega (arith, less))),
)

pub all_taken : {A : Type 0} (P : A → Type 0) (xs : List A) (n : ℕ) → ((j : ℕ) (x : A) → j < n → slice_get xs j ≡ Some x → P x)
    → AllByRecursion P (take n xs)
all_taken P [] zero h = tt
all_taken P [] (suc n) h = tt
all_taken P (x ∷ xs) zero h = tt
all_taken P (x ∷ xs) (suc n) h = (h 0 x (omega arith) refl, all_taken P xs n (λ j y less e. h (suc j) y (omega (arith, less)) e))

pub all_take : {A : Type 0} (P : A → Type 0) (n : ℕ) (xs : List A) → AllByRecursion P xs → AllByRecursion P (take n xs)
all_take P zero [] all = tt
all_take P zero (x ∷ xs) all = tt
all_take P (suc n) [] all = tt
all_take P (suc n) (x ∷ xs) all = (all.0, all_take P n xs all.1)

pub all_drop : {A : Type 0} (P : A → Type 0) (n : ℕ) (xs : List A) → AllByRecursion P xs → AllByRecursion P (drop n xs)
all_drop P zero xs all = all
all_drop P (suc n) [] all = tt
all_drop P (suc n) (x ∷ xs) all = all_drop P n xs all.1

pub found_has : {A : Type 0} (P : A → Type 0) (test : A → Bool) (xs : List A) (x : A) → AllByRecursion P xs → find test xs ≡ Some x → P x
found_has P test [] x all e = absurd (none-some x e)
found_has P test (y ∷ xs) x all e = go (found_has P test xs x all.1) (test y) e
  where
    go : (find test xs ≡ Some x → P x) → (b : Bool) → (if b then Some y else find test xs) ≡ Some x → P x
    go behind true e = subst P (same_Some y x e) all.0
    go behind false e = behind e

pub named_has : {A : Type 0} (P : A → Type 0) (name : List ℕ) (entries : List (List ℕ × A)) (x : A) → AllByRecursion (λ e. P e.1) entries
    → named name entries ≡ Some x → P x
named_has P name [] x all e = absurd (none-some x e)
named_has P name (y ∷ entries) x all e = go (named_has P name entries x all.1) (bytes_eq y.0 name) e
  where
    go : (named name entries ≡ Some x → P x) → (b : Bool) → (if b then Some y.1 else named name entries) ≡ Some x → P x
    go behind true e = subst P (same_Some y.1 x e) all.0
    go behind false e = behind e

-- ---- one item changed

pub all_set : {A : Type 0} (P : A → Type 0) (xs : List A) (k : ℕ) (y : A) → P y → AllByRecursion P xs → AllByRecursion P (slice_set xs k y)
all_set P [] k y h all = tt
all_set P (x ∷ xs) zero y h all = (h, all.1)
all_set P (x ∷ xs) (suc k) y h all = (all.0, all_set P xs k y h all.1)

-- what is seen of each item, where the change is not seen
pub unseen : {A B : Type 0} (f : A → Option B) (xs : List A) (k j : ℕ) (x y : A) → slice_get xs k ≡ Some x → f y ≡ f x
    → if_found (slice_get (slice_set xs k y) j) f ≡ if_found (slice_get xs j) f
unseen f [] k j x y e same = refl
unseen f (z ∷ xs) zero zero x y e same = same ∙ sym (ap f (same_Some z x e))
unseen f (z ∷ xs) zero (suc j) x y e same = refl
unseen f (z ∷ xs) (suc k) zero x y e same = refl
unseen f (z ∷ xs) (suc k) (suc j) x y e same = unseen f xs k j x y e same

-- an item stands where one stood, and what is kept by the change holds of it
pub still_there : {A : Type 0} (P : A → Type 0) (xs : List A) (k j : ℕ) (x y z : A) → slice_get xs k ≡ Some x → (P x → P y)
    → slice_get xs j ≡ Some z → P z → (w : A) × (slice_get (slice_set xs k y) j ≡ Some w) × P w
still_there P [] k j x y z e keeps at has = absurd (none-some z at)
still_there P (v ∷ xs) zero zero x y z e keeps at has =
    let same : z ≡ x = sym (same_Some v z at) ∙ same_Some v x e in (y, refl, keeps (subst P same has))
still_there P (v ∷ xs) zero (suc j) x y z e keeps at has = (z, at, has)
still_there P (v ∷ xs) (suc k) zero x y z e keeps at has = (z, at, has)
still_there P (v ∷ xs) (suc k) (suc j) x y z e keeps at has = still_there P xs k j x y z e keeps at has

-- what holds of all that is seen
pub still_all : {A B : Type 0} (P : B → Type 0) (f : A → Option B) (xs : List A) (k j : ℕ) (y : A) → ((b : B) → f y ≡ Some b → P b)
    → ((b : B) → if_found (slice_get xs j) f ≡ Some b → P b)
    → (b : B) → if_found (slice_get (slice_set xs k y) j) f ≡ Some b → P b
still_all P f [] k j y new old b e = old b e
still_all P f (z ∷ xs) zero zero y new old b e = new b e
still_all P f (z ∷ xs) zero (suc j) y new old b e = old b e
still_all P f (z ∷ xs) (suc k) zero y new old b e = old b e
still_all P f (z ∷ xs) (suc k) (suc j) y new old b e = still_all P f xs k j y new old b e

pub all_weaker : {A : Type 0} (P Q : A → Type 0) (xs : List A) → ((x : A) → P x → Q x) → AllByRecursion P xs → AllByRecursion Q xs
all_weaker P Q [] f all = tt
all_weaker P Q (n ∷ xs) f all = (f n all.0, all_weaker P Q xs f all.1)

pub all_unmapped : {A B : Type 0} (P : B → Type 0) (f : A → B) (xs : List A) → AllByRecursion P (map f xs)
    → AllByRecursion (λ x. P (f x)) xs
all_unmapped P f [] h = tt
all_unmapped P f (x ∷ xs) h = (h.0, all_unmapped P f xs h.1)
