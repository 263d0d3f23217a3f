-- What stands in lists, by its place: in those that are numbered, filtered and joined.
use Rattle.c_sound.proofs.Common.{◌≡◌, ℕ, zero, suc, ◌+◌, ◌<◌, Bool, true, false, List, [], ◌∷◌, length, take, slice_get, Some, filter}
use Rattle.c_sound.proofs.Common.{Option, zip, flat_map, filter_map, bytes_eq, sym, refl, ap, ◌∙◌, subst, arith, false≢true}
use Rattle.c_sound.proofs.Common.{bytes_eq-Decides, cons_option, range_with_len, append_none, by_test, named, numbered, Name}
use Rattle.c_sound.proofs.Choices.{by_option}

-- what holds of an item, and what holds of those behind it
infixr 5 ◌&◌
abbrev pub ◌&◌ : {A B : Type 0} → A → B → A × B
a & b = (a, b)

abbrev is_nothing : {A : Type 0} → List A → Bool
is_nothing [] = true
is_nothing (x ∷ xs) = false

pub cons_not_none : {A : Type 0} (x : A) (xs : List A) → x ∷ xs ≡ [] → ⊥
cons_not_none x xs e = false≢true (ap is_nothing e)

pub flat_none : {A B : Type 0} (f : A → List B) (xs : List A) → flat_map f xs ≡ [] → (i : ℕ) (x : A) → slice_get xs i ≡ Some x → f x ≡ []
flat_none f [] e i x at = absurd cc
flat_none f (y ∷ xs) e zero x at = ap f (sym (let same : y ≡ x = cc in same)) ∙ (append_none (f y) (flat_map f xs) e).0
flat_none f (y ∷ xs) e (suc i) x at = flat_none f xs (append_none (f y) (flat_map f xs) e).1 i x at

-- ---- with numbers

numbers_down : {A : Type 0} (a : ℕ) (xs : List A) (i : ℕ) (entry : ℕ × A)
    → slice_get (zip (range_with_len a (length xs)) xs) i ≡ Some entry → (x : A) × (slice_get xs i ≡ Some x) × (entry ≡ (a + i, x))
numbers_down a [] i entry at = absurd cc
numbers_down a (y ∷ xs) zero entry at =
    let e : a ≡ a + 0 = omega arith in
    let same : (a, y) ≡ entry = cc in
    (y, refl, sym same ∙ ap (λ n. (n, y)) e)
numbers_down a (y ∷ xs) (suc i) entry at =
    let e : a + 1 + i ≡ a + suc i = omega arith in
    let behind = numbers_down (a + 1) xs i entry at in
    (behind.0, behind.1, behind.2 ∙ ap (λ n. (n, behind.0)) e)

pub at_numbered : {A : Type 0} (xs : List A) (i : ℕ) (entry : ℕ × A) → slice_get (numbered xs) i ≡ Some entry
    → (x : A) × (slice_get xs i ≡ Some x) × (entry ≡ (i, x))
at_numbered xs i entry at =
    let e : 0 + i ≡ i = omega arith in
    let behind = numbers_down 0 xs i entry at in
    (behind.0, behind.1, behind.2 ∙ ap (λ n. (n, behind.0)) e)

-- ---- filtered

pub kept_from : {A B : Type 0} (g : A → Option B) (xs : List A) (j : ℕ) (y : B) → slice_get (filter_map g xs) j ≡ Some y
    → (i : ℕ) × (x : A) × (slice_get xs i ≡ Some x) × (g x ≡ Some y)
kept_from g [] j y at = absurd cc
kept_from {A} {B} g (x ∷ xs) j y at = by_option (g x)
    (λ none.
    let behind = kept_from g xs j y (subst (λ (o : Option B). slice_get (cons_option o (filter_map g xs)) j ≡ Some y) none at) in
    (suc behind.0, behind.1, behind.2, behind.3))
    (λ z there. at_place z there j (subst (λ (o : Option B). slice_get (cons_option o (filter_map g xs)) j ≡ Some y) there at)
    (λ k e. kept_from g xs k y e))
  where
    at_place : (z : B) → g x ≡ Some z → (j : ℕ) → slice_get (z ∷ filter_map g xs) j ≡ Some y
        → ((k : ℕ) → slice_get (filter_map g xs) k ≡ Some y → (i : ℕ) × (x : A) × (slice_get xs i ≡ Some x) × (g x ≡ Some y))
        → (i : ℕ) × (x' : A) × (slice_get (x ∷ xs) i ≡ Some x') × (g x' ≡ Some y)
    at_place z there zero at others = (0, x, refl, there ∙ at)
    at_place z there (suc k) at others = let behind = others k at in (suc behind.0, behind.1, behind.2, behind.3)

pub kept_at : {A B : Type 0} (g : A → Option B) (xs : List A) (i : ℕ) (x : A) (y : B) → slice_get xs i ≡ Some x → g x ≡ Some y
    → (j : ℕ) × (slice_get (filter_map g xs) j ≡ Some y)
kept_at g [] i x y at is = absurd cc
kept_at {A} {B} g (z ∷ xs) zero x y at is =
    let same : g z ≡ Some y = ap g (let f : z ≡ x = cc in f) ∙ is in
    (0, ap (λ (o : Option B). slice_get (cons_option o (filter_map g xs)) 0) same)
kept_at {A} {B} g (z ∷ xs) (suc i) x y at is =
    let behind = kept_at g xs i x y at is in
    by_option (g z)
    (λ none. (behind.0, ap (λ (o : Option B). slice_get (cons_option o (filter_map g xs)) behind.0) none ∙ behind.1))
    (λ w there. (suc behind.0, ap (λ (o : Option B). slice_get (cons_option o (filter_map g xs)) (suc behind.0)) there ∙ behind.1))

-- the first that passes
pub first_from : {A : Type 0} (test : A → Bool) (xs : List A) (x : A) → slice_get (filter test xs) 0 ≡ Some x
    → (i : ℕ) × (slice_get xs i ≡ Some x) × (test x ≡ true)
first_from test [] x at = absurd cc
first_from test (y ∷ xs) x at = by_test (test y)
    (λ is. let same : y ≡ x = (let f = rw is at at in cc) in (0, ap Some same, ap test (sym same) ∙ is))
    (λ is. let behind = first_from test xs x (rw is at at) in (suc behind.0, behind.1, behind.2))

pub first_there : {A : Type 0} (test : A → Bool) (xs : List A) (i : ℕ) (x : A) → slice_get xs i ≡ Some x → test x ≡ true
    → (y : A) × (slice_get (filter test xs) 0 ≡ Some y)
first_there test [] i x at is = absurd cc
first_there test (y ∷ xs) zero x at is =
    let passes : test y ≡ true = ap test (let f : y ≡ x = cc in f) ∙ is in
    (y, rw passes refl)
first_there test (y ∷ xs) (suc i) x at is = by_test (test y)
    (λ passes. (y, rw passes refl))
    (λ fails. let behind = first_there test xs i x at is in (behind.0, rw fails behind.1))

-- what is beside a name
pub named_from : {A B : Type 0} (g : A → Option (Name × B)) (xs : List A) (name : Name) (y : B) → named name (filter_map g xs) ≡ Some y
    → (i : ℕ) × (x : A) × (slice_get xs i ≡ Some x) × (g x ≡ Some (name, y))
named_from g [] name y e = absurd cc
named_from {A} {B} g (x ∷ xs) name y e = by_option (g x)
    (λ none.
    let behind = named_from g xs name y (subst (λ (o : Option (Name × B)). named name (cons_option o (filter_map g xs))
    ≡ Some y) none e) in
    (suc behind.0, behind.1, behind.2, behind.3))
    (λ z there.
    let f = subst (λ (o : Option (Name × B)). named name (cons_option o (filter_map g xs)) ≡ Some y) there e in
    by_test (bytes_eq z.0 name)
    (λ is.
    let value : z.1 ≡ y = (let h = rw is at f in cc) in
    let same : z.0 ≡ name = (bytes_eq-Decides z.0 name).0 is in
    (0, x, refl, there ∙ (λ i. Some (same i, value i))))
    (λ is. let behind = named_from g xs name y (rw is at f) in (suc behind.0, behind.1, behind.2, behind.3)))

-- ---- fronts

pub take_keeps : {A : Type 0} (n : ℕ) (xs : List A) (i : ℕ) (x : A) → slice_get (take n xs) i ≡ Some x → slice_get xs i ≡ Some x
take_keeps zero xs i x at = absurd cc
take_keeps (suc n) [] i x at = absurd cc
take_keeps (suc n) (y ∷ xs) zero x at = at
take_keeps (suc n) (y ∷ xs) (suc i) x at = take_keeps n xs i x at

pub take_has : {A : Type 0} (n : ℕ) (xs : List A) (i : ℕ) (x : A) → i < n → slice_get xs i ≡ Some x → slice_get (take n xs) i ≡ Some x
take_has zero xs i x less at = absurd (omega (arith, less))
take_has (suc n) [] i x less at = absurd cc
take_has (suc n) (y ∷ xs) zero x less at = at
take_has (suc n) (y ∷ xs) (suc i) x less at = take_has n xs i x (omega arith) at

-- what is beside a name in a front is beside it in the whole
pub named_front : {A B : Type 0} (g : A → Option (Name × B)) (n : ℕ) (xs : List A) (name : Name) (y : B)
    → named name (filter_map g (take n xs)) ≡ Some y → named name (filter_map g xs) ≡ Some y
named_front g zero xs name y e = absurd cc
named_front g (suc n) [] name y e = absurd cc
named_front {A} {B} g (suc n) (x ∷ xs) name y e = by_option (g x)
    (λ none.
    let f = subst (λ (o : Option (Name × B)). named name (cons_option o (filter_map g (take n xs))) ≡ Some y) none e in
    ap (λ (o : Option (Name × B)). named name (cons_option o (filter_map g xs))) none ∙ named_front g n xs name y f)
    (λ z there.
    let f = subst (λ (o : Option (Name × B)). named name (cons_option o (filter_map g (take n xs))) ≡ Some y) there e in
    ap (λ (o : Option (Name × B)). named name (cons_option o (filter_map g xs))) there
    ∙ by_test (bytes_eq z.0 name)
    (λ is. rw is (rw is at f))
    (λ is. rw is (named_front g n xs name y (rw is at f))))
