-- Lists whose items are related in pairs, the earlier to the later.
use Rattle.unit_definition.proofs.Common.{◌≡◌, ℕ, zero, suc, ◌+◌, ◌<◌, ◌≤◌, Bool, true, false, List, [], ◌∷◌, ◌++◌, map, length, zip, sym}
use Rattle.unit_definition.proofs.Common.{if◌then◌else◌, flat_map, bytes_eq, refl, ◌∙◌, subst, arith, or_left, or_right, bytes_eq-Decides}
use Rattle.unit_definition.proofs.Common.{AllByRecursion, range_with_len, ⊤, all_append, Name, is_among, bytes_equal, firsts}

abbrev pub AllPairs : {A : Type 0} → (A → A → Type 0) → List A → Type 0
AllPairs R [] = ⊤
AllPairs R (x ∷ xs) = AllByRecursion (R x) xs × AllPairs R xs

pub all_zip : {A B : Type 0} (P : B → Type 0) (f : ℕ × A → B) (a u : ℕ) (xs : List A) → a + length xs ≤ u
    → ((j : ℕ) (y : A) → a ≤ j → j < u → P (f (j, y)))
    → AllByRecursion P (map f (zip (range_with_len a (length xs)) xs))
all_zip P f a u [] le g = tt
all_zip P f a u (x ∷ xs) le g = (
  g a x (omega arith) (omega (arith, le)),
  all_zip P f (a + 1) u xs (omega (arith, le)) (λ j y low high. g j y (omega (arith, low)) high),
)

pub pairs_zip : {A B : Type 0} (R : B → B → Type 0) (f : ℕ × A → B) (a u : ℕ) (xs : List A) → a + length xs ≤ u
    → ((i j : ℕ) (x y : A) → i < j → j < u → R (f (i, x)) (f (j, y)))
    → AllPairs R (map f (zip (range_with_len a (length xs)) xs))
pairs_zip R f a u [] le g = tt
pairs_zip R f a u (x ∷ xs) le g = (
  all_zip (R (f (a, x))) f (a + 1) u xs (omega (arith, le)) (λ j y low high. g a j x y (omega (arith, low)) high),
  pairs_zip R f (a + 1) u xs (omega (arith, le)) g,
)

-- the same of lists of items in a row
pub all_flat : {A B : Type 0} (P : B → Type 0) (f : ℕ × A → List B) (a u : ℕ) (xs : List A) → a + length xs ≤ u
    → ((j : ℕ) (y : A) → a ≤ j → j < u → AllByRecursion P (f (j, y)))
    → AllByRecursion P (flat_map f (zip (range_with_len a (length xs)) xs))
all_flat P f a u [] le g = tt
all_flat P f a u (x ∷ xs) le g =
    all_append P (f (a, x)) _ (g a x (omega arith) (omega (arith, le)))
    (all_flat P f (a + 1) u xs (omega (arith, le)) (λ j y low high. g j y (omega (arith, low)) high))

pub pairs_joined : {A : Type 0} (R : A → A → Type 0) (xs ys : List A) → AllByRecursion (λ x. AllByRecursion (R x) ys) xs → AllPairs R xs
    → AllPairs R ys → AllPairs R (xs ++ ys)
pairs_joined R [] ys c p q = q
pairs_joined R (x ∷ xs) ys c p q = (all_append (R x) xs ys p.0 c.0, pairs_joined R xs ys c.1 p.1 q)

pub pairs_flat : {A B : Type 0} (R : B → B → Type 0) (f : ℕ × A → List B) (a u : ℕ) (xs : List A) → a + length xs ≤ u
    → ((i : ℕ) (x : A) → AllPairs R (f (i, x)))
    → ((i j : ℕ) (x y : A) → i < j → j < u → AllByRecursion (λ o. AllByRecursion (R o) (f (j, y))) (f (i, x)))
    → AllPairs R (flat_map f (zip (range_with_len a (length xs)) xs))
pairs_flat R f a u [] le h g = tt
pairs_flat {A = A} {B = B} R f a u (x ∷ xs) le h g =
    pairs_joined R (f (a, x)) _ (each (f (a, x)) (λ j y low high. g a j x y (omega (arith, low)) high)) (h a x)
    (pairs_flat R f (a + 1) u xs (omega (arith, le)) h g)
  where
    each : (os : List B) → ((j : ℕ) (y : A) → a + 1 ≤ j → j < u → AllByRecursion (λ o. AllByRecursion (R o) (f (j, y))) os)
        → AllByRecursion (λ o. AllByRecursion (R o) (flat_map f (zip (range_with_len (a + 1) (length xs)) xs))) os
    each [] k = tt
    each (o ∷ os) k = (
      all_flat (R o) f (a + 1) u xs (omega (arith, le)) (λ j y low high. (k j y low high).0),
      each os (λ j y low high. (k j y low high).1),
    )

pub all_range : {B : Type 0} (P : B → Type 0) (f : ℕ → B) (a n u : ℕ) → a + n ≤ u → ((j : ℕ) → a ≤ j → j < u → P (f j))
    → AllByRecursion P (map f (range_with_len a n))
all_range P f a zero u le g = tt
all_range P f a (suc n) u le g = (
  g a (omega arith) (omega (arith, le)),
  all_range P f (a + 1) n u (omega (arith, le)) (λ j low high. g j (omega (arith, low)) high),
)

pub pairs_range : {B : Type 0} (R : B → B → Type 0) (f : ℕ → B) (a n u : ℕ) → a + n ≤ u
    → ((i j : ℕ) → a ≤ i → i < j → j < u → R (f i) (f j)) → AllPairs R (map f (range_with_len a n))
pairs_range R f a zero u le g = tt
pairs_range R f a (suc n) u le g = (
  all_range (R (f a)) f (a + 1) n u (omega (arith, le)) (λ j low high. g a j (omega arith) (omega (arith, low)) high),
  pairs_range R f (a + 1) n u (omega (arith, le)) (λ i j low less high. g i j (omega (arith, low)) less high),
)

-- names that are left out of the first ones
pub firsts_all : (P : Name → Type 0) (seen names : List Name) → AllByRecursion P names → AllByRecursion P (firsts seen names)
firsts_all P seen [] h = tt
firsts_all P seen (n ∷ names) h = by (is_among n seen) (firsts_all P seen names h.1) (firsts_all P (n ∷ seen) names h.1)
  where
    by : (b : Bool) → AllByRecursion P (firsts seen names) → AllByRecursion P (firsts (n ∷ seen) names)
        → AllByRecursion P (if b then firsts seen names else n ∷ firsts (n ∷ seen) names)
    by true p q = p
    by false p q = (h.0, q)

-- none of the first ones is one that was seen
firsts_new : (q : Name) (seen names : List Name) → is_among q seen ≡ true → AllByRecursion (λ n. bytes_eq q n ≡ false) (firsts seen names)
firsts_new q seen [] e = tt
firsts_new q seen (n ∷ names) e = by (is_among n seen) refl (firsts_new q seen names e)
    (firsts_new q (n ∷ seen) names (or_right (bytes_eq q n) (is_among q seen) e))
  where
    other : (b : Bool) → bytes_eq q n ≡ b → is_among n seen ≡ false → b ≡ false
    other false f g = refl
    other true f g = absurd (differ (subst (λ z. is_among z seen ≡ true) ((bytes_eq-Decides q n).0 f) e) g)
      where
        differ : is_among n seen ≡ true → is_among n seen ≡ false → ⊥
        differ p r = let h = sym p ∙ r in cc

    by : (b : Bool) → is_among n seen ≡ b → AllByRecursion (λ k. bytes_eq q k ≡ false) (firsts seen names)
        → AllByRecursion (λ k. bytes_eq q k ≡ false) (firsts (n ∷ seen) names)
        → AllByRecursion (λ k. bytes_eq q k ≡ false) (if b then firsts seen names else n ∷ firsts (n ∷ seen) names)
    by true f p r = p
    by false f p r = (other (bytes_eq q n) refl f, r)

pub firsts_differ : (seen names : List Name) → AllPairs (λ a b. bytes_eq a b ≡ false) (firsts seen names)
firsts_differ seen [] = tt
firsts_differ seen (n ∷ names) = by (is_among n seen) (firsts_differ seen names) (firsts_differ (n ∷ seen) names)
  where
    by : (b : Bool) → AllPairs (λ a b. bytes_eq a b ≡ false) (firsts seen names)
        → AllPairs (λ a b. bytes_eq a b ≡ false) (firsts (n ∷ seen) names)
        → AllPairs (λ a b. bytes_eq a b ≡ false) (if b then firsts seen names else n ∷ firsts (n ∷ seen) names)
    by true p q = p
    by false p q = (firsts_new n (n ∷ seen) names (or_left (bytes_eq n n) (is_among n seen) (bytes_equal n)), q)
