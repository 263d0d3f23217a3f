-- The names of a unit's items, and of its functions' own variables, by classes: names of different classes differ.
use Rattle.body_rules.proofs.Common.{◌≡◌, ℕ, zero, suc, ◌+◌, ◌<◌, ◌≤◌, Bool, true, false, not, ◌≢◌, List, [], ◌∷◌, ◌++◌, filter, ◌∙◌, sym}
use Rattle.body_rules.proofs.Common.{bytes_eq, refl, arith, AllByRecursion, range_with_len, are_distinct, Name, is_among, all_filtered}
use Rattle.body_rules.proofs.Common.{list_any-append, both_hold, by_test, not-true, all_weaker, Differ, class, NoneOf, classes_differ}

-- ---- lists of names of classes

abbrev pub AllOf : ℕ → List Name → Type 0
AllOf k names = AllByRecursion (λ name. class name ≡ k) names

pub not_there : (name : Name) (names : List Name) → NoneOf (class name) names → is_among name names ≡ false
not_there name [] none = refl
not_there name (other ∷ names) none = rw (classes_differ name other (λ e. none.0 (sym e))) (not_there name names none.1)

-- ---- distinct names

pub none_joined : (q : Name) (xs ys : List Name) → is_among q xs ≡ false → is_among q ys ≡ false → is_among q (xs ++ ys) ≡ false
none_joined q xs ys e f = list_any-append (bytes_eq q) xs ys ∙ rw (e, f) refl

pub distinct_joined : (xs ys : List Name) → AllByRecursion (λ x. is_among x ys ≡ false) xs → are_distinct xs ≡ true → are_distinct ys ≡ true
    → are_distinct (xs ++ ys) ≡ true
distinct_joined [] ys apart p q = q
distinct_joined (x ∷ xs) ys apart p q =
    let h = both_hold (not (is_among x xs)) (are_distinct xs) p in
    rw (none_joined x xs ys (not-true (is_among x xs) h.0) apart.0) (distinct_joined xs ys apart.1 h.1 q)

-- ---- numbers in order

pub range_low : (a n l : ℕ) → l ≤ a → AllByRecursion (λ m. l ≤ m) (range_with_len a n)
range_low a zero l le = tt
range_low a (suc n) l le = (le, range_low (a + 1) n l (omega arith))

pub range_high : (a n u : ℕ) → a + n ≤ u → AllByRecursion (λ m. m < u) (range_with_len a n)
range_high a zero u le = tt
range_high a (suc n) u le = (omega arith, range_high (a + 1) n u (omega arith))

pub range_differ : (a n : ℕ) → Differ (range_with_len a n)
range_differ a zero = tt
range_differ a (suc n) = (
  all_weaker (λ m. a + 1 ≤ m) (λ m. a ≢ m) (range_with_len (a + 1) n) (λ m le e. absurd (omega (arith, le, e)))
      (range_low (a + 1) n (a + 1) (omega arith)),
  range_differ (a + 1) n,
)

pub differ_kept : (test : ℕ → Bool) (xs : List ℕ) → Differ xs → Differ (filter test xs)
differ_kept test [] differ = tt
differ_kept test (x ∷ xs) differ =
    let rest = differ_kept test xs differ.1 in
    by_test (test x) (λ e. rw (e, Differ) (all_filtered (λ m. x ≢ m) test xs differ.0, rest)) (λ e. rw (e, Differ) rest)
