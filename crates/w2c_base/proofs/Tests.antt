-- Tests: two ways of one, of all items of lists, and of bytes that are equal.
use Rattle.std.proofs.Common.{◌≡◌, ℕ, zero, suc, Bool, true, false, List, [], ◌∷◌, ◌++◌, Some, slice_get, bytes_eq, refl, sym, ap, ◌∙◌}
use Rattle.std.specs.List.{list_all}
use Rattle.std.proofs.lemmas.Bool.Decides.{Decides-like, same_from_decides}
use Rattle.std.proofs.lemmas.List.Folds.{list_all-append}
use Rattle.std.proofs.lemmas.Slice.Eq.{bytes_eq-Decides}
use Rattle.w2c_base.proofs.Conjunctions.{both_hold, left_holds, right_holds}

pub by_test : {P : Type 0} (b : Bool) → (b ≡ true → P) → (b ≡ false → P) → P
by_test true holds fails = holds refl
by_test false holds fails = fails refl

pub same_tests : (b c : Bool) → (b ≡ true → c ≡ true) → (c ≡ true → b ≡ true) → b ≡ c
same_tests true c there back = sym (there refl)
same_tests false true there back = back refl
same_tests false false there back = refl

pub all_parts : {A : Type 0} (test : A → Bool) (xs ys : List A) → list_all test (xs ++ ys) ≡ true
    → (list_all test xs ≡ true) × (list_all test ys ≡ true)
all_parts test xs ys e = both_hold (list_all test xs) (list_all test ys) (sym (list_all-append test xs ys) ∙ e)

pub all_join : {A : Type 0} (test : A → Bool) (xs ys : List A) → list_all test xs ≡ true → list_all test ys ≡ true
    → list_all test (xs ++ ys) ≡ true
all_join test xs ys left right = rw (list_all-append test xs ys) (rw (left, right) refl)

pub test_at : {A : Type 0} (test : A → Bool) (xs : List A) (i : ℕ) (x : A) → list_all test xs ≡ true → slice_get xs i ≡ Some x
    → test x ≡ true
test_at test [] i x all at = absurd cc
test_at test (y ∷ xs) zero x all at = let same : y ≡ x = cc in ap test (sym same) ∙ left_holds (test y) (list_all test xs) all
test_at test (y ∷ xs) (suc i) x all at = test_at test xs i x (right_holds (test y) (list_all test xs) all) at

-- ---- bytes, either way round

pub bytes_eq-sym : (xs ys : List ℕ) → bytes_eq xs ys ≡ bytes_eq ys xs
bytes_eq-sym xs ys = same_from_decides _ _ (bytes_eq-Decides xs ys) (Decides-like _ sym sym (bytes_eq-Decides ys xs))

pub unlike_back : (xs ys : List ℕ) → bytes_eq xs ys ≡ false → bytes_eq ys xs ≡ false
unlike_back xs ys e = bytes_eq-sym ys xs ∙ e
