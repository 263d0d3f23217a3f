-- Names of different classes differ, and so do a letter's names with different numbers.
use Rattle.std.specs.Prelude.{◌==◌}
use Rattle.c_tree.proofs.Common.{◌≡◌, ℕ, ◌^◌, ◌<◌, Bool, true, false, ◌≢◌, List, [], ◌∷◌, decimal, bytes_eq, refl, ap, arith, nat_tests}
use Rattle.c_tree.proofs.Common.{list_all, is_digit, are_digits, decimal_injective}
use Rattle.std.proofs.lemmas.Slice.Eq.{bytes_eq-Decides}
use Rattle.w2c_base.proofs.Conjunctions.{both_hold}
use Rattle.c_tree.specs.Scope.{Name}
use Rattle.c_tree.proofs.Proper.{all_digits}
use Rattle.c_tree.proofs.TreeIsProper.{decimal_digits}
use Rattle.c_tree.specs.DefinedNames.{part_name}
use Rattle.c_tree.specs.NameClasses.{has_underscore, by_letter, class}

no_underscore : (ds : List ℕ) → list_all is_digit ds ≡ true → has_underscore ds ≡ false
no_underscore [] e = refl
no_underscore (d ∷ ds) e = let h = both_hold (is_digit d) (list_all is_digit ds) e in rw (digit d h.0) (no_underscore ds h.1)
  where
    digit : (d : ℕ) → is_digit d ≡ true → d == 95 ≡ false
    digit d e = grind (arith, nat_tests)

class_digits : (c : ℕ) (ds : List ℕ) → are_digits ds ≡ true → c == 119 ≡ false → class (c ∷ ds) ≡ by_letter c
class_digits c [] e w = absurd cc
class_digits c (d ∷ ds) e w = let h = both_hold (is_digit d) (list_all is_digit ds) (all_digits (d ∷ ds) e) in
    rw w (rw (no_underscore ds h.1) refl)

pub class_lettered : (c n : ℕ) → n < 2 ^ 64 → c == 119 ≡ false → class (c ∷ decimal n) ≡ by_letter c
class_lettered c n small w = class_digits c (decimal n) (decimal_digits n small) w

-- a pointer to something with a number
pub class_pointer : (c d n : ℕ) → n < 2 ^ 64 → c == 119 ≡ false → class (c ∷ d ∷ decimal n) ≡ by_letter c
class_pointer c d n small w = rw w (rw (no_underscore (decimal n) (all_digits (decimal n) (decimal_digits n small))) refl)

pub classes_differ : (a b : Name) → class a ≢ class b → bytes_eq a b ≡ false
classes_differ a b ne = by (bytes_eq a b) refl
  where
    by : (t : Bool) → bytes_eq a b ≡ t → t ≡ false
    by false e = refl
    by true e = absurd (ne (ap class ((bytes_eq-Decides a b).0 e)))

-- names that numbers below 2 to the power of 64 give, each its own
abbrev pub GivesNames : (ℕ → Name) → Type 0
GivesNames f = (n m : ℕ) → n < 2 ^ 64 → m < 2 ^ 64 → n ≢ m → bytes_eq (f n) (f m) ≡ false

abbrev pub tail : List ℕ → List ℕ
tail [] = []
tail (x ∷ xs) = xs

-- a letter with a number behind it
pub lettered : (c : ℕ) → GivesNames (λ n. c ∷ decimal n)
lettered c n m p q ne = by (bytes_eq (c ∷ decimal n) (c ∷ decimal m)) refl
  where
    by : (b : Bool) → bytes_eq (c ∷ decimal n) (c ∷ decimal m) ≡ b → b ≡ false
    by false e = refl
    by true e = absurd (ne (decimal_injective n m p q (ap tail ((bytes_eq-Decides (c ∷ decimal n) (c ∷ decimal m)).0 e))))

-- the parts of an init function
pub class_part : (k : ℕ) → class (part_name k) ≡ 10
class_part k = refl

abbrev behind_five : List ℕ → List ℕ
behind_five name = tail (tail (tail (tail (tail name))))

pub part_names : GivesNames part_name
part_names n m p q ne = by (bytes_eq (part_name n) (part_name m)) refl
  where
    by : (b : Bool) → bytes_eq (part_name n) (part_name m) ≡ b → b ≡ false
    by false e = refl
    by true e = absurd (ne (decimal_injective n m p q (ap behind_five ((bytes_eq-Decides (part_name n) (part_name m)).0 e))))
