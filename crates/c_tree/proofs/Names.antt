-- Words of two forms are names: a letter and a number, and what begins as an external function does.
use Rattle.c_tree.proofs.Common.{◌≡◌, ℕ, ◌^◌, ◌<◌, Bool, true, false, not, ◌&&◌, ◌≢◌, List, [], ◌∷◌, ◌++◌, map, ◌==◌, codes, decimal}
use Rattle.c_tree.proofs.Common.{bytes_eq, refl, ap, arith, not-true, nat_tests, list_all, list_any, are_digits, is_digit, is_letter}
use Rattle.c_tree.proofs.Common.{is_word_byte, key_words, other_words, fixed_text, IsName, is_key_word}
use Rattle.std.proofs.Math.Bool.{and-false}
use Rattle.w2c_base.proofs.Conjunctions.{both_hold}
use Rattle.c_tree.proofs.Proper.{digits_words, all_digits}
use Rattle.c_tree.proofs.TreeIsProper.{decimal_digits}

-- the word does not begin with this letter and a digit
abbrev begins_otherwise : ℕ → List ℕ → Bool
begins_otherwise b [] = true
begins_otherwise b (x ∷ []) = true
begins_otherwise b (x ∷ y ∷ ys) = not (is_digit y && b == x)

digit_differs : (d y : ℕ) → is_digit d ≡ true → is_digit y ≡ false → d == y ≡ false
digit_differs d y digit other = grind (arith, nat_tests)

differs : (b d : ℕ) (ds word : List ℕ) → is_digit d ≡ true → begins_otherwise b word ≡ true → bytes_eq (b ∷ d ∷ ds) word ≡ false
differs b d ds [] digit begins = refl
differs b d ds (x ∷ []) digit begins = and-false (b == x)
differs b d ds (x ∷ y ∷ ys) digit begins = by (b == x) (is_digit y) (bytes_eq ds ys) refl (not-true (is_digit y && b == x) begins)
  where
    by : (same second rest : Bool) → is_digit y ≡ second → second && same ≡ false → (same && ((d == y) && rest)) ≡ false
    by false second rest e no_ = refl
    by true true rest e no_ = absurd cc
    by true false rest e no_ = rw (digit_differs d y digit e) refl

none_equal : (b d : ℕ) (ds : List ℕ) (words : List (List ℕ)) → is_digit d ≡ true → list_all (begins_otherwise b) words ≡ true
    → list_any (bytes_eq (b ∷ d ∷ ds)) words ≡ false
none_equal b d ds [] digit all = refl
none_equal b d ds (w ∷ words) digit all =
    let h = both_hold (begins_otherwise b w) (list_all (begins_otherwise b) words) all in
    rw (differs b d ds w digit h.0, none_equal b d ds words digit h.1) refl

other_byte : (b c : ℕ) → b ≢ c → b == c ≡ false
other_byte b c other = grind (arith, nat_tests)

-- of the key words only u8, u32, u64 and those with w2c_ have a digit behind their first letter
no_key_word_begins : (b : ℕ) → b ≢ 117 → b ≢ 119 → list_all (begins_otherwise b) (map fixed_text key_words ++ other_words) ≡ true
no_key_word_begins b u w = rw (other_byte b 117 u, other_byte b 119 w) refl

letter_and_digits : (b : ℕ) (ds : List ℕ) → is_letter b ≡ true → b ≢ 117 → b ≢ 119 → are_digits ds ≡ true → IsName (b ∷ ds)
letter_and_digits b [] letter u w digits = absurd cc
letter_and_digits b (d ∷ ds) letter u w digits =
    let all = all_digits (d ∷ ds) digits in
    let key : is_key_word (b ∷ d ∷ ds) ≡ false =
    none_equal b d ds (map fixed_text key_words ++ other_words) (both_hold (is_digit d) (list_all is_digit ds) all).0
    (no_key_word_begins b u w) in
    rw (letter, digits_words (d ∷ ds) all) (ap not key)

pub numbered : (b n : ℕ) → is_letter b ≡ true → b ≢ 117 → b ≢ 119 → n < 2 ^ 64 → IsName (b ∷ decimal n)
numbered b n letter u w small = letter_and_digits b (decimal n) letter u w (decimal_digits n small)

pub external : (rest : List ℕ) → list_all is_word_byte rest ≡ true → IsName (codes "w2cZ_" ++ rest)
external rest all = rw all refl
