-- What a text of 1 to 5 digits is parsed as.
use Rattle.wasm2c_words.proofs.Common.{◌≡◌, ℕ, ◌^◌, ◌<◌, ◌≤◌, true, ◌&&◌, List, [], ◌∷◌, length, Ok, Err, Result, sym, refl, ap, ◌∙◌, arith}
use Rattle.wasm2c_words.proofs.Common.{leb-true, list_all, left_holds, right_holds, is_decimal}
use Rattle.std.specs.Char.{is_ascii_digit}
use Rattle.std.specs.Str.{all_ascii_digits}
use Rattle.std.specs.Str.Parse.{ParsesUnsigned, digits_value}
use Rattle.std.proofs.lemmas.Str.Parse.{digits_value_short, numerals_by_value, parse_gives, tells_all_ascii_digits}

all_digits : (text : List ℕ) → list_all is_ascii_digit text ≡ all_ascii_digits text
all_digits [] = refl
all_digits (c ∷ cs) = ap (λ b. is_ascii_digit c && b) (all_digits cs)

-- such a text is read as the number that its digits write
pub count_parsed : {E : Type 0} (text : List ℕ) (r : Result ℕ E) → is_decimal 5 text ≡ true → ParsesUnsigned 32 10 text r
    → r ≡ Ok (digits_value 10 text)
count_parsed text r is parsed =
    let lengths = left_holds _ _ is in
    let some : 1 ≤ length text = leb-true 1 (length text) (left_holds _ _ lengths) in
    let few : length text ≤ 5 = leb-true (length text) 5 (right_holds _ _ lengths) in
    let digits : all_ascii_digits text ≡ true = sym (all_digits text) ∙ right_holds _ _ is in
    let own = numerals_by_value (λ ds. all_ascii_digits ds ≡ true) tells_all_ascii_digits in
    let small : digits_value 10 text < 10 ^ 5 = digits_value_short own text 5 digits few in
    let fits : digits_value 10 text < 2 ^ 32 = omega (arith, small) in
    parse_gives own 32 text r parsed digits some fits

pub never_refused : {E : Type 0} (text : List ℕ) (e : E) (r : Result ℕ E) → r ≡ Err e → is_decimal 5 text ≡ true
    → ParsesUnsigned 32 10 text r → ⊥
never_refused text e r fails is parsed = let no : Err e ≡ Ok (digits_value 10 text) = sym fails ∙ count_parsed text r is parsed in cc
