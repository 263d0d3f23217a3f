-- Words that are written have no byte below 48, and so no blank and no newline: escaped names, numbers and types.
use Rattle.journal_lines.proofs.Common.{◌≡◌, ℕ, ◌+◌, ◌%◌, ◌^◌, ◌<◌, ◌≤◌, Bool, true, not, ◌&&◌, List, [], ◌∷◌, ◌++◌, nat_le, ◌==◌, Some}
use Rattle.journal_lines.proofs.Common.{None, codes, decimal, Option, refl, ap, ◌∙◌, arith, ne_eqb, decimal_by_steps, list_all, both_hold}
use Rattle.journal_lines.proofs.Common.{IsNumber, ValType, Value, I32, I64, escaped, reply_of, HostReply, reply_text, name_text}
use Rattle.journal_lines.proofs.Common.{number_text, or_z, IsBytes, IsGiven, result_text, type_text}
use Rattle.std.proofs.lemmas.Bool.Decides.{nat_tests}
use Rattle.std.proofs.lemmas.List.Folds.{list_all-append}
use Rattle.std.proofs.lemmas.Bool.{and_from}
use Rattle.w2c_base.specs.declared.value.ValType.TheVariants as type
use Rattle.w2c_mangle.specs.Symbols.{is_identifier_character}
use Rattle.w2c_mangle.proofs.SymbolNames.{list_all-escaped}
use Rattle.c_meaning.specs.declared.reply.HostReply.TheVariants as reply
use Rattle.journal_lines.proofs.Cutting.{lacks}

abbrev pub is_high : ℕ → Bool
is_high b = nat_le 48 b

abbrev pub IsHigh : List ℕ → Type 0
IsHigh text = list_all is_high text ≡ true

apart : (c b : ℕ) → c < 48 → is_high b ≡ true → (not (b == c)) ≡ true
apart c b small h = ap not (ne_eqb b c (λ e. grind (arith, nat_tests)))

pub lacks_low : (c : ℕ) (text : List ℕ) → c < 48 → IsHigh text → lacks c text ≡ true
lacks_low c [] small h = refl
lacks_low c (b ∷ text) small h =
    let parts = both_hold (is_high b) (list_all is_high text) h in
    and_from (not (b == c)) (lacks c text) (apart c b small parts.0) (lacks_low c text small parts.1)

pub high-append : (x y : List ℕ) → IsHigh x → IsHigh y → IsHigh (x ++ y)
high-append x y hx hy = list_all-append is_high x y ∙ and_from (list_all is_high x) (list_all is_high y) hx hy

high_character : (b : ℕ) → is_identifier_character b ≡ true → is_high b ≡ true
high_character b h = grind (arith, nat_tests)

high_characters : (text : List ℕ) → list_all is_identifier_character text ≡ true → IsHigh text
high_characters [] h = refl
high_characters (b ∷ text) h =
    let parts = both_hold (is_identifier_character b) (list_all is_identifier_character text) h in
    and_from (is_high b) (list_all is_high text) (high_character b parts.0) (high_characters text parts.1)

high_or_z : (text : List ℕ) → IsHigh text → IsHigh (or_z text)
high_or_z [] h = refl
high_or_z (b ∷ text) h = h

pub high_name : (name : List ℕ) → IsBytes name → IsHigh (name_text name)
high_name name bytes = high_or_z (escaped name) (high_characters (escaped name) (list_all-escaped name bytes))

pub high_decimal : (n : ℕ) → n < 2 ^ 64 → IsHigh (decimal n)
high_decimal n small = decimal_by_steps (λ n ds. IsHigh ds) one more n small
  where
    digit : (n : ℕ) → is_high (48 + n) ≡ true
    digit n = grind (arith, nat_tests)

    one : (n : ℕ) → n < 10 → IsHigh ((48 + n) ∷ [])
    one n below = and_from (is_high (48 + n)) true (digit n) refl

    more : (n : ℕ) (ds : List ℕ) → 10 ≤ n → IsHigh ds → IsHigh (ds ++ ((48 + n % 10) ∷ []))
    more n ds large h = high-append ds ((48 + n % 10) ∷ []) h (and_from (is_high (48 + n % 10)) true (digit (n % 10)) refl)

pub high_number : (v : Value) → IsNumber v → IsHigh (number_text v)
high_number (I32 n) is = high-append (codes "i32:") (decimal n) refl (high_decimal n (omega (arith, is)))
high_number (I64 n) is = high-append (codes "i64:") (decimal n) refl (high_decimal n is)

pub high_reply : (r : HostReply) → IsGiven r → IsHigh (reply_text (reply_of r))
high_reply (reply.Value None) is = refl
high_reply (reply.Value (Some v)) is = high_number v is
high_reply reply.Trap is = refl

pub high_type : (t : ValType) → IsHigh (type_text t)
high_type type.I32 = refl
high_type type.I64 = refl

pub high_result : (t : Option ValType) → IsHigh (result_text t)
high_result None = refl
high_result (Some t) = high_type t
