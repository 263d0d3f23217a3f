-- What the tokens and fronts of the code stand for.
use Rattle.std.specs.Prelude.{ℕ, ◌<◌, Bool}
use Rattle.c_tree.specs.Tokens.{Token, Fixed, Named, Number, Wrong}
use Rattle.c_tree.specs.Text as text
use Rattle.c_lex.specs.declared.token.Token as code
use Rattle.c_lex.specs.declared.token.Token.TheVariants as variant
use Rattle.c_lex.specs.declared.front.Class.{Class}
use Rattle.c_lex.specs.declared.front.Class.TheVariants.{WordByte, Digit}
use Rattle.c_lex.specs.declared.front.Front.{Front}
use Rattle.c_lex.specs.declared.front.Front.TheVariants as front

abbrev pub token_of : code.Token → Token
token_of (variant.Fixed t) = Fixed t
token_of (variant.Named name) = Named name.now
token_of (variant.Number suffix digits) = Number suffix digits.now
token_of variant.Wrong = Wrong

abbrev pub in_class : Class → ℕ → Bool
in_class WordByte = text.is_word_byte
in_class Digit = text.is_digit

abbrev pub front_of : Front → text.Front
front_of (front.Gap n) = text.Gap n
front_of (front.Begins t n) = text.Begins (token_of t) n

-- the bytes but one are fewer than these
abbrev pub is_within : Front → ℕ → Type 0
is_within (front.Gap n) len = n < len
is_within (front.Begins t n) len = n < len
