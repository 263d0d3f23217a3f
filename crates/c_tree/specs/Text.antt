-- Where the tokens of a text stand. Between them stand blanks and comments, and each is as long as
-- possible (C11, 6.4).
use Rattle.std.specs.Prelude.{ℕ, zero, suc, ◌+◌, ◌==◌, Bool, false, ◌&&◌, ◌||◌, not, nat_le, List, [], ◌∷◌, length, map, take, Option, Some}
use Rattle.std.specs.Prelude.{None, codes, option_map, if◌then◌else◌}
use Rattle.std.specs.Str.{bytes_eq}
use Rattle.std.specs.List.{list_any, list_all}
use Rattle.c_tree.specs.declared.token.Tok.{Tok}
use Rattle.c_tree.specs.declared.token.Tok.TheVariants as tok
use Rattle.c_tree.specs.declared.token.Suffix.TheVariants.{OfPlain, Of32, Of64}
use Rattle.c_tree.specs.Tokens.{Token, Fixed, Named, Number, Wrong, fixed_text}

-- the elements from the front on that pass the test, and what follows them
abbrev pub run : (ℕ → Bool) → List ℕ → List ℕ
run p [] = []
run p (x ∷ xs) = if p x then x ∷ run p xs else []

abbrev pub past : (ℕ → Bool) → List ℕ → List ℕ
past p [] = []
past p (x ∷ xs) = if p x then past p xs else x ∷ xs

abbrev pub is_digit : ℕ → Bool
is_digit b = nat_le 48 b && nat_le b 57

abbrev pub is_letter : ℕ → Bool
is_letter b = (nat_le 97 b && nat_le b 122) || ((nat_le 65 b && nat_le b 90) || b == 95)

abbrev pub is_word_byte : ℕ → Bool
is_word_byte b = is_letter b || is_digit b

-- space, tab, newline, carriage return, vertical tab, form feed
abbrev pub is_blank : ℕ → Bool
is_blank b = b == 32 || (nat_le 9 b && nat_le b 13)

-- what may stand in a comment (C11, 6.4.9): newline and 32 to 126 without \ and ?
abbrev pub is_comment_byte : ℕ → Bool
is_comment_byte b = b == 10 || ((nat_le 32 b && nat_le b 126) && not (b == 92 || b == 63))

-- the key words of the subset
abbrev pub key_words : List Tok
key_words =
    tok.WordStatic ∷ tok.WordConst ∷ tok.WordVoid ∷ tok.WordU8 ∷ tok.WordU32 ∷ tok.WordU64 ∷ tok.WordW2cMem ∷ tok.WordW2cTab ∷ tok.WordW2cFn
    ∷ tok.WordGoto ∷ tok.WordIf ∷ tok.WordSwitch ∷ tok.WordCase ∷ tok.WordDefault ∷ tok.WordReturn ∷ []

-- the other key words of C11 (6.4.1), which fit nowhere
abbrev pub other_words : List (List ℕ)
other_words =
    codes "auto" ∷ codes "break" ∷ codes "char" ∷ codes "continue" ∷ codes "do" ∷ codes "double" ∷ codes "else" ∷ codes "enum"
    ∷ codes "extern" ∷ codes "float" ∷ codes "for" ∷ codes "inline" ∷ codes "int" ∷ codes "long" ∷ codes "register" ∷ codes "restrict"
    ∷ codes "short" ∷ codes "signed" ∷ codes "sizeof" ∷ codes "struct" ∷ codes "typedef" ∷ codes "union" ∷ codes "unsigned"
    ∷ codes "volatile" ∷ codes "while" ∷ codes "_Alignas" ∷ codes "_Alignof" ∷ codes "_Atomic" ∷ codes "_Bool" ∷ codes "_Complex"
    ∷ codes "_Generic" ∷ codes "_Imaginary" ∷ codes "_Noreturn" ∷ codes "_Static_assert" ∷ codes "_Thread_local" ∷ []

abbrev pub key_word_among : List Tok → List ℕ → Token
key_word_among [] word = if list_any (bytes_eq word) other_words then Wrong else Named word
key_word_among (t ∷ ts) word = if bytes_eq word (fixed_text t) then Fixed t else key_word_among ts word

-- what a word is: a key word, a name, or wrong
abbrev pub word_token : List ℕ → Token
word_token word = key_word_among key_words word

-- decimal digits (C11, 6.4.4.1), with no leading zero but in 0
abbrev pub are_digits : List ℕ → Bool
are_digits [] = false
are_digits (d ∷ []) = is_digit d
are_digits (d ∷ e ∷ ds) = (is_digit d && not (d == 48)) && list_all is_digit (e ∷ ds)

-- what a run that begins with a digit is: the digits in front, and what follows them
abbrev pub number_token : List ℕ → List ℕ → Token
number_token digits rest =
    if are_digits digits
    then (if bytes_eq rest [] then Number OfPlain digits
    else (if bytes_eq rest (codes "u") then Number Of32 digits
    else (if bytes_eq rest (codes "ull") then Number Of64 digits else Wrong)))
    else Wrong

abbrev pub run_token : List ℕ → Token
run_token bytes = number_token (run is_digit bytes) (past is_digit bytes)

abbrev pub sign_among : List Tok → List ℕ → Token
sign_among [] text = Wrong
sign_among (t ∷ ts) text = if bytes_eq text (fixed_text t) then Fixed t else sign_among ts text

abbrev pub short_signs : List Tok
short_signs =
    tok.LeftParen ∷ tok.RightParen ∷ tok.LeftBrace ∷ tok.RightBrace ∷ tok.LeftBracket ∷ tok.RightBracket ∷ tok.Semicolon ∷ tok.Comma
    ∷ tok.Colon ∷ tok.Assign ∷ tok.Star ∷ tok.Amp ∷ tok.Plus ∷ tok.Minus ∷ tok.Slash ∷ tok.Percent ∷ tok.Bar ∷ tok.Caret ∷ tok.Less
    ∷ tok.Greater ∷ []

abbrev pub long_signs : List Tok
long_signs = tok.ShiftLeft ∷ tok.ShiftRight ∷ tok.Equal ∷ tok.NotEqual ∷ tok.LessEqual ∷ tok.GreaterEqual ∷ []

-- the sign of one byte, and that of two
abbrev pub one_sign : ℕ → Token
one_sign b = sign_among short_signs (b ∷ [])

abbrev pub two_sign : ℕ → ℕ → Token
two_sign b c = sign_among long_signs (b ∷ c ∷ [])

-- What stands at the front of a text: a gap or a token, with the number of its bytes but one.
pub data Front : Type 0 where
  Gap : ℕ → Front
  Begins : Token → ℕ → Front

-- the bytes of a comment up to its end, behind what opens it; none where it holds another byte or is not closed
abbrev pub comment_end : List ℕ → Option ℕ
comment_end [] = None
comment_end (b ∷ []) = None
comment_end (b ∷ c ∷ rest) =
    if (b == 42) && (c == 47) then Some 2 else (if is_comment_byte b then option_map suc (comment_end (c ∷ rest)) else None)

abbrev pub comment_front : Option ℕ → Front
comment_front None = Begins Wrong 0
comment_front (Some n) = Gap (n + 1)

abbrev pub longer : Token → Token → Front
longer Wrong short = Begins short 0
longer long short = Begins long 1

-- a sign, as long as possible; a comment in place of a sign / and a sign *
abbrev pub sign_front : ℕ → List ℕ → Front
sign_front b [] = Begins (one_sign b) 0
sign_front b (c ∷ rest) =
    if (b == 47) && (c == 42) then comment_front (comment_end rest) else (
    longer (two_sign b c) (one_sign b))

abbrev pub is_include : List ℕ → Bool
is_include text = bytes_eq (take 20 text) (fixed_text tok.Include)

abbrev pub front : ℕ → List ℕ → Front
front b rest =
    if is_blank b then Gap 0 else (
    if is_letter b then Begins (word_token (b ∷ run is_word_byte rest)) (length (run is_word_byte rest)) else (
    if is_digit b then Begins (run_token (b ∷ run is_word_byte rest)) (length (run is_word_byte rest)) else (
    if b == 35 then (if is_include (b ∷ rest) then Begins (Fixed tok.Include) 19 else Begins Wrong 0) else
    sign_front b rest)))

-- A token and its place.
pub record Lexeme : Type 0 where
  pub place : ℕ
  pub token : Token

abbrev pub lexeme : ℕ → Token → Lexeme
lexeme place token = record { place = place; token = token }

-- what stands at a place, and what follows it after so many bytes; nothing follows what is wrong
abbrev pub and_then : Front → ℕ → (ℕ → List Lexeme) → List Lexeme
and_then (Gap k) place follow = follow k
and_then (Begins Wrong k) place follow = lexeme place Wrong ∷ []
and_then (Begins (Fixed tok.End) k) place follow = lexeme place (Fixed tok.End) ∷ []
and_then (Begins (Fixed t) k) place follow = lexeme place (Fixed t) ∷ follow k
and_then (Begins (Named name) k) place follow = lexeme place (Named name) ∷ follow k
and_then (Begins (Number suffix digits) k) place follow = lexeme place (Number suffix digits) ∷ follow k

-- The tokens of a text with their places, from a place on, where the first bytes to pass are passed.
-- The end is a token too.
abbrev pub lexemes : ℕ → ℕ → List ℕ → List Lexeme
lexemes pass place [] = lexeme place (Fixed tok.End) ∷ []
lexemes (suc pass) place (b ∷ rest) = lexemes pass (place + 1) rest
lexemes zero place (b ∷ rest) = and_then (front b rest) place (λ k. lexemes k (place + 1) rest)

abbrev pub tokens : List ℕ → List Token
tokens text = map (λ l. l.token) (lexemes 0 0 text)
