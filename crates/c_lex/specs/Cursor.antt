-- What a cursor shows: the tokens that are left.
use Rattle.std.specs.Prelude.{ℕ, ◌+◌, ◌<◌, ◌^◌, Bool, true, false, List, [], ◌∷◌, length, if◌then◌else◌}
use Rattle.c_tree.specs.declared.token.Tok.TheVariants as tok
use Rattle.c_tree.specs.Tokens.{Token, Fixed, Wrong}
use Rattle.c_tree.specs.Text.{Lexeme, lexeme, lexemes}
use Rattle.c_lex.specs.Front.{token_of}
use Rattle.c_lex.specs.declared.cursor.Cursor.TheInside.{Inside}

-- nothing follows the end, or what is wrong
abbrev pub is_last : Token → Bool
is_last (Fixed tok.End) = true
is_last Wrong = true
is_last _ = false

abbrev pub seen : ℕ → Token → List Lexeme → List Lexeme
seen place token behind = lexeme place token ∷ (if is_last token then [] else behind)

abbrev pub left : Inside → List Lexeme
left c = seen c.place (token_of c.token) (lexemes 0 c.next c.rest.now)

-- the text ends at a place that can be counted
abbrev pub Fits : Inside → Type 0
Fits c = c.next + length c.rest.now < 2 ^ 63
