-- Reading lists of pieces: one after the other, as long as the next token begins one; and with commas between.
use Rattle.std.specs.Prelude.{ℕ, zero, suc, Bool, true, false, List, [], ◌∷◌, length, Ok, if◌then◌else◌}
use Rattle.c_tree.specs.declared.token.Tok.TheVariants as tok
use Rattle.c_tree.specs.declared.token.Kind.{Kind}
use Rattle.c_tree.specs.declared.token.Kind.TheVariants as kind
use Rattle.c_lex.specs.Reading.{Parser, ◌>>=◌, ◌>>◌, pure, next_kind, expect}

-- at most so many pieces
unfoldable pub many : {A : Type 0} → (Kind → Bool) → Parser A → ℕ → Parser (List A)
many goes one zero = pure []
many goes one (suc n) = λ ls. if goes (next_kind ls) then (one >>= λ x. many goes one n >>= λ xs. pure (x ∷ xs)) ls else Ok ([], ls)

-- each takes a token, so the number of tokens is enough
abbrev pub all : {A : Type 0} → (Kind → Bool) → Parser A → Parser (List A)
all goes one = λ ls. many goes one (suc (length ls)) ls

abbrev pub is_comma : Kind → Bool
is_comma (kind.Fixed tok.Comma) = true
is_comma _ = false

-- a piece behind a comma
abbrev pub behind_comma : {A : Type 0} → Parser A → Parser A
behind_comma one = expect tok.Comma >> one

-- a piece that was read, and those behind it
abbrev pub and_more : {A : Type 0} → Parser A → A → Parser (List A)
and_more one x = all is_comma one >>= λ xs. pure (x ∷ xs)
