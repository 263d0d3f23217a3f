-- What follows of the next token where its kind was seen.
use Rattle.c_lex.proofs.Common.{◌≡◌, ◌<◌, Bool, true, false, List, [], ◌∷◌, length, refl, ap, ◌∙◌, arith}
use Rattle.c_lex.proofs.Common.{Fixed, Named, Number, Wrong, Token}
use Rattle.std.specs.Prelude.{Ok}
use lib.Dec.{T}
use lib.Ieee.Fits.{eq→eqb}
use Rattle.c_tree.specs.declared.token.Tok.{Tok}
use Rattle.c_tree.specs.declared.token.Kind.{Kind}
use Rattle.c_tree.specs.declared.token.Kind.TheVariants as kind
use Rattle.c_tree.specs.Tokens.{kind_of, same_tok}
use Rattle.c_tree.specs.Text.{Lexeme}
use Rattle.c_tree.specs.Grammar.{first, others}
use Rattle.c_lex.specs.Cursor.{is_last}
use Rattle.c_lex.specs.Reading.{is_fixed, next_kind, expect}

abbrev last_kind : Kind → Bool
last_kind (kind.Fixed t) = is_last (Fixed t)
last_kind kind.Wrong = true
last_kind _ = false

last_of : (t : Token) → is_last t ≡ last_kind (kind_of t)
last_of (Fixed t) = refl
last_of (Named _) = refl
last_of (Number _ _) = refl
last_of Wrong = refl

-- it is not the last one where tokens of its text are not
pub goes_on : (t : Tok) (ls : List Lexeme) → next_kind ls ≡ kind.Fixed t → is_last (Fixed t) ≡ false → is_last (first ls).token ≡ false
unfolding next_kind
goes_on t ls e more = last_of (first ls).token ∙ ap last_kind e ∙ more

is_true : (b : Bool) → T b → b ≡ true
is_true true p = refl
is_true false p = absurd p

itself : (t : Tok) → same_tok t t ≡ true
itself t = is_true (same_tok t t) (eq→eqb refl)

-- and who expects it takes it
pub expected : (t : Tok) (ls : List Lexeme) → next_kind ls ≡ kind.Fixed t → expect t ls ≡ Ok (tt, others ls)
unfolding expect
expected t ls e = let is : is_fixed t (next_kind ls) ≡ true = ap (is_fixed t) e ∙ itself t in rw is refl

-- one fewer is left behind it
pub fewer : (ls : List Lexeme) → is_last (first ls).token ≡ false → length (others ls) < length ls
fewer [] more = absurd cc
fewer (l ∷ ls) more = omega arith
