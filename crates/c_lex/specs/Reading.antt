-- Reading from left to right: a value and the tokens behind it, or the fault of the next token.
use Rattle.std.specs.Prelude.{◌≡◌, ◌≢◌, ℕ, Bool, false, nat_lt, List, Result, Ok, Err, if◌then◌else◌}
use Rattle.c_tree.specs.declared.token.Tok.{Tok}
use Rattle.c_tree.specs.declared.token.Tok.TheVariants as tok
use Rattle.c_tree.specs.declared.token.Part.{Part}
use Rattle.c_tree.specs.declared.token.Part.TheVariants as part
use Rattle.c_tree.specs.declared.token.Kind.{Kind}
use Rattle.c_tree.specs.declared.token.Kind.TheVariants as kind
use Rattle.c_tree.specs.declared.token.Suffix.{Suffix}
use Rattle.c_tree.specs.declared.token.Suffix.TheVariants.{OfPlain, Of32, Of64}
use Rattle.c_tree.specs.declared.token.Wanted.{Wanted}
use Rattle.c_tree.specs.declared.token.Wanted.TheVariants as wanted
use Rattle.c_tree.specs.declared.token.CReadFault.{CReadFault}
use Rattle.c_tree.specs.declared.token.CReadFault.TheVariants.{Unexpected, NumberTooLarge, Memory}
use Rattle.c_tree.specs.declared.tree.Num.{Num}
use Rattle.c_tree.specs.declared.tree.Num.TheVariants.{N32, N64, Plain}
use Rattle.c_tree.specs.Tokens.{Token, Named, Number, kind_of, same_tok}
use Rattle.c_tree.specs.Text.{Lexeme}
use Rattle.c_tree.specs.Grammar.{first, others, limit, value_of}

abbrev pub Outcome : Type 0 → Type 0
Outcome A = Result (A × List Lexeme) CReadFault

abbrev pub Parser : Type 0 → Type 0
Parser A = List Lexeme → Outcome A

abbrev pub and_then : {A B : Type 0} → Outcome A → (A → Parser B) → Outcome B
and_then (Ok p) f = f p.0 p.1
and_then (Err e) f = Err e

infixl 10 ◌>>=◌
abbrev pub ◌>>=◌ : {A B : Type 0} → Parser A → (A → Parser B) → Parser B
p >>= f = λ ls. and_then (p ls) f

infixl 10 ◌>>◌
abbrev pub ◌>>◌ : {A B : Type 0} → Parser A → Parser B → Parser B
p >> q = p >>= (λ _. q)

abbrev pub pure : {A : Type 0} → A → Parser A
pure a = λ ls. Ok (a, ls)

-- ---- the next token

unfoldable pub next_kind : List Lexeme → Kind
next_kind ls = kind_of (first ls).token

unfoldable pub unexpected : Wanted → List Lexeme → CReadFault
unexpected w ls = Unexpected (first ls).place w

abbrev pub peek : Parser Kind
peek = λ ls. Ok (next_kind ls, ls)

-- the fault of a part that no expansion fits
abbrev pub refuse : {A : Type 0} → Part → Parser A
refuse p = λ ls. Err (unexpected (wanted.Part p) ls)

abbrev pub is_fixed : Tok → Kind → Bool
is_fixed t (kind.Fixed u) = same_tok t u
is_fixed t _ = false

-- a token of a fixed text
unfoldable pub expect : Tok → Parser (Unit {0})
expect t = λ ls. if is_fixed t (next_kind ls) then Ok (tt, others ls) else Err (unexpected (wanted.Token t) ls)

abbrev pub name_at : Token → Parser (List ℕ)
name_at (Named n) = λ ls. Ok (n, others ls)
name_at _ = λ ls. Err (unexpected (wanted.Token tok.Name) ls)

unfoldable pub name : Parser (List ℕ)
name = λ ls. name_at (first ls).token ls

abbrev pub num_of : Suffix → ℕ → Num
num_of OfPlain n = Plain n
num_of Of32 n = N32 n
num_of Of64 n = N64 n

abbrev pub number_at : Token → Parser Num
number_at (Number s digits) =
    λ ls. if nat_lt (value_of 0 digits) (limit s) then Ok (num_of s (value_of 0 digits), others ls)
    else Err (NumberTooLarge (first ls).place)
number_at _ = refuse part.InNumber

-- a number of any suffix
unfoldable pub number : Parser Num
number = λ ls. number_at (first ls).token ls

abbrev pub plain_at : ℕ → Token → Parser ℕ
plain_at above (Number OfPlain digits) =
    λ ls. if nat_lt (value_of 0 digits) above then Ok (value_of 0 digits, others ls) else Err (NumberTooLarge (first ls).place)
plain_at above _ = λ ls. Err (unexpected (wanted.Token tok.Plain) ls)

-- a number without a suffix, below another one
unfoldable pub plain : ℕ → Parser ℕ
plain above = λ ls. plain_at above (first ls).token ls

-- What a function that reads ensures: the outcome, by the tree of its value, unless memory is wanting.
abbrev pub Reads : {A B : Type 0} → (A → B) → Outcome B → Result A CReadFault → List Lexeme → Type 0
Reads view outcome (Ok a) new = outcome ≡ Ok (view a, new)
Reads view outcome (Err e) new = e ≢ Memory → outcome ≡ Err e
