-- Which of some tokens with a text of their own stands at a text.
use Rattle.std.specs.Prelude.{ℕ, Bool, List, [], ◌∷◌, Option, Some, None, if◌then◌else◌}
use Rattle.std.specs.Str.{bytes_eq}
use Rattle.c_tree.specs.declared.token.Tok.{Tok}
use Rattle.c_tree.specs.Tokens.{Token, Fixed, Named, Wrong, fixed_text}

-- the first of these with this text
abbrev pub among : List Tok → List ℕ → Option Tok
among [] text = None
among (t ∷ ts) text = if bytes_eq text (fixed_text t) then Some t else among ts text

-- a sign that was sought, and a word that is perhaps another key word
abbrev pub sign_of : Option Tok → Token
sign_of None = Wrong
sign_of (Some t) = Fixed t

abbrev pub word_of : Bool → List ℕ → Option Tok → Token
word_of other word None = if other then Wrong else Named word
word_of other word (Some t) = Fixed t
