-- What stands between two tokens, as one byte or none that is put.
use Rattle.c_print.proofs.Common.{◌≡◌, ℕ, List, [], ◌∷◌, ◌++◌, Option, option_to_list, Some, None, sym, ap, ◌∙◌, append-nil}

pub no_gap : (text gap : List ℕ) (o : Option ℕ) → o ≡ None → option_to_list o ≡ gap → text ≡ text ++ gap
no_gap text gap o none is = sym (append-nil text) ∙ ap (λ g. text ++ g) (sym (ap option_to_list none) ∙ is)

pub one_gap : (text new gap : List ℕ) (o : Option ℕ) (byte : ℕ) → o ≡ Some byte → option_to_list o ≡ gap → new ≡ text ++ byte ∷ []
    → new ≡ text ++ gap
one_gap text new gap o byte some is put = put ∙ ap (λ g. text ++ g) (sym (ap option_to_list some) ∙ is)
