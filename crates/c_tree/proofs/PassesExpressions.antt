-- The table passes the tokens of numbers, expressions and arguments without a fault.
use Rattle.c_tree.proofs.Common.{◌≡◌, ℕ, zero, suc, ◌^◌, ◌<◌, List, [], ◌∷◌, ◌++◌, decimal, refl, ap, append_assoc, arith}
use Rattle.c_tree.proofs.Common.{digits_value-decimal, FoldsDigits, numerals_by_fold, tells_digits, AllDigits, Becomes, Of, One, OneNumber}
use Rattle.c_tree.proofs.Common.{Symbol, Takes, move, operation, value_of, FitsArg, FitsExpr, FitsNum, lexeme, Fixed, Token, arg_tokens}
use Rattle.c_tree.proofs.Common.{expr_tokens, num_token, op_token, COp, Num, N32, N64, Plain}
use Rattle.w2c_base.proofs.Numbers.{below_is_found}
use Rattle.c_tree.specs.declared.token.Tok.TheVariants as tok
use Rattle.c_tree.specs.declared.token.Part.TheVariants as part
use Rattle.c_tree.specs.declared.tree.COp.TheVariants as op
use Rattle.c_tree.specs.Tree as tree
use Rattle.c_tree.proofs.Passes.{Passes, take, become, become_none}

-- ---- numbers

folds : FoldsDigits value_of
folds = record { empty = λ n. refl; more = λ n c cs k. ap (λ m. value_of m cs) (omega arith) }

pub value_decimal : (n : ℕ) → n < 2 ^ 64 → value_of 0 (decimal n) ≡ n
value_decimal n small = digits_value-decimal (numerals_by_fold (AllDigits 10) tells_digits value_of folds) n small

pub number_taken : (n : Num) → FitsNum n → (p : ℕ) → move OneNumber (lexeme p (num_token n)) ≡ Takes
number_taken (N32 n) fits p = rw (value_decimal n (omega arith), below_is_found n (2 ^ 32) fits) refl
number_taken (N64 n) fits p = rw (value_decimal n fits, below_is_found n (2 ^ 64) fits) refl
number_taken (Plain n) fits p = rw (value_decimal n (omega arith), below_is_found n (2 ^ 32) fits) refl

pub number_passes : (d : ℕ) (n : Num) (ss : List Symbol) (ts : List Token) → FitsNum n → Passes ss ts
    → Passes (Of part.InNumber d ∷ ss) (num_token n ∷ ts)
number_passes d (N32 n) ss ts fits next = become (λ p. refl) (take (number_taken (N32 n) fits) next)
number_passes d (N64 n) ss ts fits next = become (λ p. refl) (take (number_taken (N64 n) fits) next)
number_passes d (Plain n) ss ts fits next = become (λ p. refl) (take (number_taken (Plain n) fits) next)

-- ---- what may follow an expression

pub record BehindExpr (t : Token) : Type 0 where
  pub no_index : (d p : ℕ) → move (Of part.InIndex d) (lexeme p t) ≡ Becomes []

pub behind_op : (o : COp) → BehindExpr (op_token o)
behind_op op.Add = record { no_index = λ d p. refl }
behind_op _ = record { no_index = λ d p. refl }

pub op_passes : (d : ℕ) (o : COp) (ss : List Symbol) (ts : List Token) → Passes ss ts → Passes (Of part.InOperator d ∷ ss) (op_token o ∷ ts)
op_passes d op.Add ss ts next = become (λ p. refl) (take (λ p. refl) next)
op_passes d _ ss ts next = become (λ p. refl) (take (λ p. refl) next)

-- ---- an operation behind its parenthesis

in_group : (d : ℕ) (a : tree.Expr) (ss : List Symbol) (ts : List Token)
    → Passes (operation d ++ ss) (expr_tokens a ++ ts) → Passes (Of part.InGroup d ∷ ss) (expr_tokens a ++ ts)
in_group d (tree.Number (N32 n)) ss ts next = become (λ p. refl) next
in_group d (tree.Number (N64 n)) ss ts next = become (λ p. refl) next
in_group d (tree.Number (Plain n)) ss ts next = become (λ p. refl) next
in_group d _ ss ts next = become (λ p. refl) next

in_agroup : (d : ℕ) (a : tree.Expr) (ss : List Symbol) (ts : List Token)
    → Passes (operation d ++ ss) (expr_tokens a ++ ts) → Passes (Of part.InAgroup d ∷ ss) (expr_tokens a ++ ts)
in_agroup d (tree.Number (N32 n)) ss ts next = become (λ p. refl) next
in_agroup d (tree.Number (N64 n)) ss ts next = become (λ p. refl) next
in_agroup d (tree.Number (Plain n)) ss ts next = become (λ p. refl) next
in_agroup d _ ss ts next = become (λ p. refl) next

in_rgroup : (d : ℕ) (a : tree.Expr) (ss : List Symbol) (ts : List Token)
    → Passes (operation d ++ ss) (expr_tokens a ++ ts) → Passes (Of part.InRgroup d ∷ ss) (expr_tokens a ++ ts)
in_rgroup d (tree.Number (N32 n)) ss ts next = become (λ p. refl) next
in_rgroup d (tree.Number (N64 n)) ss ts next = become (λ p. refl) next
in_rgroup d (tree.Number (Plain n)) ss ts next = become (λ p. refl) next
in_rgroup d _ ss ts next = become (λ p. refl) next

op_within : (o : COp) (a b : tree.Expr) (r : List Token)
    → (expr_tokens a ++ (op_token o ∷ (expr_tokens b ++ Fixed tok.RightParen ∷ []))) ++ r
    ≡ expr_tokens a ++ (op_token o ∷ (expr_tokens b ++ (Fixed tok.RightParen ∷ r)))
op_within o a b r = simp append_assoc

pub paren : BehindExpr (Fixed tok.RightParen)
paren = record { no_index = λ d p. refl }

bracket : BehindExpr (Fixed tok.RightBracket)
bracket = record { no_index = λ d p. refl }

-- ---- expressions

pub expr_passes : (d : ℕ) (e : tree.Expr) (ss : List Symbol) (t : Token) (ts : List Token) → FitsExpr d e → BehindExpr t
    → Passes ss (t ∷ ts) → Passes (Of part.InExpr d ∷ ss) (expr_tokens e ++ (t ∷ ts))
expr_passes zero e ss t ts fits is next = absurd fits
expr_passes (suc d) (tree.Name n) ss t ts fits is next = become (λ p. refl) (take (λ p. refl) (become_none (is.no_index d) next))
expr_passes (suc d) (tree.At n i) ss t ts fits is next =
    become (λ p. refl)
    (take (λ p. refl)
    (become (λ p. refl)
    (take (λ p. refl)
    (rw append_assoc (expr_passes d i (One tok.RightBracket ∷ ss) (Fixed tok.RightBracket) (t ∷ ts) fits bracket
    (take (λ p. refl) next))))))
expr_passes (suc d) (tree.Number (N32 n)) ss t ts fits is next = become (λ p. refl) (number_passes d (N32 n) ss (t ∷ ts) fits next)
expr_passes (suc d) (tree.Number (N64 n)) ss t ts fits is next = become (λ p. refl) (number_passes d (N64 n) ss (t ∷ ts) fits next)
expr_passes (suc d) (tree.Number (Plain n)) ss t ts fits is next = become (λ p. refl) (number_passes d (Plain n) ss (t ∷ ts) fits next)
expr_passes (suc d) (tree.To32 e) ss t ts fits is next =
    become (λ p. refl) (take (λ p. refl) (become (λ p. refl) (take (λ p. refl) (take (λ p. refl) (expr_passes d e ss t ts fits is next)))))
expr_passes (suc d) (tree.To64 e) ss t ts fits is next =
    become (λ p. refl) (take (λ p. refl) (become (λ p. refl) (take (λ p. refl) (take (λ p. refl) (expr_passes d e ss t ts fits is next)))))
expr_passes (suc d) (tree.Star n) ss t ts fits is next =
    become (λ p. refl) (take (λ p. refl) (become (λ p. refl) (take (λ p. refl) (take (λ p. refl) (take (λ p. refl) next)))))
expr_passes (suc d) (tree.Op o a b) ss t ts fits is next =
    become (λ p. refl)
    (take (λ p. refl) (rw (op_within o a b (t ∷ ts))
    (in_group d a ss (op_token o ∷ (expr_tokens b ++ (Fixed tok.RightParen ∷ t ∷ ts)))
    (expr_passes d a (Of part.InOperator d ∷ Of part.InExpr d ∷ One tok.RightParen ∷ ss) (op_token o)
    (expr_tokens b ++ (Fixed tok.RightParen ∷ t ∷ ts)) fits.0 (behind_op o)
    (op_passes d o (Of part.InExpr d ∷ One tok.RightParen ∷ ss) (expr_tokens b ++ (Fixed tok.RightParen ∷ t ∷ ts))
    (expr_passes d b (One tok.RightParen ∷ ss) (Fixed tok.RightParen) (t ∷ ts) fits.1 paren (take (λ p. refl) next)))))))

-- an operation, behind the part that has it as its own
operation_passes : (d : ℕ) (o : COp) (a b : tree.Expr) (ss : List Symbol) (ts : List Token)
    → FitsExpr d a → FitsExpr d b → Passes ss ts
    → Passes (operation d ++ ss) (expr_tokens a ++ (op_token o ∷ (expr_tokens b ++ (Fixed tok.RightParen ∷ ts))))
operation_passes d o a b ss ts left right next =
    expr_passes d a (Of part.InOperator d ∷ Of part.InExpr d ∷ One tok.RightParen ∷ ss) (op_token o) _ left (behind_op o)
    (op_passes d o (Of part.InExpr d ∷ One tok.RightParen ∷ ss) _
    (expr_passes d b (One tok.RightParen ∷ ss) (Fixed tok.RightParen) ts right paren (take (λ p. refl) next)))

-- ---- arguments

pub arg_passes : (d : ℕ) (a : tree.Arg) (ss : List Symbol) (t : Token) (ts : List Token) → FitsArg (suc d) a → BehindExpr t
    → Passes ss (t ∷ ts) → Passes (Of part.InArgument (suc d) ∷ ss) (arg_tokens a ++ (t ∷ ts))
arg_passes d (tree.Address n) ss t ts fits is next = become (λ p. refl) (take (λ p. refl) (take (λ p. refl) next))
arg_passes d (tree.OfFunction n) ss t ts fits is next =
    become (λ p. refl) (take (λ p. refl) (become (λ p. refl) (take (λ p. refl) (take (λ p. refl) (take (λ p. refl) next)))))
arg_passes d (tree.Value (tree.Name n)) ss t ts fits is next = become (λ p. refl) (take (λ p. refl) (become_none (is.no_index d) next))
arg_passes d (tree.Value (tree.At n i)) ss t ts fits is next =
    become (λ p. refl)
    (take (λ p. refl)
    (become (λ p. refl)
    (take (λ p. refl)
    (rw append_assoc (expr_passes d i (One tok.RightBracket ∷ ss) (Fixed tok.RightBracket) (t ∷ ts) fits bracket
    (take (λ p. refl) next))))))
arg_passes d (tree.Value (tree.Number (N32 n))) ss t ts fits is next = become (λ p. refl) (number_passes d (N32 n) ss (t ∷ ts) fits next)
arg_passes d (tree.Value (tree.Number (N64 n))) ss t ts fits is next = become (λ p. refl) (number_passes d (N64 n) ss (t ∷ ts) fits next)
arg_passes d (tree.Value (tree.Number (Plain n))) ss t ts fits is next =
    become (λ p. refl) (number_passes d (Plain n) ss (t ∷ ts) fits next)
arg_passes d (tree.Value (tree.To32 e)) ss t ts fits is next =
    become (λ p. refl) (take (λ p. refl) (become (λ p. refl) (take (λ p. refl) (take (λ p. refl) (expr_passes d e ss t ts fits is next)))))
arg_passes d (tree.Value (tree.To64 e)) ss t ts fits is next =
    become (λ p. refl) (take (λ p. refl) (become (λ p. refl) (take (λ p. refl) (take (λ p. refl) (expr_passes d e ss t ts fits is next)))))
arg_passes d (tree.Value (tree.Star n)) ss t ts fits is next =
    become (λ p. refl) (take (λ p. refl) (become (λ p. refl) (take (λ p. refl) (take (λ p. refl) (take (λ p. refl) next)))))
arg_passes d (tree.Value (tree.Op o a b)) ss t ts fits is next =
    become (λ p. refl) (take (λ p. refl) (rw (op_within o a b (t ∷ ts))
    (in_agroup d a ss _ (operation_passes d o a b ss (t ∷ ts) fits.0 fits.1 next))))

-- ---- right sides that are no call

pub semicolon : BehindExpr (Fixed tok.Semicolon)
semicolon = record { no_index = λ d p. refl }

pub right_passes : (d : ℕ) (a : tree.Arg) (ss : List Symbol) (ts : List Token) → FitsArg (suc d) a → Passes ss (Fixed tok.Semicolon ∷ ts)
    → Passes (Of part.InRight (suc d) ∷ ss) (arg_tokens a ++ (Fixed tok.Semicolon ∷ ts))
right_passes d (tree.Address n) ss ts fits next = become (λ p. refl) (take (λ p. refl) (take (λ p. refl) next))
right_passes d (tree.OfFunction n) ss ts fits next =
    become (λ p. refl) (take (λ p. refl) (become (λ p. refl) (take (λ p. refl) (take (λ p. refl) (take (λ p. refl) next)))))
right_passes d (tree.Value (tree.Name n)) ss ts fits next = become (λ p. refl) (take (λ p. refl) (become (λ p. refl) next))
right_passes d (tree.Value (tree.At n i)) ss ts fits next =
    become (λ p. refl)
    (take (λ p. refl)
    (become (λ p. refl)
    (take (λ p. refl)
    (rw append_assoc (expr_passes d i (One tok.RightBracket ∷ ss) (Fixed tok.RightBracket) (Fixed tok.Semicolon ∷ ts) fits bracket
    (take (λ p. refl) next))))))
right_passes d (tree.Value (tree.Number (N32 n))) ss ts fits next =
    become (λ p. refl) (number_passes d (N32 n) ss (Fixed tok.Semicolon ∷ ts) fits next)
right_passes d (tree.Value (tree.Number (N64 n))) ss ts fits next =
    become (λ p. refl) (number_passes d (N64 n) ss (Fixed tok.Semicolon ∷ ts) fits next)
right_passes d (tree.Value (tree.Number (Plain n))) ss ts fits next =
    become (λ p. refl) (number_passes d (Plain n) ss (Fixed tok.Semicolon ∷ ts) fits next)
right_passes d (tree.Value (tree.To32 e)) ss ts fits next =
    become (λ p. refl) (take (λ p. refl) (become (λ p. refl) (take (λ p. refl) (take (λ p. refl)
    (expr_passes d e ss (Fixed tok.Semicolon) ts fits semicolon next)))))
right_passes d (tree.Value (tree.To64 e)) ss ts fits next =
    become (λ p. refl) (take (λ p. refl) (become (λ p. refl) (take (λ p. refl) (take (λ p. refl)
    (expr_passes d e ss (Fixed tok.Semicolon) ts fits semicolon next)))))
right_passes d (tree.Value (tree.Star n)) ss ts fits next =
    become (λ p. refl)
    (take (λ p. refl) (become (λ p. refl) (take (λ p. refl) (become (λ p. refl) (take (λ p. refl) (take (λ p. refl) next))))))
right_passes d (tree.Value (tree.Op o a b)) ss ts fits next =
    become (λ p. refl) (take (λ p. refl) (rw (op_within o a b (Fixed tok.Semicolon ∷ ts))
    (in_rgroup d a ss _ (operation_passes d o a b ss (Fixed tok.Semicolon ∷ ts) fits.0 fits.1 next))))
