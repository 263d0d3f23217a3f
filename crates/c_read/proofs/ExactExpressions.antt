-- Operators, types and expressions.
use Rattle.c_read.proofs.Common.{◌≡◌, ℕ, zero, suc, ◌<◌, false, List, [], ◌∷◌, length, refl, ap, ◌∙◌, append_assoc, Becomes, Of, becoming}
use Rattle.c_read.proofs.Common.{first, move, FitsExpr, Lexeme, Fixed, Named, kind_of, expr_tokens, op_token, separated, type_tokens, Kind}
use Rattle.c_read.proofs.Common.{Part, Tok, CType, Parser, is_comma}
use Rattle.c_tree.specs.declared.token.Tok.TheVariants as tok
use Rattle.c_tree.specs.declared.token.Part.TheVariants as part
use Rattle.c_tree.specs.declared.token.Kind.TheVariants as kind
use Rattle.c_tree.specs.declared.tree.CType.TheVariants as type
use Rattle.c_tree.specs.Tree as tree
use Rattle.c_tree.specs.Grammar as table
use Rattle.c_lex.specs.Reading.{next_kind, unexpected}
use Rattle.c_read.specs.Expressions.{op_of, taken_op, operator, operator_by, index, index_by, operation, group, group_by, expr_by}
use Rattle.c_read.specs.Expressions.{expr_of_parts, expr}
use Rattle.c_read.specs.Types.{star, star_by, ctype, ctype_by, next_type, more_types, types}
use Rattle.c_read.proofs.Exact.{Exact, Proper, free, done, next, open_part, no_part}
use Rattle.c_read.proofs.ExactTokens.{text, named, number_exact}
use Rattle.c_read.proofs.ExactLists.{Tail, tail}

-- ---- operators

op_exact : (d : ℕ) (t : Tok) (ls : List Lexeme) → kind_of (first ls).token ≡ kind.Fixed t → Proper ls
    → Exact [] (λ o. op_token o ∷ []) free (Of part.InOperator d ∷ []) ls (taken_op t (op_of t) ls)
unfolding unexpected
op_exact d tok.Plus ls e proper = open_part (rw e refl) (text refl proper (λ l1 p1. done refl tt))
op_exact d tok.Minus ls e proper = open_part (rw e refl) (text refl proper (λ l1 p1. done refl tt))
op_exact d tok.Star ls e proper = open_part (rw e refl) (text refl proper (λ l1 p1. done refl tt))
op_exact d tok.Slash ls e proper = open_part (rw e refl) (text refl proper (λ l1 p1. done refl tt))
op_exact d tok.Percent ls e proper = open_part (rw e refl) (text refl proper (λ l1 p1. done refl tt))
op_exact d tok.Amp ls e proper = open_part (rw e refl) (text refl proper (λ l1 p1. done refl tt))
op_exact d tok.Bar ls e proper = open_part (rw e refl) (text refl proper (λ l1 p1. done refl tt))
op_exact d tok.Caret ls e proper = open_part (rw e refl) (text refl proper (λ l1 p1. done refl tt))
op_exact d tok.ShiftLeft ls e proper = open_part (rw e refl) (text refl proper (λ l1 p1. done refl tt))
op_exact d tok.ShiftRight ls e proper = open_part (rw e refl) (text refl proper (λ l1 p1. done refl tt))
op_exact d tok.Equal ls e proper = open_part (rw e refl) (text refl proper (λ l1 p1. done refl tt))
op_exact d tok.NotEqual ls e proper = open_part (rw e refl) (text refl proper (λ l1 p1. done refl tt))
op_exact d tok.Less ls e proper = open_part (rw e refl) (text refl proper (λ l1 p1. done refl tt))
op_exact d tok.LessEqual ls e proper = open_part (rw e refl) (text refl proper (λ l1 p1. done refl tt))
op_exact d tok.Greater ls e proper = open_part (rw e refl) (text refl proper (λ l1 p1. done refl tt))
op_exact d tok.GreaterEqual ls e proper = open_part (rw e refl) (text refl proper (λ l1 p1. done refl tt))
op_exact d _ ls e proper = no_part (rw e refl)

pub operator_exact : (d : ℕ) (ls : List Lexeme) → Proper ls
    → Exact [] (λ o. op_token o ∷ []) free (Of part.InOperator d ∷ []) ls (operator ls)
unfolding operator next_kind unexpected
operator_exact d ls proper = by (kind_of (first ls).token) refl
  where
    by : (k : Kind) → kind_of (first ls).token ≡ k → Exact [] (λ o. op_token o ∷ []) free (Of part.InOperator d ∷ []) ls (operator_by k ls)
    by (kind.Fixed t) e = op_exact d t ls e proper
    by _ e = no_part (rw e refl)

-- ---- types

star_exact : (d : ℕ) (itself pointer : CType) (t : Tok) (ls : List Lexeme) → type_tokens itself ≡ Fixed t ∷ []
    → type_tokens pointer ≡ Fixed t ∷ Fixed tok.Star ∷ [] → Proper ls
    → Exact (Fixed t ∷ []) type_tokens free (Of part.InStar d ∷ []) ls (star itself pointer ls)
unfolding star next_kind
star_exact d itself pointer t ls one two proper = by (kind_of (first ls).token) refl
  where
    by : (k : Kind) → kind_of (first ls).token ≡ k
        → Exact (Fixed t ∷ []) type_tokens free (Of part.InStar d ∷ []) ls (star_by itself pointer k ls)
    by (kind.Fixed tok.Star) e = open_part (rw e refl) (text refl proper (λ l1 p1. done two tt))
    by _ e = open_part (rw e refl) (done one tt)

pub ctype_exact : (d : ℕ) (ls : List Lexeme) → Proper ls → Exact [] type_tokens free (Of part.InType d ∷ []) ls (ctype ls)
unfolding ctype next_kind unexpected
ctype_exact d ls proper = by (kind_of (first ls).token) refl
  where
    by : (k : Kind) → kind_of (first ls).token ≡ k → Exact [] type_tokens free (Of part.InType d ∷ []) ls (ctype_by k ls)
    by (kind.Fixed tok.WordVoid) e = open_part (rw e refl) (text refl proper (λ l1 p1. done refl tt))
    by (kind.Fixed tok.WordU32) e =
        open_part (rw e refl) (text refl proper (λ l1 p1. star_exact d type.U32 type.PtrU32 tok.WordU32 l1 refl refl p1))
    by (kind.Fixed tok.WordU64) e =
        open_part (rw e refl) (text refl proper (λ l1 p1. star_exact d type.U64 type.PtrU64 tok.WordU64 l1 refl refl p1))
    by (kind.Fixed tok.WordW2cMem) e =
        open_part (rw e refl) (text refl proper (λ l1 p1. star_exact d type.Mem type.PtrMem tok.WordW2cMem l1 refl refl p1))
    by (kind.Fixed tok.WordW2cTab) e =
        open_part (rw e refl) (text refl proper (λ l1 p1. star_exact d type.Tab type.PtrTab tok.WordW2cTab l1 refl refl p1))
    by (kind.Fixed tok.WordW2cFn) e = open_part (rw e refl) (text refl proper (λ l1 p1. done refl tt))
    by _ e = no_part (rw e refl)

types_tail : (d : ℕ) → Tail (Of part.InTtail d) (Of part.InType d ∷ [])
types_tail d = record { more = λ l e. rw e refl; ends = by }
  where
    by : (l : Lexeme) (k : Kind) → kind_of l.token ≡ k → is_comma k ≡ false → move (Of part.InTtail d) l ≡ Becomes []
    by l (kind.Fixed tok.Comma) e off = absurd cc
    by l _ e off = rw e refl

pub types_exact : (d : ℕ) (ls : List Lexeme) → Proper ls
    → Exact [] (separated type_tokens) (λ (ts : List CType). 0 < length ts) (Of part.InTypes d ∷ []) ls (types ls)
unfolding types more_types next_type
types_exact d ls proper =
    open_part refl
    (next proper (ctype_exact d ls proper) (λ t l1 p1 h. tail (types_tail d) (ctype_exact d) p1 h (λ ts some each_free. some)))

-- ---- expressions

abbrev pub ExprExact : ℕ → Parser tree.Expr → Type 0
ExprExact d inner = (ls : List Lexeme) → Proper ls → Exact [] expr_tokens (FitsExpr d) (Of part.InExpr d ∷ []) ls (inner ls)

pub index_exact : (d : ℕ) (inner : Parser tree.Expr) (n : List ℕ) (ls : List Lexeme) → ExprExact d inner → Proper ls
    → Exact (Named n ∷ []) expr_tokens (FitsExpr (suc d)) (Of part.InIndex d ∷ []) ls (index inner n ls)
unfolding index next_kind
index_exact d inner n ls within proper = by (kind_of (first ls).token) refl
  where
    by : (k : Kind) → kind_of (first ls).token ≡ k
        → Exact (Named n ∷ []) expr_tokens (FitsExpr (suc d)) (Of part.InIndex d ∷ []) ls (index_by inner n k ls)
    by (kind.Fixed tok.LeftBracket) e = open_part (rw e refl)
        (text refl proper (λ l1 p1. next p1 (within l1 p1) (λ i l2 p2 h. text refl p2 (λ l3 p3. done refl h))))
    by _ e = open_part (rw e refl) (done refl tt)

operation_exact : (d : ℕ) (inner : Parser tree.Expr) (ls : List Lexeme) → ExprExact d inner → Proper ls
    → Exact (Fixed tok.LeftParen ∷ []) expr_tokens (FitsExpr (suc d)) (table.operation d) ls (operation inner ls)
unfolding operation
operation_exact d inner ls within proper =
    next proper (within ls proper) (λ a l1 p1 ha. next p1 (operator_exact d l1 p1) (λ o l2 p2 ho.
    next p2 (within l2 p2) (λ b l3 p3 hb. text refl p3 (λ l4 p4. done (simp append_assoc) (ha, hb)))))

-- the part has at this token the expansion of a group
abbrev pub HasGroup : Part → ℕ → Lexeme → Type 0
HasGroup p d l = move (Of p d) l ≡ becoming p l.place (table.as_group d (kind_of l.token))

pub group_exact : (p : Part) (d : ℕ) (inner : Parser tree.Expr) (ls : List Lexeme) → HasGroup p d (first ls) → ExprExact d inner → Proper ls
    → Exact (Fixed tok.LeftParen ∷ []) expr_tokens (FitsExpr (suc d)) (Of p d ∷ []) ls (group p inner ls)
unfolding group next_kind unexpected
group_exact p d inner ls has within proper = by (kind_of (first ls).token) refl
  where
    at : (k : Kind) → kind_of (first ls).token ≡ k → move (Of p d) (first ls) ≡ becoming p (first ls).place (table.as_group d k)
    at k e = has ∙ ap (λ j. becoming p (first ls).place (table.as_group d j)) e

    by : (k : Kind) → kind_of (first ls).token ≡ k
        → Exact (Fixed tok.LeftParen ∷ []) expr_tokens (FitsExpr (suc d)) (Of p d ∷ []) ls (group_by p inner k ls)
    by (kind.Fixed tok.WordU32) e = open_part (at _ e)
        (text refl proper (λ l1 p1. text refl p1 (λ l2 p2. next p2 (within l2 p2) (λ x l3 p3 h. done refl h))))
    by (kind.Fixed tok.WordU64) e = open_part (at _ e)
        (text refl proper (λ l1 p1. text refl p1 (λ l2 p2. next p2 (within l2 p2) (λ x l3 p3 h. done refl h))))
    by (kind.Fixed tok.Star) e = open_part (at _ e)
        (text refl proper (λ l1 p1. named p1 (λ n l2 p2. text refl p2 (λ l3 p3. done refl tt))))
    by kind.Name e = open_part (at _ e) (operation_exact d inner ls within proper)
    by (kind.Number s) e = open_part (at _ e) (operation_exact d inner ls within proper)
    by (kind.Fixed tok.LeftParen) e = open_part (at _ e) (operation_exact d inner ls within proper)
    by _ e = no_part (at _ e)

level_exact : (d : ℕ) (inner : Parser tree.Expr) (ls : List Lexeme) → ExprExact d inner → Proper ls
    → Exact [] expr_tokens (FitsExpr (suc d)) (Of part.InExpr (suc d) ∷ []) ls (expr_of_parts inner ls)
unfolding expr_of_parts next_kind unexpected
level_exact d inner ls within proper = by (kind_of (first ls).token) refl
  where
    by : (k : Kind) → kind_of (first ls).token ≡ k
        → Exact [] expr_tokens (FitsExpr (suc d)) (Of part.InExpr (suc d) ∷ []) ls (expr_by inner k ls)
    by kind.Name e = open_part (rw e refl) (named proper (λ n l1 p1. index_exact d inner n l1 within p1))
    by (kind.Number s) e = open_part (rw e refl) (next proper (number_exact d ls proper) (λ v l1 p1 h. done refl h))
    by (kind.Fixed tok.LeftParen) e = open_part (rw e refl) (text refl proper (λ l1 p1. group_exact part.InGroup d inner l1 refl within p1))
    by _ e = no_part (rw e refl)

none_exact : (ls : List Lexeme) → Exact [] expr_tokens (FitsExpr zero) (Of part.InExpr zero ∷ []) ls (expr zero ls)
unfolding expr next_kind unexpected
none_exact ls = by (kind_of (first ls).token) refl
  where
    by : (k : Kind) → kind_of (first ls).token ≡ k → Exact [] expr_tokens (FitsExpr zero) (Of part.InExpr zero ∷ []) ls (expr zero ls)
    by (kind.Fixed tok.LeftParen) e = no_part (rw e refl)
    by _ e = no_part (rw e refl)

pub expr_exact : (d : ℕ) → ExprExact d (expr d)
unfolding expr
expr_exact zero ls proper = none_exact ls
expr_exact (suc d) ls proper = level_exact d (expr d) ls (expr_exact d) proper
