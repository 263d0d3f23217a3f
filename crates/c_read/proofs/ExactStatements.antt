-- Statements.
use Rattle.c_read.proofs.Common.{◌≡◌, ℕ, true, false, List, [], ◌∷◌, ◌++◌, Some, None, Ok, Option, refl, append_assoc, AllByRecursion}
use Rattle.c_read.proofs.Common.{Becomes, Of, One, Symbol, FitsArg, FitsNum, FitsStmt, first, move, Lexeme, Fixed, Named, Token, kind_of}
use Rattle.c_read.proofs.Common.{arg_tokens, case_tokens, each, goto_tokens, stmt_tokens, Kind, and_then, expect, after_by, assigned}
use Rattle.c_read.proofs.Common.{is_case, not_brace, return_of, returned_by, statement_by}
use Rattle.c_tree.specs.declared.token.Tok.TheVariants as tok
use Rattle.c_tree.specs.declared.token.Part.TheVariants as part
use Rattle.c_tree.specs.declared.token.Kind.TheVariants as kind
use Rattle.c_tree.specs.Tree as tree
use Rattle.c_lex.specs.Reading.{next_kind, unexpected}
use Rattle.c_read.specs.Arguments.{depth, Right, Gives, Calls, through}
use Rattle.c_read.specs.Statements.{jump, after, returned, one_case, cases, default, default_by, switch, condition, set_star, call_through}
use Rattle.c_read.specs.Statements.{statement, statements}
use Rattle.c_read.proofs.Exact.{Exact, Proper, free, done, next, behind, then_all, last, mapped, open_part, no_part}
use Rattle.c_read.proofs.ExactTokens.{text, named, number_exact}
use Rattle.c_read.proofs.ExactLists.{Lists, pieces, pieces_alone}
use Rattle.c_read.proofs.ExactExpressions.{operator_exact, expr_exact}
use Rattle.c_read.proofs.ExactArguments.{argument_exact, arguments_exact, through_exact, right_tokens, FitsRight, right_exact}

abbrev goto_symbols : List Symbol
goto_symbols = One tok.WordGoto ∷ One tok.Name ∷ One tok.Semicolon ∷ []

jump_exact : (ls : List Lexeme) → Proper ls → Exact [] goto_tokens free goto_symbols ls (jump ls)
unfolding jump
jump_exact ls proper = text refl proper (λ l1 p1. named p1 (λ n l2 p2. text refl p2 (λ l3 p3. done refl tt)))

-- ---- behind a name

after_done : (n : List ℕ) (r : Right)
    → stmt_tokens (assigned n r) ≡ ((Named n ∷ Fixed tok.Assign ∷ []) ++ right_tokens r) ++ Fixed tok.Semicolon ∷ []
after_done n (Gives a) = refl
after_done n (Calls c) = simp append_assoc

assigned_fits : (n : List ℕ) (r : Right) → FitsRight 99 r → FitsStmt 100 (assigned n r)
assigned_fits n (Gives a) h = h
assigned_fits n (Calls c) h = h

after_exact : (n : List ℕ) (ls : List Lexeme) → Proper ls
    → Exact (Named n ∷ []) stmt_tokens (FitsStmt 100) (Of part.InAfter 100 ∷ []) ls (after n ls)
unfolding after next_kind unexpected depth
after_exact n ls proper = by (kind_of (first ls).token) refl
  where
    by : (k : Kind) → kind_of (first ls).token ≡ k
        → Exact (Named n ∷ []) stmt_tokens (FitsStmt 100) (Of part.InAfter 100 ∷ []) ls (after_by n k ls)
    by (kind.Fixed tok.Colon) e = open_part (rw e refl) (text refl proper (λ l1 p1. done refl tt))
    by (kind.Fixed tok.Assign) e =
        open_part (rw e refl)
        (text refl proper (λ l1 p1. next p1 (right_exact 99 l1 p1)
        (λ r l2 p2 h. text refl p2 (λ l3 p3. done (after_done n r) (assigned_fits n r h)))))
    by (kind.Fixed tok.LeftParen) e =
        open_part (rw e refl)
        (text refl proper (λ l1 p1. next p1 (arguments_exact 100 l1 p1)
        (λ xs l2 p2 h. text refl p2 (λ l3 p3. text refl p3 (λ l4 p4. done (simp append_assoc) (tt, h))))))
    by _ e = no_part (rw e refl)

-- ---- returns

abbrev returned_tokens : Option tree.Arg → List Token
returned_tokens None = []
returned_tokens (Some a) = arg_tokens a

abbrev FitsReturned : Option tree.Arg → Type 0
FitsReturned None = Unit {0}
FitsReturned (Some a) = FitsArg 100 a

returned_exact : (ls : List Lexeme) → Proper ls → Exact [] returned_tokens FitsReturned (Of part.InResult 100 ∷ []) ls (returned ls)
unfolding returned next_kind depth
returned_exact ls proper = by (kind_of (first ls).token) refl
  where
    by : (k : Kind) → kind_of (first ls).token ≡ k → Exact [] returned_tokens FitsReturned (Of part.InResult 100 ∷ []) ls (returned_by k ls)
    by (kind.Fixed tok.Semicolon) e = open_part (rw e refl) (done refl tt)
    by _ e = open_part (rw e refl) (mapped Some (λ x. refl) (λ x h. h) (argument_exact 100 ls proper))

return_done : (r : Option tree.Arg)
    → stmt_tokens (return_of r) ≡ ((Fixed tok.WordReturn ∷ []) ++ returned_tokens r) ++ Fixed tok.Semicolon ∷ []
return_done None = refl
return_done (Some a) = refl

return_fits : (r : Option tree.Arg) → FitsReturned r → FitsStmt 100 (return_of r)
return_fits None h = tt
return_fits (Some a) h = h

-- ---- switches

abbrev FitsCase : tree.Case → Type 0
FitsCase c = FitsNum c.0

case_exact : (d : ℕ) (ls : List Lexeme) → Proper ls
    → Exact [] case_tokens FitsCase (One tok.WordCase ∷ Of part.InNumber d ∷ One tok.Colon ∷ goto_symbols) ls (one_case ls)
unfolding one_case
case_exact d ls proper =
    text refl proper (λ l1 p1. next p1 (number_exact d l1 p1)
    (λ v l2 p2 h. text refl p2 (λ l3 p3. then_all goto_symbols [] p3 (jump_exact l3 p3) (λ n l4 p4 hn. done refl h))))

cases_list : Lists (Of part.InCases 100) is_case one_case case_tokens FitsCase
cases_list = record {
  new = One tok.WordCase ∷ Of part.InNumber 100 ∷ One tok.Colon ∷ goto_symbols;
  more = λ l on. by l (kind_of l.token) refl on;
  exact = case_exact 100;
  some = λ c. (_, _, refl);
}
  where
    by : (l : Lexeme) (k : Kind) → kind_of l.token ≡ k → is_case k ≡ true
        → move (Of part.InCases 100) l ≡ Becomes (One tok.WordCase ∷ Of part.InNumber 100 ∷ One tok.Colon ∷ One tok.WordGoto ∷ One tok.Name
        ∷ One tok.Semicolon ∷ Of part.InCases 100 ∷ [])
    by l (kind.Fixed tok.WordCase) e on = rw e refl
    by l _ e on = absurd cc

default_exact : (ls : List Lexeme) → is_case (kind_of (first ls).token) ≡ false → Proper ls
    → Exact [] (λ n. Fixed tok.WordDefault ∷ Fixed tok.Colon ∷ goto_tokens n) free (Of part.InCases 100 ∷ []) ls (default ls)
unfolding default next_kind unexpected
default_exact ls off proper = by (kind_of (first ls).token) refl off
  where
    by : (k : Kind) → kind_of (first ls).token ≡ k → is_case k ≡ false
        → Exact [] (λ n. Fixed tok.WordDefault ∷ Fixed tok.Colon ∷ goto_tokens n) free (Of part.InCases 100 ∷ []) ls (default_by k ls)
    by (kind.Fixed tok.WordDefault) e g =
        open_part (rw e refl) (text refl proper (λ l1 p1. text refl p1 (λ l2 p2. last (λ n. refl) (jump_exact l2 p2))))
    by (kind.Fixed tok.WordCase) e g = absurd cc
    by _ e g = no_part (rw e refl)

switch_exact : (ls : List Lexeme) → Proper ls
    → Exact (Fixed tok.WordSwitch ∷ []) stmt_tokens (FitsStmt 100)
    (One tok.LeftParen ∷ Of part.InExpr 100 ∷ One tok.RightParen ∷ One tok.LeftBrace ∷ Of part.InCases 100 ∷ One tok.RightBrace ∷ []) ls
    (switch ls)
unfolding switch cases depth
switch_exact ls proper =
    text refl proper (λ l1 p1. next p1 (expr_exact 100 l1 p1) (λ e l2 p2 h. text refl p2 (λ l3 p3. text refl p3 (λ l4 p4.
    pieces cases_list p4 (λ cs l5 p5 off hs. next p5 (default_exact l5 off p5)
    (λ n l6 p6 hn. text refl p6 (λ l7 p7. done (simp append_assoc) (h, hs))))))))

-- ---- conditions, assignments and calls through a name

condition_exact : (ls : List Lexeme) → Proper ls
    → Exact (Fixed tok.WordIf ∷ []) stmt_tokens (FitsStmt 100)
    (One tok.LeftParen ∷ Of part.InExpr 100 ∷ Of part.InOperator 100 ∷ Of part.InExpr 100 ∷ One tok.RightParen ∷ goto_symbols) ls
    (condition ls)
unfolding condition depth
condition_exact ls proper =
    text refl proper (λ l1 p1. next p1 (expr_exact 100 l1 p1)
    (λ a l2 p2 ha. next p2 (operator_exact 100 l2 p2) (λ o l3 p3 ho. next p3 (expr_exact 100 l3 p3) (λ b l4 p4 hb.
    text refl p4 (λ l5 p5. then_all goto_symbols [] p5 (jump_exact l5 p5) (λ n l6 p6 hn. done (simp append_assoc) (ha, hb)))))))

set_star_exact : (ls : List Lexeme) → Proper ls
    → Exact (Fixed tok.Star ∷ []) stmt_tokens (FitsStmt 100)
    (One tok.Name ∷ One tok.Assign ∷ Of part.InExpr 100 ∷ One tok.Semicolon ∷ []) ls (set_star ls)
unfolding set_star depth
set_star_exact ls proper =
    named proper (λ n l1 p1. text refl p1 (λ l2 p2. next p2 (expr_exact 100 l2 p2) (λ e l3 p3 h. text refl p3 (λ l4 p4. done refl h))))

-- behind a parenthesis and a star a call through a name, and a semicolon
through_then : (ls : List Lexeme) → Proper ls
    → Exact (Fixed tok.LeftParen ∷ Fixed tok.Star ∷ []) stmt_tokens (FitsStmt 100) (Of part.InThrough 100 ∷ One tok.Semicolon ∷ []) ls
    (and_then (through 100 ls) (λ c m. and_then (expect tok.Semicolon m) (λ u q. Ok (tree.Call None c.callee c.args, q))))
through_then ls proper = behind proper (through_exact 100 ls proper) (λ c l1 p1 h. text refl p1 (λ l2 p2. done (simp append_assoc) h))

call_through_exact : (ls : List Lexeme) → Proper ls
    → Exact (Fixed tok.LeftParen ∷ []) stmt_tokens (FitsStmt 100) (One tok.Star ∷ Of part.InThrough 100 ∷ One tok.Semicolon ∷ []) ls
    (call_through ls)
unfolding call_through depth
call_through_exact ls proper = text refl proper (λ l1 p1. through_then l1 p1)

-- ---- statements

pub statement_exact : (ls : List Lexeme) → Proper ls
    → Exact [] stmt_tokens (FitsStmt 100) (Of part.InStatement 100 ∷ []) ls (statement ls)
unfolding statement next_kind unexpected
statement_exact ls proper = by (kind_of (first ls).token) refl
  where
    by : (k : Kind) → kind_of (first ls).token ≡ k
        → Exact [] stmt_tokens (FitsStmt 100) (Of part.InStatement 100 ∷ []) ls (statement_by k ls)
    by (kind.Fixed tok.Semicolon) e = open_part (rw e refl) (text refl proper (λ l1 p1. done refl tt))
    by kind.Name e = open_part (rw e refl) (named proper (λ n l1 p1. after_exact n l1 p1))
    by (kind.Fixed tok.Star) e = open_part (rw e refl) (text refl proper (λ l1 p1. set_star_exact l1 p1))
    by (kind.Fixed tok.LeftParen) e = open_part (rw e refl) (text refl proper (λ l1 p1. call_through_exact l1 p1))
    by (kind.Fixed tok.WordGoto) e = open_part (rw e refl) (mapped tree.Goto (λ n. refl) (λ n h. tt) (jump_exact ls proper))
    by (kind.Fixed tok.WordIf) e = open_part (rw e refl) (text refl proper (λ l1 p1. condition_exact l1 p1))
    by (kind.Fixed tok.WordSwitch) e = open_part (rw e refl) (text refl proper (λ l1 p1. switch_exact l1 p1))
    by (kind.Fixed tok.WordReturn) e =
        open_part (rw e refl)
        (text refl proper (λ l1 p1. next p1 (returned_exact l1 p1)
        (λ r l2 p2 h. text refl p2 (λ l3 p3. done (return_done r) (return_fits r h)))))
    by _ e = no_part (rw e refl)

some_token : (s : tree.Stmt) → (t : Token) × (ts : List Token) × (stmt_tokens s ≡ t ∷ ts)
some_token (tree.Call None (tree.Called f) xs) = (_, _, refl)
some_token (tree.Call None (tree.Through t f) xs) = (_, _, refl)
some_token (tree.Call (Some n) f xs) = (_, _, refl)
some_token _ = (_, _, refl)

statements_list : Lists (Of part.InStatements 100) not_brace statement stmt_tokens (FitsStmt 100)
statements_list = record {
  new = Of part.InStatement 100 ∷ [];
  more = λ l on. by l (kind_of l.token) refl on;
  exact = statement_exact;
  some = some_token;
}
  where
    by : (l : Lexeme) (k : Kind) → kind_of l.token ≡ k → not_brace k ≡ true
        → move (Of part.InStatements 100) l ≡ Becomes (Of part.InStatement 100 ∷ Of part.InStatements 100 ∷ [])
    by l (kind.Fixed tok.RightBrace) e on = absurd cc
    by l _ e on = rw e refl

statements_end : (l : Lexeme) (k : Kind) → kind_of l.token ≡ k → not_brace k ≡ false → move (Of part.InStatements 100) l ≡ Becomes []
statements_end l (kind.Fixed tok.RightBrace) e off = rw e refl
statements_end l _ e off = absurd cc

pub statements_exact : (ls : List Lexeme) → Proper ls
    → Exact [] (each stmt_tokens) (AllByRecursion (FitsStmt 100)) (Of part.InStatements 100 ∷ []) ls (statements ls)
unfolding statements
statements_exact ls proper = pieces_alone statements_list (λ l off. statements_end l (kind_of l.token) refl off) proper
