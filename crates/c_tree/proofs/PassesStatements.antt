-- The table passes the tokens of statements without a fault.
use Rattle.c_tree.proofs.Common.{◌≡◌, ℕ, suc, ◌-◌, ◌<◌, List, [], ◌∷◌, ◌++◌, length, Some, None, refl, subst, append_assoc, arith}
use Rattle.c_tree.proofs.Common.{AllByRecursion, always, Of, One, Symbol, FitsArg, FitsNum, FitsStmt, Fixed, Named, Token, arg_tokens}
use Rattle.c_tree.proofs.Common.{case_tokens, each, goto_tokens, op_token, separated, stmt_tokens, type_tokens, CType, N32, N64, Plain}
use Rattle.c_tree.specs.declared.token.Tok.TheVariants as tok
use Rattle.c_tree.specs.declared.token.Part.TheVariants as part
use Rattle.c_tree.specs.Tree as tree
use Rattle.c_tree.proofs.SameStatements.{through_front, call_front, if_front, switch_front}
use Rattle.c_tree.proofs.Passes.{Passes, take, become, become_any, BehindType, type_passes, pieces_pass}
use Rattle.c_tree.proofs.PassesExpressions.{BehindExpr, behind_op, paren, semicolon, number_passes, op_passes, expr_passes, arg_passes}
use Rattle.c_tree.proofs.PassesExpressions.{right_passes}

-- ---- types and arguments with a comma between

types_pass : (d : ℕ) (xs : List CType) (ss : List Symbol) (ts : List Token) → 0 < length xs → Passes ss (Fixed tok.RightParen ∷ ts)
    → Passes (Of part.InTypes d ∷ ss) (separated type_tokens xs ++ (Fixed tok.RightParen ∷ ts))
types_pass d [] ss ts some next = absurd (omega arith)
types_pass d (x ∷ xs) ss ts some next =
    become_any (λ l. refl) (pieces_pass type_tokens (λ t. Unit {0}) BehindType (Of part.InType d ∷ []) (Of part.InTtail d) tok.RightParen
    (λ y us t vs p is more. type_passes d y us t vs is more) (λ us vs more. become (λ p. refl) (take (λ p. refl) more))
    (λ us vs more. become (λ p. refl) more)
    (record { no_star = λ e p. refl }) (record { no_star = λ e p. refl }) x xs ss ts tt (always xs) next)

in_arguments : (d : ℕ) (a : tree.Arg) (ss : List Symbol) (ts : List Token)
    → Passes (Of part.InArgument d ∷ Of part.InAtail d ∷ ss) (arg_tokens a ++ ts) → Passes (Of part.InArguments d ∷ ss) (arg_tokens a ++ ts)
in_arguments d (tree.Value (tree.Name n)) ss ts next = become (λ p. refl) next
in_arguments d (tree.Value (tree.At n i)) ss ts next = become (λ p. refl) next
in_arguments d (tree.Value (tree.Number (N32 n))) ss ts next = become (λ p. refl) next
in_arguments d (tree.Value (tree.Number (N64 n))) ss ts next = become (λ p. refl) next
in_arguments d (tree.Value (tree.Number (Plain n))) ss ts next = become (λ p. refl) next
in_arguments d (tree.Value (tree.To32 i)) ss ts next = become (λ p. refl) next
in_arguments d (tree.Value (tree.To64 i)) ss ts next = become (λ p. refl) next
in_arguments d (tree.Value (tree.Star n)) ss ts next = become (λ p. refl) next
in_arguments d (tree.Value (tree.Op o x y)) ss ts next = become (λ p. refl) next
in_arguments d _ ss ts next = become (λ p. refl) next

in_result : (d : ℕ) (a : tree.Arg) (ss : List Symbol) (ts : List Token) → Passes (Of part.InArgument d ∷ ss) (arg_tokens a ++ ts)
    → Passes (Of part.InResult d ∷ ss) (arg_tokens a ++ ts)
in_result d (tree.Value (tree.Name n)) ss ts next = become (λ p. refl) next
in_result d (tree.Value (tree.At n i)) ss ts next = become (λ p. refl) next
in_result d (tree.Value (tree.Number (N32 n))) ss ts next = become (λ p. refl) next
in_result d (tree.Value (tree.Number (N64 n))) ss ts next = become (λ p. refl) next
in_result d (tree.Value (tree.Number (Plain n))) ss ts next = become (λ p. refl) next
in_result d (tree.Value (tree.To32 i)) ss ts next = become (λ p. refl) next
in_result d (tree.Value (tree.To64 i)) ss ts next = become (λ p. refl) next
in_result d (tree.Value (tree.Star n)) ss ts next = become (λ p. refl) next
in_result d (tree.Value (tree.Op o x y)) ss ts next = become (λ p. refl) next
in_result d _ ss ts next = become (λ p. refl) next

args_pass : (d : ℕ) (xs : List tree.Arg) (ss : List Symbol) (ts : List Token) → AllByRecursion (FitsArg (suc d)) xs
    → Passes ss (Fixed tok.RightParen ∷ ts)
    → Passes (Of part.InArguments (suc d) ∷ ss) (separated arg_tokens xs ++ (Fixed tok.RightParen ∷ ts))
args_pass d [] ss ts all next = become (λ p. refl) next
args_pass d (x ∷ xs) ss ts all next =
    let more : List Token = each (λ y. Fixed tok.Comma ∷ arg_tokens y) xs in
    let assoc = append_assoc (arg_tokens x) more (Fixed tok.RightParen ∷ ts) in
    let pass =
    pieces_pass arg_tokens (FitsArg (suc d)) BehindExpr (Of part.InArgument (suc d) ∷ []) (Of part.InAtail (suc d)) tok.RightParen
    (λ y us t vs p is more. arg_passes d y us t vs p is more) (λ us vs more. become (λ p. refl) (take (λ p. refl) more))
    (λ us vs more. become (λ p. refl) more)
    (record { no_index = λ e p. refl }) paren x xs ss ts all.0 all.1 next in
    rw assoc (in_arguments (suc d) x ss (more ++ (Fixed tok.RightParen ∷ ts)) (rw assoc at pass))

-- ---- calls

through_passes : (d : ℕ) (t : tree.FuncType) (n : List ℕ) (xs : List tree.Arg) (ss : List Symbol) (ts : List Token) → 0 < length t.params
    → AllByRecursion (FitsArg (suc d)) xs → Passes ss ts
    → Passes (Of part.InThrough (suc d) ∷ ss)
    (Fixed tok.LeftParen ∷ (type_tokens t.result
    ++ (Fixed tok.LeftParen ∷ Fixed tok.Star ∷ Fixed tok.RightParen ∷ Fixed tok.LeftParen ∷ (separated type_tokens t.params
    ++ (Fixed tok.RightParen ∷ Fixed tok.RightParen ∷ Named n ∷ Fixed tok.RightParen ∷ Fixed tok.LeftParen
    ∷ (separated arg_tokens xs ++ (Fixed tok.RightParen ∷ ts)))))))
through_passes d t n xs ss ts some all next =
    become_any (λ l. refl)
    (take (λ p. refl) (type_passes (suc d) t.result _ _ _ (record { no_star = λ e p. refl })
    (take (λ p. refl) (take (λ p. refl) (take (λ p. refl) (take (λ p. refl)
    (types_pass (suc d) t.params _ _ some (take (λ p. refl)
    (take (λ p. refl) (take (λ p. refl) (take (λ p. refl) (take (λ p. refl) (args_pass d xs _ _ all (take (λ p. refl) next))))))))))))))

-- ---- statements

cases_pass : (d : ℕ) (xs : List tree.Case) (n : List ℕ) (ss : List Symbol) (ts : List Token)
    → AllByRecursion (λ (c : tree.Case). FitsNum c.0) xs → Passes ss ts
    → Passes (Of part.InCases d ∷ ss) (each case_tokens xs ++ (Fixed tok.WordDefault ∷ Fixed tok.Colon ∷ (goto_tokens n ++ ts)))
cases_pass d [] n ss ts all next =
    become (λ p. refl) (take (λ p. refl) (take (λ p. refl) (take (λ p. refl) (take (λ p. refl) (take (λ p. refl) (next))))))
cases_pass d (x ∷ xs) n ss ts all next =
    become (λ p. refl)
    (take (λ p. refl)
    (number_passes d x.0 _ _ all.0 (take (λ p. refl)
    (take (λ p. refl) (take (λ p. refl) (take (λ p. refl) (cases_pass d xs n ss ts all.1 next)))))))

pub stmt_passes : (d : ℕ) (x : tree.Stmt) (ss : List Symbol) (ts : List Token) → FitsStmt (suc (suc d)) x → Passes ss ts
    → Passes (Of part.InStatement (suc (suc d)) ∷ ss) (stmt_tokens x ++ ts)
stmt_passes d tree.Null ss ts fits next = become (λ p. refl) (take (λ p. refl) (next))
stmt_passes d (tree.Set n a) ss ts fits next =
    become (λ p. refl)
    (take (λ p. refl)
    (become (λ p. refl)
    (take (λ p. refl) (rw append_assoc (right_passes (suc d) a (One tok.Semicolon ∷ ss) ts fits (take (λ p. refl) next))))))
stmt_passes d (tree.SetStar n i) ss ts fits next =
    become (λ p. refl)
    (take (λ p. refl)
    (take (λ p. refl)
    (take (λ p. refl)
    (rw append_assoc (expr_passes (suc (suc d)) i (One tok.Semicolon ∷ ss) (Fixed tok.Semicolon) ts fits semicolon
    (take (λ p. refl) next))))))
stmt_passes d (tree.Call None (tree.Called n) xs) ss ts fits next =
    become (λ p. refl)
    (take (λ p. refl)
    (become (λ p. refl)
    (take (λ p. refl)
    (rw append_assoc (args_pass (suc d) xs (One tok.RightParen ∷ One tok.Semicolon ∷ ss) (Fixed tok.Semicolon ∷ ts) fits.1
    (take (λ p. refl) (take (λ p. refl) (next))))))))
stmt_passes d (tree.Call None (tree.Through t n) xs) ss ts fits next =
    rw (
      call_front (tree.Through t n) xs ts,
      through_front t n (Fixed tok.LeftParen ∷ (separated arg_tokens xs ++ (Fixed tok.RightParen ∷ Fixed tok.Semicolon ∷ ts))),
    )
    (become (λ p. refl)
    (take (λ p. refl)
    (take (λ p. refl) (through_passes (suc d) t n xs (One tok.Semicolon ∷ ss) (Fixed tok.Semicolon ∷ ts) fits.0 fits.1
    (take (λ p. refl) (next))))))
stmt_passes d (tree.Call (Some n) (tree.Called m) xs) ss ts fits next =
    become (λ p. refl)
    (take (λ p. refl)
    (become (λ p. refl)
    (take (λ p. refl)
    (become (λ p. refl)
    (take (λ p. refl)
    (become (λ p. refl)
    (take (λ p. refl)
    (rw append_assoc (args_pass d xs (One tok.RightParen ∷ One tok.Semicolon ∷ ss) (Fixed tok.Semicolon ∷ ts)
    (subst (λ k. AllByRecursion (FitsArg k) xs) (let h : suc (suc d) - 1 ≡ suc d = omega arith in h) fits.1)
    (take (λ p. refl) (take (λ p. refl) (next))))))))))))
stmt_passes d (tree.Call (Some n) (tree.Through t m) xs) ss ts fits next =
    become (λ p. refl) (take (λ p. refl) (become (λ p. refl) (take (λ p. refl) (
    rw (
      call_front (tree.Through t m) xs ts,
      through_front t m (Fixed tok.LeftParen ∷ (separated arg_tokens xs ++ (Fixed tok.RightParen ∷ Fixed tok.Semicolon ∷ ts))),
    )
    (become (λ p. refl)
    (take (λ p. refl)
    (become (λ p. refl)
    (take (λ p. refl)
    (become (λ p. refl) (through_passes d t m xs (One tok.Semicolon ∷ ss) (Fixed tok.Semicolon ∷ ts) fits.0
    (subst (λ k. AllByRecursion (FitsArg k) xs) (let h : suc (suc d) - 1 ≡ suc d = omega arith in h) fits.1)
    (take (λ p. refl) (next))))))))))))
stmt_passes d (tree.Goto n) ss ts fits next = become (λ p. refl) (take (λ p. refl) (take (λ p. refl) (take (λ p. refl) (next))))
stmt_passes d (tree.If o a b n) ss ts fits next =
    rw (if_front o a b n ts) (become (λ p. refl)
    (take (λ p. refl)
    (take (λ p. refl) (expr_passes (suc (suc d)) a _ (op_token o) _ fits.0 (behind_op o)
    (op_passes (suc (suc d)) o _ _ (expr_passes (suc (suc d)) b _ (Fixed tok.RightParen) _ fits.1 paren
    (take (λ p. refl) (take (λ p. refl) (take (λ p. refl) (take (λ p. refl) (next)))))))))))
stmt_passes d (tree.Switch i xs n) ss ts fits next =
    rw (switch_front i xs n ts) (become (λ p. refl)
    (take (λ p. refl)
    (take (λ p. refl) (expr_passes (suc (suc d)) i _ (Fixed tok.RightParen) _ fits.0 paren
    (take (λ p. refl) (take (λ p. refl) (cases_pass (suc (suc d)) xs n _ _ fits.1 (take (λ p. refl) (next)))))))))
stmt_passes d (tree.Return a) ss ts fits next =
    become (λ p. refl)
    (take (λ p. refl)
    (rw append_assoc (in_result (suc (suc d)) a (One tok.Semicolon ∷ ss) (Fixed tok.Semicolon ∷ ts)
    (arg_passes (suc d) a (One tok.Semicolon ∷ ss) (Fixed tok.Semicolon) ts fits semicolon (take (λ p. refl) next)))))
stmt_passes d _ ss ts fits next = become (λ p. refl) (take (λ p. refl) (become (λ p. refl) (take (λ p. refl) (next))))

in_statements : (d : ℕ) (x : tree.Stmt) (ss : List Symbol) (ts : List Token)
    → Passes (Of part.InStatement d ∷ Of part.InStatements d ∷ ss) (stmt_tokens x ++ ts)
    → Passes (Of part.InStatements d ∷ ss) (stmt_tokens x ++ ts)
in_statements d (tree.Call None (tree.Called n) xs) ss ts next = become (λ p. refl) next
in_statements d (tree.Call None (tree.Through t n) xs) ss ts next = become (λ p. refl) next
in_statements d (tree.Call (Some n) f xs) ss ts next = become (λ p. refl) next
in_statements d _ ss ts next = become (λ p. refl) next

in_body : (d : ℕ) (x : tree.Stmt) (ss : List Symbol) (ts : List Token) → Passes (Of part.InStatements d ∷ ss) (stmt_tokens x ++ ts)
    → Passes (Of part.InBody d ∷ ss) (stmt_tokens x ++ ts)
in_body d (tree.Call None (tree.Called n) xs) ss ts next = become (λ p. refl) next
in_body d (tree.Call None (tree.Through t n) xs) ss ts next = become (λ p. refl) next
in_body d (tree.Call (Some n) f xs) ss ts next = become (λ p. refl) next
in_body d _ ss ts next = become (λ p. refl) next

stmts_pass : (d : ℕ) (xs : List tree.Stmt) (ss : List Symbol) (ts : List Token) → AllByRecursion (FitsStmt (suc (suc d))) xs
    → Passes ss (Fixed tok.RightBrace ∷ ts)
    → Passes (Of part.InStatements (suc (suc d)) ∷ ss) (each stmt_tokens xs ++ (Fixed tok.RightBrace ∷ ts))
stmts_pass d [] ss ts all next = become (λ p. refl) next
stmts_pass d (x ∷ xs) ss ts all next =
    rw (append_assoc (stmt_tokens x) (each stmt_tokens xs) (Fixed tok.RightBrace ∷ ts))
    (in_statements (suc (suc d)) x ss _ (stmt_passes d x _ _ all.0 (stmts_pass d xs ss ts all.1 next)))

pub body_passes : (d : ℕ) (xs : List tree.Stmt) (ss : List Symbol) (ts : List Token) → AllByRecursion (FitsStmt (suc (suc d))) xs
    → Passes ss (Fixed tok.RightBrace ∷ ts)
    → Passes (Of part.InBody (suc (suc d)) ∷ ss) (each stmt_tokens xs ++ (Fixed tok.RightBrace ∷ ts))
body_passes d [] ss ts all next = become (λ p. refl) (become (λ p. refl) next)
body_passes d (x ∷ xs) ss ts all next =
    let assoc = append_assoc (stmt_tokens x) (each stmt_tokens xs) (Fixed tok.RightBrace ∷ ts) in
    rw assoc (in_body (suc (suc d)) x
    ss _ (in_statements (suc (suc d)) x ss _ (stmt_passes d x _ _ all.0 (stmts_pass d xs ss ts all.1 next))))
