-- Expressions and arguments with the same tokens are the same.
use Rattle.c_tree.proofs.Common.{◌≡◌, ℕ, zero, suc, List, [], ◌∷◌, ◌++◌, append_assoc, FitsArg, FitsExpr, Fixed, Named, Token, arg_tokens}
use Rattle.c_tree.proofs.Common.{expr_tokens, num_token, op_token, Tok, Num, N32}
use Rattle.c_tree.specs.declared.token.Tok.TheVariants as tok
use Rattle.c_tree.specs.Tree as tree
use Rattle.c_tree.proofs.SameLists.{NotFirst}
use Rattle.c_tree.proofs.SameWords.{same_num, same_op, op_no_bracket}

-- ---- what a number's token is not

pub num_not_fixed : (n : Num) (t : Tok) → num_token n ≡ Fixed t → ⊥
num_not_fixed (N32 n) t e = cc
num_not_fixed _ t e = cc

pub num_not_named : (n : Num) (m : List ℕ) → num_token n ≡ Named m → ⊥
num_not_named (N32 n) m e = cc
num_not_named _ m e = cc

-- an expression begins with a name, a number or a parenthesis
pub expr_first : (x : tree.Expr) (t : Tok) (r s : List Token) → (t ≡ tok.LeftParen → ⊥) → expr_tokens x ++ r ≡ Fixed t ∷ s → ⊥
expr_first (tree.Name n) t r s apart e = cc
expr_first (tree.At n i) t r s apart e = cc
expr_first (tree.Number n) t r s apart e = num_not_fixed n t cc
expr_first _ t r s apart e = apart cc

-- the tokens of an operation's left side, in front of the others
within : (x y r : List Token) (t u : Token) → (x ++ (t ∷ (y ++ u ∷ []))) ++ r ≡ x ++ (t ∷ (y ++ (u ∷ r)))
within x y r t u = simp append_assoc

-- ---- expressions

pub same_expr : (d : ℕ) (x y : tree.Expr) (r s : List Token) → FitsExpr d x → FitsExpr d y → NotFirst tok.LeftBracket r
    → NotFirst tok.LeftBracket s → expr_tokens x ++ r ≡ expr_tokens y ++ s → (x ≡ y) × (r ≡ s)
same_expr zero x y r s p q here there e = absurd p
same_expr (suc d) (tree.Name n) (tree.Name m) r s p q here there e = (cc, cc)
same_expr (suc d) (tree.Name n) (tree.At m j) r s p q here there e =
    absurd (here _ (let h : r ≡ Fixed tok.LeftBracket ∷ ((expr_tokens j ++ Fixed tok.RightBracket ∷ []) ++ s) = cc in h))
same_expr (suc d) (tree.Name n) (tree.Number m) r s p q here there e = absurd (num_not_named m n cc)
same_expr (suc d) (tree.Name n) y r s p q here there e = absurd cc
same_expr (suc d) (tree.At n i) (tree.Name m) r s p q here there e =
    absurd (there _ (let h : s ≡ Fixed tok.LeftBracket ∷ ((expr_tokens i ++ Fixed tok.RightBracket ∷ []) ++ r) = cc in h))
same_expr (suc d) (tree.At n i) (tree.At m j) r s p q here there e =
    let g : expr_tokens i ++ (Fixed tok.RightBracket ∷ r) ≡ expr_tokens j ++ (Fixed tok.RightBracket ∷ s) =
    (let h = append_assoc (expr_tokens i) (Fixed tok.RightBracket ∷ []) r in
    let k = append_assoc (expr_tokens j) (Fixed tok.RightBracket ∷ []) s in cc) in
    let h = same_expr d i j (Fixed tok.RightBracket ∷ r) (Fixed tok.RightBracket ∷ s) p q (λ m f. cc) (λ m f. cc) g in
    (cc, cc)
same_expr (suc d) (tree.At n i) (tree.Number m) r s p q here there e = absurd (num_not_named m n cc)
same_expr (suc d) (tree.Number n) (tree.Name m) r s p q here there e = absurd (num_not_named n m cc)
same_expr (suc d) (tree.Number n) (tree.At m j) r s p q here there e = absurd (num_not_named n m cc)
same_expr (suc d) (tree.Number n) (tree.Number m) r s p q here there e = let h = same_num n m p q cc in (cc, cc)
same_expr (suc d) (tree.Number n) y r s p q here there e = absurd (num_not_fixed n tok.LeftParen cc)
same_expr (suc d) (tree.To32 i) (tree.Number m) r s p q here there e = absurd (num_not_fixed m tok.LeftParen cc)
same_expr (suc d) (tree.To32 i) (tree.To32 j) r s p q here there e = let h = same_expr d i j r s p q here there cc in (cc, h.1)
same_expr (suc d) (tree.To32 i) (tree.Op o a b) r s p q here there e =
    absurd (expr_first a tok.WordU32 _ _ (λ f. cc) (let h = within (expr_tokens a) (expr_tokens b) s (op_token o) (Fixed tok.RightParen) in
    let g : expr_tokens a ++ (op_token o ∷ (expr_tokens b ++ (Fixed tok.RightParen ∷ s)))
    ≡ Fixed tok.WordU32 ∷ Fixed tok.RightParen ∷ (expr_tokens i ++ r) = cc in g))
same_expr (suc d) (tree.To64 i) (tree.Number m) r s p q here there e = absurd (num_not_fixed m tok.LeftParen cc)
same_expr (suc d) (tree.To64 i) (tree.To64 j) r s p q here there e = let h = same_expr d i j r s p q here there cc in (cc, h.1)
same_expr (suc d) (tree.To64 i) (tree.Op o a b) r s p q here there e =
    absurd (expr_first a tok.WordU64 _ _ (λ f. cc) (let h = within (expr_tokens a) (expr_tokens b) s (op_token o) (Fixed tok.RightParen) in
    let g : expr_tokens a ++ (op_token o ∷ (expr_tokens b ++ (Fixed tok.RightParen ∷ s)))
    ≡ Fixed tok.WordU64 ∷ Fixed tok.RightParen ∷ (expr_tokens i ++ r) = cc in g))
same_expr (suc d) (tree.Star n) (tree.Number m) r s p q here there e = absurd (num_not_fixed m tok.LeftParen cc)
same_expr (suc d) (tree.Star n) (tree.Star m) r s p q here there e = (cc, cc)
same_expr (suc d) (tree.Star n) (tree.Op o a b) r s p q here there e =
    absurd (expr_first a tok.Star _ _ (λ f. cc) (let h = within (expr_tokens a) (expr_tokens b) s (op_token o) (Fixed tok.RightParen) in
    let g : expr_tokens a ++ (op_token o ∷ (expr_tokens b ++ (Fixed tok.RightParen ∷ s)))
    ≡ Fixed tok.Star ∷ Named n ∷ Fixed tok.RightParen ∷ r = cc in g))
same_expr (suc d) (tree.Op o a b) (tree.Number m) r s p q here there e = absurd (num_not_fixed m tok.LeftParen cc)
same_expr (suc d) (tree.Op o a b) (tree.To32 j) r s p q here there e =
    absurd (expr_first a tok.WordU32 _ _ (λ f. cc) (let h = within (expr_tokens a) (expr_tokens b) r (op_token o) (Fixed tok.RightParen) in
    let g : expr_tokens a ++ (op_token o ∷ (expr_tokens b ++ (Fixed tok.RightParen ∷ r)))
    ≡ Fixed tok.WordU32 ∷ Fixed tok.RightParen ∷ (expr_tokens j ++ s) = cc in g))
same_expr (suc d) (tree.Op o a b) (tree.To64 j) r s p q here there e =
    absurd (expr_first a tok.WordU64 _ _ (λ f. cc) (let h = within (expr_tokens a) (expr_tokens b) r (op_token o) (Fixed tok.RightParen) in
    let g : expr_tokens a ++ (op_token o ∷ (expr_tokens b ++ (Fixed tok.RightParen ∷ r)))
    ≡ Fixed tok.WordU64 ∷ Fixed tok.RightParen ∷ (expr_tokens j ++ s) = cc in g))
same_expr (suc d) (tree.Op o a b) (tree.Star m) r s p q here there e =
    absurd (expr_first a tok.Star _ _ (λ f. cc) (let h = within (expr_tokens a) (expr_tokens b) r (op_token o) (Fixed tok.RightParen) in
    let g : expr_tokens a ++ (op_token o ∷ (expr_tokens b ++ (Fixed tok.RightParen ∷ r)))
    ≡ Fixed tok.Star ∷ Named m ∷ Fixed tok.RightParen ∷ s = cc in g))
same_expr (suc d) (tree.Op o a b) (tree.Op v x y) r s p q here there e =
    let g : expr_tokens a ++ (op_token o ∷ (expr_tokens b ++ (Fixed tok.RightParen ∷ r)))
    ≡ expr_tokens x ++ (op_token v ∷ (expr_tokens y ++ (Fixed tok.RightParen ∷ s))) =
    (let h = within (expr_tokens a) (expr_tokens b) r (op_token o) (Fixed tok.RightParen) in
    let k = within (expr_tokens x) (expr_tokens y) s (op_token v) (Fixed tok.RightParen) in cc) in
    let left = same_expr d a x _ _ p.0 q.0 (op_no_bracket o _) (op_no_bracket v _) g in
    let operator = same_op o v cc in
    let right = same_expr d b y (Fixed tok.RightParen ∷ r) (Fixed tok.RightParen ∷ s) p.1 q.1 (λ m f. cc) (λ m f. cc) cc in
    (cc, cc)
same_expr (suc d) _ y r s p q here there e = absurd cc

-- ---- arguments

-- an argument begins with a name, a number, a parenthesis or &
pub arg_first : (x : tree.Arg) (t : Tok) (r s : List Token) → (t ≡ tok.LeftParen → ⊥) → (t ≡ tok.Amp → ⊥) → arg_tokens x ++ r ≡ Fixed t ∷ s
    → ⊥
arg_first (tree.Value x) t r s apart and e = expr_first x t r s apart e
arg_first (tree.Address n) t r s apart and e = and cc
arg_first (tree.OfFunction n) t r s apart and e = apart cc

-- no expression begins like a function in parentheses
expr_no_function : (x : tree.Expr) (r s : List Token) → expr_tokens x ++ r ≡ Fixed tok.LeftParen ∷ Fixed tok.WordW2cFn ∷ s → ⊥
expr_no_function (tree.Number n) r s e = num_not_fixed n tok.LeftParen cc
expr_no_function (tree.Op o a b) r s e =
    expr_first a tok.WordW2cFn _ _ (λ f. cc) (let h = within (expr_tokens a) (expr_tokens b) r (op_token o) (Fixed tok.RightParen) in
    let g : expr_tokens a ++ (op_token o ∷ (expr_tokens b ++ (Fixed tok.RightParen ∷ r))) ≡ Fixed tok.WordW2cFn ∷ s = cc in g)
expr_no_function x r s e = cc

pub same_arg : (d : ℕ) (x y : tree.Arg) (r s : List Token) → FitsArg d x → FitsArg d y → NotFirst tok.LeftBracket r
    → NotFirst tok.LeftBracket s → arg_tokens x ++ r ≡ arg_tokens y ++ s → (x ≡ y) × (r ≡ s)
same_arg d (tree.Value x) (tree.Value y) r s p q here there e = let h = same_expr d x y r s p q here there e in (cc, h.1)
same_arg d (tree.Value x) (tree.Address m) r s p q here there e = absurd (expr_first x tok.Amp r _ (λ f. cc) e)
same_arg d (tree.Value x) (tree.OfFunction m) r s p q here there e = absurd (expr_no_function x r _ e)
same_arg d (tree.Address n) (tree.Value y) r s p q here there e = absurd (expr_first y tok.Amp s (Named n ∷ r) (λ f. cc) (cc))
same_arg d (tree.Address n) (tree.Address m) r s p q here there e = (cc, cc)
same_arg d (tree.Address n) (tree.OfFunction m) r s p q here there e = absurd cc
same_arg d (tree.OfFunction n) (tree.Value y) r s p q here there e = absurd (expr_no_function y s (Fixed tok.RightParen ∷ Named n ∷ r) (cc))
same_arg d (tree.OfFunction n) (tree.Address m) r s p q here there e = absurd cc
same_arg d (tree.OfFunction n) (tree.OfFunction m) r s p q here there e = (cc, cc)
