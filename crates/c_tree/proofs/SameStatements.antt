-- Statements with the same tokens are the same.
use Rattle.c_tree.proofs.Common.{◌≡◌, ℕ, ◌-◌, List, [], ◌∷◌, ◌++◌, Some, None, refl, ap, ◌∙◌, append_assoc, AllByRecursion, always, FitsArg}
use Rattle.c_tree.proofs.Common.{FitsExpr, FitsNum, FitsStmt, Fixed, Named, Token, arg_tokens, call_tokens, callee_tokens, case_tokens}
use Rattle.c_tree.proofs.Common.{each, expr_tokens, goto_tokens, op_token, separated, stmt_tokens, through_tokens, type_tokens, COp, CType}
use Rattle.c_tree.specs.declared.token.Tok.TheVariants as tok
use Rattle.c_tree.specs.Tree as tree
use Rattle.c_tree.proofs.SameLists.{NotFirst, IsOne, Anything, same_each, same_separated}
use Rattle.c_tree.proofs.SameWords.{same_num, same_op, op_no_bracket, same_type, type_first, type_no_name}
use Rattle.c_tree.proofs.SameExpressions.{num_not_fixed, num_not_named, expr_first, arg_first, same_expr, same_arg}

abbrev pub pair : {A B : Type 0} → A → B → A × B
pair a b = (a, b)

pub same_pair : {A B : Type 0} (x y : A × B) → x.0 ≡ y.0 → x.1 ≡ y.1 → x ≡ y
same_pair x y e f = ap (λ a. pair a x.1) e ∙ ap (λ b. pair y.0 b) f

-- ---- calls

same_args : (d : ℕ) (xs ys : List tree.Arg) (r s : List Token) → AllByRecursion (FitsArg d) xs → AllByRecursion (FitsArg d) ys
    → separated arg_tokens xs ++ (Fixed tok.RightParen ∷ r) ≡ separated arg_tokens ys ++ (Fixed tok.RightParen ∷ s) → (xs ≡ ys) × (r ≡ s)
same_args d xs ys r s p q e =
    same_separated arg_tokens (FitsArg d) (NotFirst tok.LeftBracket) tok.RightParen (same_arg d) (λ more ts f. cc) (λ more ts f. cc)
    (λ f. cc)
    (λ x u v f. arg_first x tok.RightParen u v (λ g. cc) (λ g. cc) f) xs ys r s p q e

same_types : (xs ys : List CType) (r s : List Token)
    → separated type_tokens xs ++ (Fixed tok.RightParen ∷ r) ≡ separated type_tokens ys ++ (Fixed tok.RightParen ∷ s) → (xs ≡ ys) × (r ≡ s)
same_types xs ys r s e =
    same_separated type_tokens (λ t. Unit {0}) (NotFirst tok.Star) tok.RightParen
    (λ x y u v p q here there f. same_type x y u v here there f) (λ more ts f. cc) (λ more ts f. cc) (λ f. cc)
    (λ x u v f. type_first x tok.RightParen u v refl f) xs ys r s (always xs) (always ys) e

abbrev func_type : List CType → CType → tree.FuncType
func_type params result = record { params = params; result = result }

same_func_type : (t u : tree.FuncType) → t.params ≡ u.params → t.result ≡ u.result → t ≡ u
same_func_type t u e f = ap (λ params. func_type params t.result) e ∙ ap (λ result. func_type u.params result) f

pub through_front : (t : tree.FuncType) (n : List ℕ) (r : List Token) → through_tokens t n ++ r
    ≡ Fixed tok.LeftParen ∷ Fixed tok.Star ∷ Fixed tok.LeftParen
    ∷ (type_tokens t.result ++ (Fixed tok.LeftParen ∷ Fixed tok.Star ∷ Fixed tok.RightParen ∷ Fixed tok.LeftParen
    ∷ (separated type_tokens t.params
    ++ (Fixed tok.RightParen ∷ Fixed tok.RightParen ∷ Named n ∷ Fixed tok.RightParen ∷ r))))
through_front t n r = simp append_assoc

same_callee : (f g : tree.Callee) (r s : List Token) → callee_tokens f ++ r ≡ callee_tokens g ++ s → (f ≡ g) × (r ≡ s)
same_callee (tree.Called n) (tree.Called m) r s e = (cc, cc)
same_callee (tree.Called n) (tree.Through u m) r s e = absurd cc
same_callee (tree.Through t n) (tree.Called m) r s e = absurd cc
same_callee (tree.Through t n) (tree.Through u m) r s e =
    let a = through_front t n r in
    let b = through_front u m s in
    let h = same_type t.result u.result _ _ (λ ts f. cc) (λ ts f. cc)
    (let g : type_tokens t.result ++ (Fixed tok.LeftParen ∷ Fixed tok.Star ∷ Fixed tok.RightParen ∷ Fixed tok.LeftParen
    ∷ (separated type_tokens t.params ++ (Fixed tok.RightParen ∷ Fixed tok.RightParen ∷ Named n ∷ Fixed tok.RightParen ∷ r)))
    ≡ type_tokens u.result ++ (Fixed tok.LeftParen ∷ Fixed tok.Star ∷ Fixed tok.RightParen ∷ Fixed tok.LeftParen
    ∷ (separated type_tokens u.params ++ (Fixed tok.RightParen ∷ Fixed tok.RightParen ∷ Named m ∷ Fixed tok.RightParen ∷ s))) = cc in
    g) in
    let k = same_types t.params u.params (Fixed tok.RightParen ∷ Named n ∷ Fixed tok.RightParen ∷ r)
    (Fixed tok.RightParen ∷ Named m ∷ Fixed tok.RightParen ∷ s) cc in
    let l = same_func_type t u k.0 h.0 in
    (cc, cc)

pub call_front : (f : tree.Callee) (xs : List tree.Arg) (r : List Token)
    → call_tokens f xs ++ r ≡ callee_tokens f
    ++ (Fixed tok.LeftParen ∷ (separated arg_tokens xs ++ (Fixed tok.RightParen ∷ Fixed tok.Semicolon ∷ r)))
call_front f xs r = simp append_assoc

same_call : (d : ℕ) (f g : tree.Callee) (xs ys : List tree.Arg) (r s : List Token) → AllByRecursion (FitsArg d) xs
    → AllByRecursion (FitsArg d) ys → call_tokens f xs ++ r ≡ call_tokens g ys ++ s → (f ≡ g) × (xs ≡ ys) × (r ≡ s)
same_call d f g xs ys r s p q e =
    let a = call_front f xs r in
    let b = call_front g ys s in
    let h = same_callee f g (Fixed tok.LeftParen ∷ (separated arg_tokens xs ++ (Fixed tok.RightParen ∷ Fixed tok.Semicolon ∷ r)))
    (Fixed tok.LeftParen ∷ (separated arg_tokens ys ++ (Fixed tok.RightParen ∷ Fixed tok.Semicolon ∷ s))) cc in
    let k = same_args d xs ys (Fixed tok.Semicolon ∷ r) (Fixed tok.Semicolon ∷ s) p q cc in
    (h.0, k.0, cc)

op_front : (o : COp) (a b : tree.Expr) (r : List Token)
    → expr_tokens (tree.Op o a b) ++ r
    ≡ Fixed tok.LeftParen ∷ (expr_tokens a ++ (op_token o ∷ (expr_tokens b ++ (Fixed tok.RightParen ∷ r))))
op_front o a b r = simp append_assoc

-- a right side that is no call is none
expr_no_call : (x : tree.Expr) (f : tree.Callee) (ys : List tree.Arg) (r s : List Token)
    → expr_tokens x ++ (Fixed tok.Semicolon ∷ r) ≡ call_tokens f ys ++ s → ⊥
expr_no_call (tree.Number n) (tree.Called m) ys r s e = num_not_named n m cc
expr_no_call (tree.Number n) (tree.Through u m) ys r s e = num_not_fixed n tok.LeftParen cc
expr_no_call (tree.Op o a b) (tree.Through u m) ys r s e =
    let h = op_front o a b (Fixed tok.Semicolon ∷ r) in
    let k = call_front (tree.Through u m) ys s in
    let l = through_front u m (Fixed tok.LeftParen ∷ (separated arg_tokens ys ++ (Fixed tok.RightParen ∷ Fixed tok.Semicolon ∷ s))) in
    expr_first a tok.Star (op_token o ∷ (expr_tokens b ++ (Fixed tok.RightParen ∷ Fixed tok.Semicolon ∷ r)))
    (Fixed tok.LeftParen ∷ (type_tokens u.result
    ++ (Fixed tok.LeftParen ∷ Fixed tok.Star ∷ Fixed tok.RightParen ∷ Fixed tok.LeftParen ∷ (separated type_tokens u.params
    ++ (Fixed tok.RightParen ∷ Fixed tok.RightParen ∷ Named m ∷ Fixed tok.RightParen ∷ Fixed tok.LeftParen
    ∷ (separated arg_tokens ys ++ (Fixed tok.RightParen ∷ Fixed tok.Semicolon ∷ s))))))) (λ f. cc) cc
expr_no_call x (tree.Called m) ys r s e = cc
expr_no_call x (tree.Through u m) ys r s e = cc

arg_no_call : (x : tree.Arg) (f : tree.Callee) (ys : List tree.Arg) (r s : List Token)
    → arg_tokens x ++ (Fixed tok.Semicolon ∷ r) ≡ call_tokens f ys ++ s → ⊥
arg_no_call (tree.Value x) f ys r s e = expr_no_call x f ys r s e
arg_no_call (tree.Address n) (tree.Called m) ys r s e = cc
arg_no_call (tree.Address n) (tree.Through u m) ys r s e = cc
arg_no_call (tree.OfFunction n) (tree.Called m) ys r s e = cc
arg_no_call (tree.OfFunction n) (tree.Through u m) ys r s e = cc

-- ---- cases

abbrev FitsCase : tree.Case → Type 0
FitsCase c = FitsNum c.0

same_case : IsOne case_tokens FitsCase Anything
same_case x y r s p q here there e = let h = same_num x.0 y.0 p q cc in (same_pair x y h cc, cc)

-- ---- statements

pub if_front : (o : COp) (a b : tree.Expr) (n : List ℕ) (r : List Token)
    → stmt_tokens (tree.If o a b n) ++ r
    ≡ Fixed tok.WordIf ∷ Fixed tok.LeftParen
    ∷ (expr_tokens a ++ (op_token o ∷ (expr_tokens b ++ (Fixed tok.RightParen ∷ (goto_tokens n ++ r)))))
if_front o a b n r = simp append_assoc

pub switch_front : (e : tree.Expr) (cases : List tree.Case) (n : List ℕ) (r : List Token) → stmt_tokens (tree.Switch e cases n) ++ r
    ≡ Fixed tok.WordSwitch ∷ Fixed tok.LeftParen
    ∷ (expr_tokens e ++ (Fixed tok.RightParen ∷ Fixed tok.LeftBrace
    ∷ (each case_tokens cases ++ (Fixed tok.WordDefault ∷ Fixed tok.Colon ∷ (goto_tokens n ++ (Fixed tok.RightBrace ∷ r))))))
switch_front e cases n r = simp append_assoc

-- an argument in front of what ends its statement
same_last : (d : ℕ) (x y : tree.Arg) (r s : List Token) → FitsArg d x → FitsArg d y
    → (arg_tokens x ++ Fixed tok.Semicolon ∷ []) ++ r ≡ (arg_tokens y ++ Fixed tok.Semicolon ∷ []) ++ s → (x ≡ y) × (r ≡ s)
same_last d x y r s p q e =
    let a = append_assoc (arg_tokens x) (Fixed tok.Semicolon ∷ []) r in
    let b = append_assoc (arg_tokens y) (Fixed tok.Semicolon ∷ []) s in
    let h = same_arg d x y (Fixed tok.Semicolon ∷ r) (Fixed tok.Semicolon ∷ s) p q (λ ts f. cc) (λ ts f. cc) cc in
    (h.0, cc)

same_if : (d : ℕ) (o v : COp) (a b x y : tree.Expr) (n m : List ℕ) (r s : List Token) → FitsExpr d a × FitsExpr d b
    → FitsExpr d x × FitsExpr d y
    → stmt_tokens (tree.If o a b n) ++ r ≡ stmt_tokens (tree.If v x y m) ++ s → (tree.If o a b n ≡ tree.If v x y m) × (r ≡ s)
same_if d o v a b x y n m r s p q e =
    let i = if_front o a b n r in
    let j = if_front v x y m s in
    let left =
    same_expr d a x (op_token o ∷ (expr_tokens b ++ (Fixed tok.RightParen ∷ (goto_tokens n ++ r))))
    (op_token v ∷ (expr_tokens y ++ (Fixed tok.RightParen ∷ (goto_tokens m ++ s)))) p.0 q.0 (op_no_bracket o _)
    (op_no_bracket v _) cc in
    let operator = same_op o v cc in
    let right =
    same_expr d b y (Fixed tok.RightParen ∷ (goto_tokens n ++ r)) (Fixed tok.RightParen ∷ (goto_tokens m ++ s)) p.1 q.1 (λ ts f. cc)
    (λ ts f. cc) cc in
    (cc, cc)

same_switch : (d : ℕ) (x y : tree.Expr) (xs ys : List tree.Case) (n m : List ℕ) (r s : List Token)
    → FitsExpr d x × AllByRecursion FitsCase xs → FitsExpr d y × AllByRecursion FitsCase ys
    → stmt_tokens (tree.Switch x xs n) ++ r ≡ stmt_tokens (tree.Switch y ys m) ++ s → (tree.Switch x xs n ≡ tree.Switch y ys m) × (r ≡ s)
same_switch d x y xs ys n m r s p q e =
    let i = switch_front x xs n r in
    let j = switch_front y ys m s in
    let after : List ℕ → List Token → List Token =
    λ k u. Fixed tok.WordDefault ∷ Fixed tok.Colon ∷ (goto_tokens k ++ (Fixed tok.RightBrace ∷ u)) in
    let h = same_expr d x y (Fixed tok.RightParen ∷ Fixed tok.LeftBrace ∷ (each case_tokens xs ++ after n r))
    (Fixed tok.RightParen ∷ Fixed tok.LeftBrace ∷ (each case_tokens ys ++ after m s)) p.0 q.0 (λ ts f. cc) (λ ts f. cc) cc in
    let k = same_each case_tokens FitsCase same_case xs ys (after n r) (after m s) p.1 q.1 (λ c more f. cc) (λ c more f. cc) cc in
    (cc, cc)

pub same_stmt : (d : ℕ) → IsOne stmt_tokens (FitsStmt d) Anything
same_stmt d (tree.Label n) (tree.Label m) r s p q here there e = (cc, cc)
same_stmt d (tree.Label n) (tree.Call None (tree.Called m) ys) r s p q here there e = absurd cc
same_stmt d (tree.Label n) y r s p q here there e = absurd cc
same_stmt d tree.Null tree.Null r s p q here there e = (refl, cc)
same_stmt d tree.Null (tree.Call None (tree.Called m) ys) r s p q here there e = absurd cc
same_stmt d tree.Null y r s p q here there e = absurd cc
same_stmt d (tree.Set n a) (tree.Set m b) r s p q here there e = let h = same_last d a b r s p q cc in (cc, h.1)
same_stmt d (tree.Set n a) (tree.Call None (tree.Called m) ys) r s p q here there e = absurd cc
same_stmt d (tree.Set n a) (tree.Call (Some m) g ys) r s p q here there e =
    absurd (arg_no_call a g ys r s (let h = append_assoc (arg_tokens a) (Fixed tok.Semicolon ∷ []) r in cc))
same_stmt d (tree.Set n a) y r s p q here there e = absurd cc
same_stmt d (tree.SetStar n i) (tree.SetStar m j) r s p q here there e =
    let k = append_assoc (expr_tokens i) (Fixed tok.Semicolon ∷ []) r in
    let l = append_assoc (expr_tokens j) (Fixed tok.Semicolon ∷ []) s in
    let h = same_expr d i j (Fixed tok.Semicolon ∷ r) (Fixed tok.Semicolon ∷ s) p q (λ ts f. cc) (λ ts f. cc) cc in
    (cc, cc)
same_stmt d (tree.SetStar n i) (tree.Call None (tree.Called m) ys) r s p q here there e = absurd cc
same_stmt d (tree.SetStar n i) y r s p q here there e = absurd cc
same_stmt d (tree.Goto n) (tree.Goto m) r s p q here there e = (cc, cc)
same_stmt d (tree.Goto n) (tree.Call None (tree.Called m) ys) r s p q here there e = absurd cc
same_stmt d (tree.Goto n) y r s p q here there e = absurd cc
same_stmt d (tree.If o a b n) (tree.If v x y m) r s p q here there e = same_if d o v a b x y n m r s p q e
same_stmt d (tree.If o a b n) (tree.Call None (tree.Called m) ys) r s p q here there e = absurd cc
same_stmt d (tree.If o a b n) y r s p q here there e = absurd cc
same_stmt d (tree.Switch i xs n) (tree.Switch j ys m) r s p q here there e = same_switch d i j xs ys n m r s p q e
same_stmt d (tree.Switch i xs n) (tree.Call None (tree.Called m) ys) r s p q here there e = absurd cc
same_stmt d (tree.Switch i xs n) y r s p q here there e = absurd cc
same_stmt d tree.ReturnNone tree.ReturnNone r s p q here there e = (refl, cc)
same_stmt d tree.ReturnNone (tree.Return b) r s p q here there e =
    absurd (arg_first b tok.Semicolon (Fixed tok.Semicolon ∷ s) r (λ f. cc) (λ f. cc)
    (let h = append_assoc (arg_tokens b) (Fixed tok.Semicolon ∷ []) s in cc))
same_stmt d tree.ReturnNone (tree.Call None (tree.Called m) ys) r s p q here there e = absurd cc
same_stmt d tree.ReturnNone y r s p q here there e = absurd cc
same_stmt d (tree.Return a) (tree.Return b) r s p q here there e = let h = same_last d a b r s p q cc in (cc, h.1)
same_stmt d (tree.Return a) tree.ReturnNone r s p q here there e =
    absurd (arg_first a tok.Semicolon (Fixed tok.Semicolon ∷ r) s (λ f. cc) (λ f. cc)
    (let h = append_assoc (arg_tokens a) (Fixed tok.Semicolon ∷ []) r in cc))
same_stmt d (tree.Return a) (tree.Call None (tree.Called m) ys) r s p q here there e = absurd cc
same_stmt d (tree.Return a) y r s p q here there e = absurd cc
same_stmt d (tree.Call None (tree.Called n) xs) (tree.Call None g ys) r s p q here there e =
    let h = same_call d (tree.Called n) g xs ys r s p.1 q.1 e in (cc, h.2)
same_stmt d (tree.Call None (tree.Called n) xs) y r s p q here there e = absurd cc
same_stmt d (tree.Call None (tree.Through t n) xs) (tree.Call None g ys) r s p q here there e =
    let h = same_call d (tree.Through t n) g xs ys r s p.1 q.1 e in (cc, h.2)
same_stmt d (tree.Call None (tree.Through t n) xs) y r s p q here there e = absurd cc
same_stmt d (tree.Call (Some n) f xs) (tree.Call None (tree.Called m) ys) r s p q here there e = absurd cc
same_stmt d (tree.Call (Some n) f xs) (tree.Call (Some m) g ys) r s p q here there e =
    let h = same_call (d - 1) f g xs ys r s p.1 q.1 cc in (cc, h.2)
same_stmt d (tree.Call (Some n) f xs) (tree.Set m b) r s p q here there e =
    absurd (arg_no_call b f xs s r (let h = append_assoc (arg_tokens b) (Fixed tok.Semicolon ∷ []) s in cc))
same_stmt d (tree.Call (Some n) f xs) y r s p q here there e = absurd cc

-- a statement begins with no closing brace
pub stmt_no_brace : (x : tree.Stmt) (r s : List Token) → stmt_tokens x ++ r ≡ Fixed tok.RightBrace ∷ s → ⊥
stmt_no_brace (tree.Call None (tree.Called n) xs) r s e = cc
stmt_no_brace (tree.Call None (tree.Through t n) xs) r s e = cc
stmt_no_brace (tree.Call (Some n) f xs) r s e = cc
stmt_no_brace _ r s e = cc

-- and with no type
pub stmt_no_type : (x : tree.Stmt) (t : CType) (r s : List Token) → type_tokens t ++ r ≡ stmt_tokens x ++ s → ⊥
stmt_no_type (tree.Label n) t r s e = type_no_name t n r _ e
stmt_no_type tree.Null t r s e = type_first t tok.Semicolon r _ refl e
stmt_no_type (tree.Set n a) t r s e = type_no_name t n r _ e
stmt_no_type (tree.SetStar n i) t r s e = type_first t tok.Star r _ refl e
stmt_no_type (tree.Call None (tree.Called n) xs) t r s e = type_no_name t n r _ e
stmt_no_type (tree.Call None (tree.Through u n) xs) t r s e = type_first t tok.LeftParen r _ refl e
stmt_no_type (tree.Call (Some n) f xs) t r s e = type_no_name t n r _ e
stmt_no_type (tree.Goto n) t r s e = type_first t tok.WordGoto r _ refl e
stmt_no_type (tree.If o a b n) t r s e = type_first t tok.WordIf r _ refl e
stmt_no_type (tree.Switch i xs n) t r s e = type_first t tok.WordSwitch r _ refl e
stmt_no_type _ t r s e = type_first t tok.WordReturn r _ refl e
