-- A text spells at most one unit: units with the same tokens are the same.
use Rattle.c_tree.proofs.Common.{◌≡◌, ℕ, ◌<◌, Bool, true, false, List, [], ◌∷◌, ◌++◌, Some, None, Option, refl, ap, ◌∙◌, append_assoc}
use Rattle.c_tree.proofs.Common.{arith, AllByRecursion, always, CSpells, FitsBody, FitsItem, FitsNum, FitsStmt, FitsValue, depth_limit}
use Rattle.c_tree.proofs.Common.{Fixed, Named, Token, close_tokens, each, func_tokens, item_tokens, local_tokens, maybe_name, num_token}
use Rattle.c_tree.proofs.Common.{param_tokens, separated, static_tokens, stmt_tokens, type_tokens, value_tokens, CType, Num, Plain}
use Rattle.c_tree.specs.declared.token.Tok.TheVariants as tok
use Rattle.c_tree.specs.Tree as tree
use Rattle.c_tree.proofs.SameLists.{NotFirst, IsOne, Anything, same_each, same_separated}
use Rattle.c_tree.proofs.SameWords.{same_num, same_type, type_first}
use Rattle.c_tree.proofs.SameStatements.{same_pair, same_stmt, stmt_no_brace, stmt_no_type}

-- ---- local variables

abbrev FitsLocal : tree.Local → Type 0
FitsLocal l = FitsNum l.2

abbrev local : CType → List ℕ → Num → tree.Local
local t n v = (t, n, v)

same_triple : (x y : tree.Local) → x.0 ≡ y.0 → x.1 ≡ y.1 → x.2 ≡ y.2 → x ≡ y
same_triple x y e f g = ap (λ t. local t x.1 x.2) e ∙ (ap (λ n. local y.0 n x.2) f ∙ ap (λ v. local y.0 y.1 v) g)

same_local : IsOne local_tokens FitsLocal Anything
same_local x y r s p q here there e =
    let a = append_assoc (type_tokens x.0) (Named x.1 ∷ Fixed tok.Assign ∷ num_token x.2 ∷ Fixed tok.Semicolon ∷ []) r in
    let b = append_assoc (type_tokens y.0) (Named y.1 ∷ Fixed tok.Assign ∷ num_token y.2 ∷ Fixed tok.Semicolon ∷ []) s in
    let h = same_type x.0 y.0 (Named x.1 ∷ Fixed tok.Assign ∷ num_token x.2 ∷ Fixed tok.Semicolon ∷ r)
    (Named y.1 ∷ Fixed tok.Assign ∷ num_token y.2 ∷ Fixed tok.Semicolon ∷ s) (λ ts f. cc) (λ ts f. cc) cc in
    let k = same_num x.2 y.2 p q cc in
    (same_triple x y h.0 (cc) k, cc)

-- ---- parameters

-- what follows a parameter is no star and no name
abbrev BehindParam : List Token → Type 0
BehindParam r = NotFirst tok.Star r × ((n : List ℕ) (s : List Token) → r ≡ Named n ∷ s → ⊥)

no_star : (n : Option (List ℕ)) (r : List Token) → NotFirst tok.Star r → NotFirst tok.Star (maybe_name n ++ r)
no_star None r here = here
no_star (Some n) r here = λ ts f. cc

same_maybe : (n m : Option (List ℕ)) (r s : List Token) → BehindParam r → BehindParam s → maybe_name n ++ r ≡ maybe_name m ++ s
    → (n ≡ m) × (r ≡ s)
same_maybe None None r s p q e = (refl, e)
same_maybe None (Some m) r s p q e = absurd (p.1 m s e)
same_maybe (Some n) None r s p q e = absurd (q.1 n r cc)
same_maybe (Some n) (Some m) r s p q e = (cc, cc)

same_param : IsOne param_tokens (λ p. Unit {0}) BehindParam
same_param x y r s p q here there e =
    let a = append_assoc (type_tokens x.0) (maybe_name x.1) r in
    let b = append_assoc (type_tokens y.0) (maybe_name y.1) s in
    let h = same_type x.0 y.0 (maybe_name x.1 ++ r) (maybe_name y.1 ++ s) (no_star x.1 r here.0) (no_star y.1 s there.0) cc in
    let k = same_maybe x.1 y.1 r s here there h.1 in
    (same_pair x y h.0 k.0, k.1)

same_params : (xs ys : List tree.Param) (r s : List Token)
    → separated param_tokens xs ++ (Fixed tok.RightParen ∷ r) ≡ separated param_tokens ys ++ (Fixed tok.RightParen ∷ s)
    → (xs ≡ ys) × (r ≡ s)
same_params xs ys r s e =
    same_separated param_tokens (λ p. Unit {0}) BehindParam tok.RightParen same_param (λ more. (λ ts f. cc, λ n ts f. cc))
    (λ more. (λ ts f. cc, λ n ts f. cc)) (λ f. cc)
    (λ x u v f. type_first x.0 tok.RightParen (maybe_name x.1 ++ u) v refl
    (let a = append_assoc (type_tokens x.0) (maybe_name x.1) u in cc)) xs ys r s (always xs) (always ys) e

-- ---- bodies

abbrev body : List tree.Local → List tree.Stmt → tree.Body
body locals stmts = record { locals = locals; stmts = stmts }

same_record : (x y : tree.Body) → x.locals ≡ y.locals → x.stmts ≡ y.stmts → x ≡ y
same_record x y e f = ap (λ locals. body locals x.stmts) e ∙ ap (λ stmts. body y.locals stmts) f

-- no local variable begins the statements
no_local : (xs : List tree.Stmt) (r : List Token) (l : tree.Local) (more : List Token)
    → local_tokens l ++ more ≡ each stmt_tokens xs ++ (Fixed tok.RightBrace ∷ r) → ⊥
no_local [] r l more e =
    type_first l.0 tok.RightBrace (Named l.1 ∷ Fixed tok.Assign ∷ num_token l.2 ∷ Fixed tok.Semicolon ∷ more) r refl
    (let a = append_assoc (type_tokens l.0) (Named l.1 ∷ Fixed tok.Assign ∷ num_token l.2 ∷ Fixed tok.Semicolon ∷ []) more in cc)
no_local (x ∷ xs) r l more e =
    stmt_no_type x l.0 (Named l.1 ∷ Fixed tok.Assign ∷ num_token l.2 ∷ Fixed tok.Semicolon ∷ more)
    (each stmt_tokens xs ++ (Fixed tok.RightBrace ∷ r))
    (let a = append_assoc (type_tokens l.0) (Named l.1 ∷ Fixed tok.Assign ∷ num_token l.2 ∷ Fixed tok.Semicolon ∷ []) more in
    let b = append_assoc (stmt_tokens x) (each stmt_tokens xs) (Fixed tok.RightBrace ∷ r) in cc)

pub body_front : (x : tree.Body) (r : List Token)
    → close_tokens (Some x) ++ r ≡ Fixed tok.LeftBrace
    ∷ (each local_tokens x.locals ++ (each stmt_tokens x.stmts ++ (Fixed tok.RightBrace ∷ r)))
body_front x r = simp append_assoc

same_close : (d : ℕ) (x y : Option tree.Body) (r s : List Token) → FitsBody d x → FitsBody d y → close_tokens x ++ r ≡ close_tokens y ++ s
    → (x ≡ y) × (r ≡ s)
same_close d None None r s p q e = (refl, cc)
same_close d None (Some y) r s p q e = absurd cc
same_close d (Some x) None r s p q e = absurd cc
same_close d (Some x) (Some y) r s p q e =
    let a = body_front x r in
    let b = body_front y s in
    let h = same_each local_tokens FitsLocal same_local x.locals y.locals (each stmt_tokens x.stmts ++ (Fixed tok.RightBrace ∷ r))
    (each stmt_tokens y.stmts ++ (Fixed tok.RightBrace ∷ s)) p.0 q.0
    (no_local x.stmts r) (no_local y.stmts s) cc in
    let k = same_each stmt_tokens (FitsStmt d) (same_stmt d) x.stmts y.stmts (Fixed tok.RightBrace ∷ r) (Fixed tok.RightBrace ∷ s) p.1 q.1
    (λ z more f. stmt_no_brace z more r f) (λ z more f. stmt_no_brace z more s f) h.1 in
    (ap Some (same_record x y h.0 k.0), cc)

-- ---- functions

same_static : (a b : Bool) (t u : CType) (r s : List Token)
    → static_tokens a ++ (type_tokens t ++ r) ≡ static_tokens b ++ (type_tokens u ++ s)
    → (a ≡ b) × (type_tokens t ++ r ≡ type_tokens u ++ s)
same_static true true t u r s e = (refl, cc)
same_static false false t u r s e = (refl, e)
same_static true false t u r s e = absurd (type_first u tok.WordStatic s (type_tokens t ++ r) refl cc)
same_static false true t u r s e = absurd (type_first t tok.WordStatic r (type_tokens u ++ s) refl cc)

pub func_front : (f : tree.Func) (r : List Token) → func_tokens f ++ r
    ≡ static_tokens f.is_static ++ (type_tokens f.result
    ++ (Named f.name ∷ Fixed tok.LeftParen ∷ (separated param_tokens f.params ++ (Fixed tok.RightParen ∷ (close_tokens f.body ++ r)))))
func_front f r = simp append_assoc

abbrev func : Bool → CType → List ℕ → List tree.Param → Option tree.Body → tree.Func
func is_static result name params body = record { is_static = is_static; result = result; name = name; params = params; body = body }

same_parts : (f g : tree.Func) → f.is_static ≡ g.is_static → f.result ≡ g.result → f.name ≡ g.name → f.params ≡ g.params → f.body ≡ g.body
    → f ≡ g
same_parts f g a b c d e =
    ap (λ x. func x f.result f.name f.params f.body) a
    ∙ (ap (λ x. func g.is_static x f.name f.params f.body) b ∙ (ap (λ x. func g.is_static g.result x f.params f.body) c
    ∙ (ap (λ x. func g.is_static g.result g.name x f.body) d ∙ ap (λ x. func g.is_static g.result g.name g.params x) e)))

same_func : (d : ℕ) (f g : tree.Func) (r s : List Token) → FitsBody d f.body → FitsBody d g.body → func_tokens f ++ r ≡ func_tokens g ++ s
    → (f ≡ g) × (r ≡ s)
same_func d f g r s p q e =
    let a = func_front f r in
    let b = func_front g s in
    let behind : tree.Func → List Token → List Token =
    λ h t. Named h.name ∷ Fixed tok.LeftParen
    ∷ (separated param_tokens h.params ++ (Fixed tok.RightParen ∷ (close_tokens h.body ++ t))) in
    let h = same_static f.is_static g.is_static f.result g.result (behind f r) (behind g s) cc in
    let i = same_type f.result g.result (behind f r) (behind g s) (λ ts z. cc) (λ ts z. cc) h.1 in
    let j = same_params f.params g.params (close_tokens f.body ++ r) (close_tokens g.body ++ s) cc in
    let k = same_close d f.body g.body r s p q j.1 in
    (same_parts f g h.0 i.0 (cc) j.0 k.0, k.1)

-- ---- items

abbrev pub byte_tokens : ℕ → List Token
byte_tokens b = num_token (Plain b) ∷ []

byte_fits : (xs : List ℕ) → AllByRecursion (λ b. b < 256) xs → AllByRecursion (λ b. FitsNum (Plain b)) xs
byte_fits [] all = tt
byte_fits (x ∷ xs) all = let h : x < 256 = all.0 in (omega (arith, h), byte_fits xs all.1)

same_byte : IsOne byte_tokens (λ b. FitsNum (Plain b)) Anything
same_byte x y r s p q here there e = let h = same_num (Plain x) (Plain y) p q cc in (cc, cc)

same_bytes : (xs ys : List ℕ) (r s : List Token) → AllByRecursion (λ b. b < 256) xs → AllByRecursion (λ b. b < 256) ys
    → separated byte_tokens xs ++ (Fixed tok.RightBrace ∷ r) ≡ separated byte_tokens ys ++ (Fixed tok.RightBrace ∷ s) → (xs ≡ ys) × (r ≡ s)
same_bytes xs ys r s p q e =
    same_separated byte_tokens (λ b. FitsNum (Plain b)) Anything tok.RightBrace same_byte (λ more. tt) (λ more. tt) (λ f. cc)
    (λ x u v f. cc) xs ys r s (byte_fits xs p) (byte_fits ys q) e

same_value : (x y : Option Num) (r s : List Token) → FitsValue x → FitsValue y → value_tokens x ++ r ≡ value_tokens y ++ s
    → (x ≡ y) × (r ≡ s)
same_value None None r s p q e = (refl, cc)
same_value None (Some y) r s p q e = absurd cc
same_value (Some x) None r s p q e = absurd cc
same_value (Some x) (Some y) r s p q e = let h = same_num x y p q cc in (cc, cc)

-- a function does not begin like an array
by_static : (b : Bool) (t : CType) (r s : List Token)
    → static_tokens b ++ (type_tokens t ++ r) ≡ Fixed tok.WordStatic ∷ Fixed tok.WordConst ∷ s → ⊥
by_static true t r s e = type_first t tok.WordConst r s refl cc
by_static false t r s e = type_first t tok.WordStatic r (Fixed tok.WordConst ∷ s) refl e

no_array : (f : tree.Func) (r s : List Token) → func_tokens f ++ r ≡ Fixed tok.WordStatic ∷ Fixed tok.WordConst ∷ s → ⊥
no_array f r s e = let h = func_front f r in
    by_static f.is_static f.result (Named f.name ∷ Fixed tok.LeftParen
    ∷ (separated param_tokens f.params ++ (Fixed tok.RightParen ∷ (close_tokens f.body ++ r)))) s cc

-- nor like a variable
no_value : (v : Option Num) (r s : List Token) → value_tokens v ++ r ≡ Fixed tok.LeftParen ∷ s → ⊥
no_value None r s e = cc
no_value (Some n) r s e = cc

no_variable : (f : tree.Func) (t : CType) (n : List ℕ) (v : Option Num) (r s : List Token)
    → func_tokens f ++ r ≡ Fixed tok.WordStatic ∷ (type_tokens t ++ (Named n ∷ (value_tokens v ++ s))) → ⊥
no_variable f t n v r s e =
    let a = func_front f r in
    let behind : List Token =
    Named f.name ∷ Fixed tok.LeftParen ∷ (separated param_tokens f.params ++ (Fixed tok.RightParen ∷ (close_tokens f.body ++ r))) in
    let h = same_static f.is_static true f.result t behind (Named n ∷ (value_tokens v ++ s)) cc in
    let k = same_type f.result t behind (Named n ∷ (value_tokens v ++ s)) (λ ts z. cc) (λ ts z. cc) h.1 in
    no_value v s (separated param_tokens f.params ++ (Fixed tok.RightParen ∷ (close_tokens f.body ++ r))) cc

pub array_front : (n : List ℕ) (count : ℕ) (bytes : List ℕ) (r : List Token) → item_tokens (tree.Array n count bytes) ++ r
    ≡ Fixed tok.WordStatic ∷ Fixed tok.WordConst ∷ Fixed tok.WordU8 ∷ Named n ∷ Fixed tok.LeftBracket ∷ num_token (Plain count)
    ∷ Fixed tok.RightBracket ∷ Fixed tok.Assign ∷ Fixed tok.LeftBrace
    ∷ (separated byte_tokens bytes ++ (Fixed tok.RightBrace ∷ Fixed tok.Semicolon ∷ r))
array_front n count bytes r = simp append_assoc

same_item : (d : ℕ) → IsOne item_tokens (FitsItem d) Anything
same_item d (tree.Array n count bytes) (tree.Array m size others) r s p q here there e =
    let a = array_front n count bytes r in
    let b = array_front m size others s in
    let h = same_num (Plain count) (Plain size) p.0 q.0 cc in
    let k = same_bytes bytes others (Fixed tok.Semicolon ∷ r) (Fixed tok.Semicolon ∷ s) p.2 q.2 cc in
    (cc, cc)
same_item d (tree.Array n count bytes) (tree.Var u m w) r s p q here there e =
    let a = array_front n count bytes r in
    absurd (type_first u tok.WordConst (Named m ∷ (value_tokens w ++ s))
    (Fixed tok.WordU8 ∷ Named n ∷ Fixed tok.LeftBracket ∷ num_token (Plain count) ∷ Fixed tok.RightBracket ∷ Fixed tok.Assign
    ∷ Fixed tok.LeftBrace ∷ (separated byte_tokens bytes ++ (Fixed tok.RightBrace ∷ Fixed tok.Semicolon ∷ r))) refl
    (let b = append_assoc (type_tokens u) (Named m ∷ value_tokens w) s in cc))
same_item d (tree.Array n count bytes) (tree.Function g) r s p q here there e =
    let a = array_front n count bytes r in
    absurd (no_array g s (Fixed tok.WordU8 ∷ Named n ∷ Fixed tok.LeftBracket ∷ num_token (Plain count) ∷ Fixed tok.RightBracket
    ∷ Fixed tok.Assign ∷ Fixed tok.LeftBrace ∷ (separated byte_tokens bytes ++ (Fixed tok.RightBrace ∷ Fixed tok.Semicolon ∷ r))) cc)
same_item d (tree.Var t n v) (tree.Array m size others) r s p q here there e =
    let a = array_front m size others s in
    absurd (type_first t tok.WordConst (Named n ∷ (value_tokens v ++ r))
    (Fixed tok.WordU8 ∷ Named m ∷ Fixed tok.LeftBracket ∷ num_token (Plain size) ∷ Fixed tok.RightBracket ∷ Fixed tok.Assign
    ∷ Fixed tok.LeftBrace ∷ (separated byte_tokens others ++ (Fixed tok.RightBrace ∷ Fixed tok.Semicolon ∷ s))) refl
    (let b = append_assoc (type_tokens t) (Named n ∷ value_tokens v) r in cc))
same_item d (tree.Var t n v) (tree.Var u m w) r s p q here there e =
    let a = append_assoc (type_tokens t) (Named n ∷ value_tokens v) r in
    let b = append_assoc (type_tokens u) (Named m ∷ value_tokens w) s in
    let h = same_type t u (Named n ∷ (value_tokens v ++ r)) (Named m ∷ (value_tokens w ++ s)) (λ ts z. cc) (λ ts z. cc) cc in
    let k = same_value v w r s p q cc in
    (cc, k.1)
same_item d (tree.Var t n v) (tree.Function g) r s p q here there e =
    absurd (no_variable g t n v s r (let a = append_assoc (type_tokens t) (Named n ∷ value_tokens v) r in cc))
same_item d (tree.Function f) (tree.Array m size others) r s p q here there e = absurd (no_array f r _ e)
same_item d (tree.Function f) (tree.Var u m w) r s p q here there e =
    absurd (no_variable f u m w r s (let a = append_assoc (type_tokens u) (Named m ∷ value_tokens w) s in cc))
same_item d (tree.Function f) (tree.Function g) r s p q here there e = let h = same_func d f g r s p.1 q.1 e in (ap tree.Function h.0, h.1)

-- no item begins with the end
end_of_func : (b : Bool) (t : CType) (r s : List Token) → static_tokens b ++ (type_tokens t ++ r) ≡ Fixed tok.End ∷ s → ⊥
end_of_func true t r s e = cc
end_of_func false t r s e = type_first t tok.End r s refl e

not_end : (x : tree.Item) (r s : List Token) → item_tokens x ++ r ≡ Fixed tok.End ∷ s → ⊥
not_end (tree.Function f) r s e =
    let h = func_front f r in
    end_of_func f.is_static f.result (Named f.name ∷ Fixed tok.LeftParen
    ∷ (separated param_tokens f.params ++ (Fixed tok.RightParen ∷ (close_tokens f.body ++ r)))) s cc
not_end _ r s e = cc

-- ---- units

pub one_unit : (u v : List tree.Item) (text : List ℕ) → CSpells u text → CSpells v text → u ≡ v
one_unit u v text p q =
    let a = p.in_order in
    let b = q.in_order in
    let e : each item_tokens u ++ (Fixed tok.End ∷ []) ≡ each item_tokens v ++ (Fixed tok.End ∷ []) = cc in
    (same_each item_tokens (FitsItem depth_limit) (same_item depth_limit) u v (Fixed tok.End ∷ []) (Fixed tok.End ∷ []) p.fits q.fits
    (λ x more f. not_end x more [] f) (λ x more f. not_end x more [] f) e).0
