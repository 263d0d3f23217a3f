-- A unit passes the test of well formed units exactly where it is one.
use Rattle.c_tree.proofs.Common.{◌≡◌, ℕ, zero, suc, ◌-◌, ◌^◌, ◌<◌, Bool, true, false, ◌&&◌, List, [], ◌∷◌, length, get_or, nat_lt, Some}
use Rattle.c_tree.proofs.Common.{None, Option, sym, refl, subst, arith, w8, Fits, ltb-true, AllByRecursion, list_all, FitsArg, FitsBody}
use Rattle.c_tree.proofs.Common.{FitsCallee, FitsExpr, FitsItem, FitsNum, FitsStmt, FitsValue, depth_limit, arg_formed, body_formed}
use Rattle.c_tree.proofs.Common.{bytes_formed, call_formed, callee_formed, case_formed, expr_formed, is_byte, item_formed, local_formed}
use Rattle.c_tree.proofs.Common.{named_if_any, number_fits, param_formed, stmt_formed, value_formed, IsNamedIfAny, IsWellFormed, NamedArg}
use Rattle.c_tree.proofs.Common.{NamedBody, NamedCallee, NamedExpr, NamedItem, NamedStmt, is_name, Num, N32, N64, Plain}
use Rattle.w2c_base.proofs.Conjunctions.{both_hold}
use Rattle.w2c_base.proofs.Numbers.{below_is_found}
use Rattle.c_tree.specs.Tree as tree
use Rattle.c_tree.proofs.Tested.{no_room}
use Rattle.c_tree.proofs.TreeIsProper.{both, NamedCase, FitsCase, NamedLocal, FitsLocal, NamedParam}

-- ---- tests and lists

and_passes : (a b : Bool) → a ≡ true → b ≡ true → a && b ≡ true
and_passes a b p q = rw (p, q) refl

pub and_true_right : (a b c : Bool) → a ≡ true → c ≡ true → b ≡ a && (b && c)
and_true_right a true c p q = sym (rw (p, q) refl)
and_true_right a false c p q = sym (rw p refl)

all_tells : {A : Type 0} (p : A → Bool) (P : A → Type 0) → ((x : A) → p x ≡ true → P x) → (xs : List A) → list_all p xs ≡ true
    → AllByRecursion P xs
all_tells p P one [] t = tt
all_tells p P one (x ∷ xs) t = let h = both_hold (p x) (list_all p xs) t in (one x h.0, all_tells p P one xs h.1)

all_passes : {A : Type 0} (p : A → Bool) (P : A → Type 0) → ((x : A) → P x → p x ≡ true) → (xs : List A) → AllByRecursion P xs
    → list_all p xs ≡ true
all_passes p P one [] all = refl
all_passes p P one (x ∷ xs) all = and_passes (p x) (list_all p xs) (one x all.0) (all_passes p P one xs all.1)

firsts : {A : Type 0} (P Q : A → Type 0) (xs : List A) → AllByRecursion (λ x. P x × Q x) xs → AllByRecursion P xs
firsts P Q [] all = tt
firsts P Q (x ∷ xs) all = (all.0.0, firsts P Q xs all.1)

seconds : {A : Type 0} (P Q : A → Type 0) (xs : List A) → AllByRecursion (λ x. P x × Q x) xs → AllByRecursion Q xs
seconds P Q [] all = tt
seconds P Q (x ∷ xs) all = (all.0.1, seconds P Q xs all.1)

-- ---- numbers and names

number_tells : (n : Num) → number_fits n ≡ true → FitsNum n
number_tells (N32 n) t = ltb-true n (2 ^ 32) t
number_tells (N64 n) t = ltb-true n (2 ^ 64) t
number_tells (Plain n) t = ltb-true n (2 ^ 32) t

number_passes : (n : Num) → FitsNum n → number_fits n ≡ true
number_passes (N32 n) fits = below_is_found n (2 ^ 32) fits
number_passes (N64 n) fits = below_is_found n (2 ^ 64) fits
number_passes (Plain n) fits = below_is_found n (2 ^ 32) fits

named_tells : (n : Option (List ℕ)) → named_if_any n ≡ true → IsNamedIfAny n
named_tells None t = tt
named_tells (Some n) t = t

named_passes : (n : Option (List ℕ)) → IsNamedIfAny n → named_if_any n ≡ true
named_passes None named = refl
named_passes (Some n) named = named

-- ---- expressions

less_one : (d : ℕ) → suc d - 1 ≡ d
less_one d = omega arith

-- the test behind that of the room
inside : (d : ℕ) (b : Bool) → nat_lt 0 (suc d) && b ≡ true → b ≡ true
inside d b t = (both_hold (nat_lt 0 (suc d)) b t).1

room : (d : ℕ) (b : Bool) → b ≡ true → nat_lt 0 (suc d) && b ≡ true
room d b t = and_passes (nat_lt 0 (suc d)) b (below_is_found 0 (suc d) (omega arith)) t

down : (d : ℕ) (e : tree.Expr) → expr_formed (suc d - 1) e ≡ true → expr_formed d e ≡ true
down d e t = subst (λ m. expr_formed m e ≡ true) (less_one d) t

up : (d : ℕ) (e : tree.Expr) → expr_formed d e ≡ true → expr_formed (suc d - 1) e ≡ true
up d e t = subst (λ m. expr_formed m e ≡ true) (sym (less_one d)) t

full : (e : tree.Expr) → expr_formed 0 e ≡ true → ⊥
full e t = let h = no_room e in cc

expr_tells : (e : tree.Expr) (d : ℕ) → expr_formed d e ≡ true → NamedExpr e × FitsExpr d e
expr_tells (tree.Name n) (suc d) t = (inside d (is_name n) t, tt)
expr_tells (tree.At n i) (suc d) t =
    let h = both_hold (is_name n) (expr_formed (suc d - 1) i) (inside d (is_name n && expr_formed (suc d - 1) i) t) in
    let k = expr_tells i d (down d i h.1) in
    ((h.0, k.0), k.1)
expr_tells (tree.Number n) (suc d) t = (tt, number_tells n (inside d (number_fits n) t))
expr_tells (tree.To32 e) (suc d) t = expr_tells e d (down d e (inside d (expr_formed (suc d - 1) e) t))
expr_tells (tree.To64 e) (suc d) t = expr_tells e d (down d e (inside d (expr_formed (suc d - 1) e) t))
expr_tells (tree.Star n) (suc d) t = (inside d (is_name n) t, tt)
expr_tells (tree.Op o a b) (suc d) t =
    let h = both_hold (expr_formed (suc d - 1) a) (expr_formed (suc d - 1) b)
    (inside d (expr_formed (suc d - 1) a && expr_formed (suc d - 1) b) t) in
    let k = expr_tells a d (down d a h.0) in
    let l = expr_tells b d (down d b h.1) in
    ((k.0, l.0), (k.1, l.1))
expr_tells e zero t = absurd (full e t)

expr_passes : (e : tree.Expr) (d : ℕ) → NamedExpr e → FitsExpr d e → expr_formed d e ≡ true
expr_passes (tree.Name n) zero named fits = absurd fits
expr_passes (tree.Name n) (suc d) named fits = room d (is_name n) named
expr_passes (tree.At n i) (suc d) named fits =
    room d (is_name n && expr_formed (suc d - 1) i)
    (and_passes (is_name n) (expr_formed (suc d - 1) i) named.0 (up d i (expr_passes i d named.1 fits)))
expr_passes (tree.Number n) (suc d) named fits = room d (number_fits n) (number_passes n fits)
expr_passes (tree.To32 e) (suc d) named fits = room d (expr_formed (suc d - 1) e) (up d e (expr_passes e d named fits))
expr_passes (tree.To64 e) (suc d) named fits = room d (expr_formed (suc d - 1) e) (up d e (expr_passes e d named fits))
expr_passes (tree.Star n) (suc d) named fits = room d (is_name n) named
expr_passes _ zero named fits = absurd fits
expr_passes (tree.Op o a b) (suc d) named fits =
    room d (expr_formed (suc d - 1) a && expr_formed (suc d - 1) b)
    (and_passes (expr_formed (suc d - 1) a) (expr_formed (suc d - 1) b) (up d a (expr_passes a d named.0 fits.0))
    (up d b (expr_passes b d named.1 fits.1)))

-- ---- arguments and calls

arg_tells : (d : ℕ) (a : tree.Arg) → arg_formed d a ≡ true → NamedArg a × FitsArg d a
arg_tells d (tree.Value e) t = expr_tells e d t
arg_tells d _ t = (t, tt)

arg_passes : (d : ℕ) (a : tree.Arg) → NamedArg a × FitsArg d a → arg_formed d a ≡ true
arg_passes d (tree.Value e) is = expr_passes e d is.0 is.1
arg_passes d _ is = is.0

callee_tells : (f : tree.Callee) → callee_formed f ≡ true → NamedCallee f × FitsCallee f
callee_tells (tree.Called n) t = (t, tt)
callee_tells (tree.Through ty n) t =
    let h = both_hold (is_name n) (nat_lt 0 (length ty.params)) t in (h.0, ltb-true 0 (length ty.params) h.1)

callee_passes : (f : tree.Callee) → NamedCallee f → FitsCallee f → callee_formed f ≡ true
callee_passes (tree.Called n) named fits = named
callee_passes (tree.Through ty n) named fits =
    and_passes (is_name n) (nat_lt 0 (length ty.params)) named (below_is_found 0 (length ty.params) fits)

-- a call whose names are names, and whose parts fit
abbrev IsCall : ℕ → tree.Callee → List tree.Arg → Type 0
IsCall d f args = (NamedCallee f × AllByRecursion NamedArg args) × (FitsCallee f × AllByRecursion (FitsArg d) args)

call_tells : (d : ℕ) (f : tree.Callee) (args : List tree.Arg) → call_formed d f args ≡ true → IsCall d f args
call_tells d f args t =
    let h = both_hold (callee_formed f) (list_all (arg_formed d) args) t in
    let k = callee_tells f h.0 in
    let l = all_tells (arg_formed d) (λ a. NamedArg a × FitsArg d a) (arg_tells d) args h.1 in
    ((k.0, firsts NamedArg (FitsArg d) args l), (k.1, seconds NamedArg (FitsArg d) args l))

call_passes : (d : ℕ) (f : tree.Callee) (args : List tree.Arg) → IsCall d f args → call_formed d f args ≡ true
call_passes d f args is =
    and_passes (callee_formed f) (list_all (arg_formed d) args) (callee_passes f is.0.0 is.1.0)
    (all_passes (arg_formed d) (λ a. NamedArg a × FitsArg d a) (arg_passes d) args (both NamedArg (FitsArg d) args is.0.1 is.1.1))

-- ---- statements

case_tells : (c : tree.Case) → case_formed c ≡ true → NamedCase c × FitsCase c
case_tells c t = let h = both_hold (number_fits c.0) (is_name c.1) t in (h.1, number_tells c.0 h.0)

case_passes : (c : tree.Case) → NamedCase c × FitsCase c → case_formed c ≡ true
case_passes c is = and_passes (number_fits c.0) (is_name c.1) (number_passes c.0 is.1) is.0

stmt_tells : (d : ℕ) (s : tree.Stmt) → stmt_formed d s ≡ true → NamedStmt s × FitsStmt d s
stmt_tells d tree.Null t = (tt, tt)
stmt_tells d (tree.Set n a) t = let h = both_hold (is_name n) (arg_formed d a) t in let k = arg_tells d a h.1 in ((h.0, k.0), k.1)
stmt_tells d (tree.SetStar n e) t = let h = both_hold (is_name n) (expr_formed d e) t in let k = expr_tells e d h.1 in ((h.0, k.0), k.1)
stmt_tells d (tree.Call None f args) t = let k = call_tells d f args t in ((tt, k.0.0, k.0.1), k.1)
stmt_tells d (tree.Call (Some n) f args) t =
    let h = both_hold (is_name n) (call_formed (d - 1) f args) t in
    let k = call_tells (d - 1) f args h.1 in
    ((h.0, k.0.0, k.0.1), k.1)
stmt_tells d (tree.If o a b n) t =
    let h = both_hold (is_name n) (expr_formed d a && expr_formed d b) t in
    let g = both_hold (expr_formed d a) (expr_formed d b) h.1 in
    let k = expr_tells a d g.0 in
    let l = expr_tells b d g.1 in
    ((k.0, l.0, h.0), (k.1, l.1))
stmt_tells d (tree.Switch e cases n) t =
    let h = both_hold (is_name n) (expr_formed d e && list_all case_formed cases) t in
    let g = both_hold (expr_formed d e) (list_all case_formed cases) h.1 in
    let k = expr_tells e d g.0 in
    let l = all_tells case_formed (λ c. NamedCase c × FitsCase c) case_tells cases g.1 in
    ((k.0, firsts NamedCase FitsCase cases l, h.0), (k.1, seconds NamedCase FitsCase cases l))
stmt_tells d tree.ReturnNone t = (tt, tt)
stmt_tells d (tree.Return a) t = arg_tells d a t
stmt_tells d _ t = (t, tt)

stmt_passes : (d : ℕ) (s : tree.Stmt) → NamedStmt s × FitsStmt d s → stmt_formed d s ≡ true
stmt_passes d tree.Null is = refl
stmt_passes d (tree.Set n a) is = and_passes (is_name n) (arg_formed d a) is.0.0 (arg_passes d a (is.0.1, is.1))
stmt_passes d (tree.SetStar n e) is = and_passes (is_name n) (expr_formed d e) is.0.0 (expr_passes e d is.0.1 is.1)
stmt_passes d (tree.Call None f args) is = call_passes d f args ((is.0.1, is.0.2), is.1)
stmt_passes d (tree.Call (Some n) f args) is =
    and_passes (is_name n) (call_formed (d - 1) f args) is.0.0 (call_passes (d - 1) f args ((is.0.1, is.0.2), is.1))
stmt_passes d (tree.If o a b n) is =
    and_passes (is_name n) (expr_formed d a && expr_formed d b) is.0.2
    (and_passes (expr_formed d a) (expr_formed d b) (expr_passes a d is.0.0 is.1.0) (expr_passes b d is.0.1 is.1.1))
stmt_passes d (tree.Switch e cases n) is =
    and_passes (is_name n) (expr_formed d e && list_all case_formed cases) is.0.2
    (and_passes (expr_formed d e) (list_all case_formed cases) (expr_passes e d is.0.0 is.1.0)
    (all_passes case_formed (λ c. NamedCase c × FitsCase c) case_passes cases (both NamedCase FitsCase cases is.0.1 is.1.1)))
stmt_passes d tree.ReturnNone is = refl
stmt_passes d (tree.Return a) is = arg_passes d a is
stmt_passes d _ is = is.0

-- ---- functions and items

local_tells : (l : tree.Local) → local_formed l ≡ true → NamedLocal l × FitsLocal l
local_tells l t = let h = both_hold (is_name l.1) (number_fits l.2) t in (h.0, number_tells l.2 h.1)

local_passes : (l : tree.Local) → NamedLocal l × FitsLocal l → local_formed l ≡ true
local_passes l is = and_passes (is_name l.1) (number_fits l.2) is.0 (number_passes l.2 is.1)

body_tells : (d : ℕ) (b : Option tree.Body) → body_formed d b ≡ true → NamedBody b × FitsBody d b
body_tells d None t = (tt, tt)
body_tells d (Some b) t =
    let h = both_hold (list_all local_formed b.locals) (list_all (stmt_formed d) b.stmts) t in
    let k = all_tells local_formed (λ l. NamedLocal l × FitsLocal l) local_tells b.locals h.0 in
    let l = all_tells (stmt_formed d) (λ s. NamedStmt s × FitsStmt d s) (stmt_tells d) b.stmts h.1 in (
      (firsts NamedLocal FitsLocal b.locals k, firsts NamedStmt (FitsStmt d) b.stmts l),
      (seconds NamedLocal FitsLocal b.locals k, seconds NamedStmt (FitsStmt d) b.stmts l),
    )

body_passes : (d : ℕ) (b : Option tree.Body) → NamedBody b → FitsBody d b → body_formed d b ≡ true
body_passes d None named fits = refl
body_passes d (Some b) named fits =
    and_passes (list_all local_formed b.locals) (list_all (stmt_formed d) b.stmts)
    (all_passes local_formed (λ l. NamedLocal l × FitsLocal l) local_passes b.locals (both NamedLocal FitsLocal b.locals named.0 fits.0))
    (all_passes (stmt_formed d) (λ s. NamedStmt s × FitsStmt d s) (stmt_passes d) b.stmts
    (both NamedStmt (FitsStmt d) b.stmts named.1 fits.1))

value_tells : (v : Option Num) → value_formed v ≡ true → FitsValue v
value_tells None t = tt
value_tells (Some n) t = number_tells n t

value_passes : (v : Option Num) → FitsValue v → value_formed v ≡ true
value_passes None fits = refl
value_passes (Some n) fits = number_passes n fits

small_tells : (b : ℕ) → nat_lt b 256 ≡ true → b < 256
small_tells b t = ltb-true b 256 t

small_passes : (b : ℕ) → b < 256 → nat_lt b 256 ≡ true
small_passes b small = below_is_found b 256 small

pub bytes_are : (bytes : List ℕ) → ((i : ℕ) → Fits w8 (get_or bytes i 0)) → list_all is_byte bytes ≡ true
bytes_are [] small = refl
bytes_are (b ∷ bytes) small =
    let first : Fits w8 b = small 0 in
    and_passes (is_byte b) (list_all is_byte bytes) (below_is_found b 256 (omega arith)) (bytes_are bytes (λ i. small (suc i)))

item_tells : (d : ℕ) (i : tree.Item) → item_formed d i ≡ true → NamedItem i × FitsItem d i
item_tells d (tree.Array n count bytes) t =
    let h = both_hold (is_name n) (nat_lt count (2 ^ 32) && bytes_formed bytes) t in
    let k = both_hold (nat_lt count (2 ^ 32)) (bytes_formed bytes) h.1 in
    let l = both_hold (nat_lt 0 (length bytes)) (list_all is_byte bytes) k.1 in
    (h.0, (ltb-true count (2 ^ 32) k.0, ltb-true 0 (length bytes) l.0, all_tells is_byte (λ b. b < 256) small_tells bytes l.1))
item_tells d (tree.Var ty n v) t = let h = both_hold (is_name n) (value_formed v) t in (h.0, value_tells v h.1)
item_tells d (tree.Function f) t =
    let h = both_hold (is_name f.name) (nat_lt 0 (length f.params) && (list_all param_formed f.params && body_formed d f.body)) t in
    let k = both_hold (nat_lt 0 (length f.params)) (list_all param_formed f.params && body_formed d f.body) h.1 in
    let l = both_hold (list_all param_formed f.params) (body_formed d f.body) k.1 in
    let body = body_tells d f.body l.1 in
    ((h.0, all_tells param_formed NamedParam (λ p. named_tells p.1) f.params l.0, body.0), (ltb-true 0 (length f.params) k.0, body.1))

item_passes : (d : ℕ) (i : tree.Item) → NamedItem i × FitsItem d i → item_formed d i ≡ true
item_passes d (tree.Array n count bytes) is =
    and_passes (is_name n) (nat_lt count (2 ^ 32) && bytes_formed bytes) is.0
    (and_passes (nat_lt count (2 ^ 32)) (bytes_formed bytes) (below_is_found count (2 ^ 32) is.1.0)
    (and_passes (nat_lt 0 (length bytes)) (list_all is_byte bytes) (below_is_found 0 (length bytes) is.1.1)
    (all_passes is_byte (λ b. b < 256) small_passes bytes is.1.2)))
item_passes d (tree.Var ty n v) is = and_passes (is_name n) (value_formed v) is.0 (value_passes v is.1)
item_passes d (tree.Function f) is =
    and_passes (is_name f.name) (nat_lt 0 (length f.params) && (list_all param_formed f.params && body_formed d f.body)) is.0.0
    (and_passes (nat_lt 0 (length f.params)) (list_all param_formed f.params && body_formed d f.body)
    (below_is_found 0 (length f.params) is.1.0)
    (and_passes (list_all param_formed f.params) (body_formed d f.body)
    (all_passes param_formed NamedParam (λ p. named_passes p.1) f.params is.0.1) (body_passes d f.body is.0.2 is.1.1)))

pub unit_tells : (u : List tree.Item) → list_all (item_formed depth_limit) u ≡ true → IsWellFormed u
unit_tells u t =
    let all = all_tells (item_formed depth_limit) (λ i. NamedItem i × FitsItem depth_limit i) (item_tells depth_limit) u t in
    record { named = firsts NamedItem (FitsItem depth_limit) u all; fits = seconds NamedItem (FitsItem depth_limit) u all }

pub unit_passes : (u : List tree.Item) → IsWellFormed u → list_all (item_formed depth_limit) u ≡ true
unit_passes u is =
    all_passes (item_formed depth_limit) (λ i. NamedItem i × FitsItem depth_limit i) (item_passes depth_limit) u
    (both NamedItem (FitsItem depth_limit) u is.named is.fits)
