-- The tokens of a unit are proper exactly where its names are names and its numbers are within their types.
use Rattle.c_tree.proofs.Common.{◌≡◌, ℕ, zero, suc, ◌-◌, ◌^◌, ◌<◌, ◌≤◌, Bool, true, false, List, [], ◌∷◌, ◌++◌, get_or, ◌==◌, Some, None}
use Rattle.c_tree.proofs.Common.{decimal, Option, refl, arith, nat_tests, decimal_digit, decimal_is_IsNumeral, first_decimal}
use Rattle.c_tree.proofs.Common.{digit_from_value, AllByRecursion, list_all, AllDigits, IsNumeral, always, FitsArg, FitsBody, FitsExpr}
use Rattle.c_tree.proofs.Common.{FitsItem, FitsNum, FitsStmt, FitsValue, are_digits, is_digit, Fixed, Named, Token, arg_tokens, call_tokens}
use Rattle.c_tree.proofs.Common.{callee_tokens, case_tokens, close_tokens, each, expr_tokens, goto_tokens, item_tokens, local_tokens}
use Rattle.c_tree.proofs.Common.{maybe_name, num_token, op_token, param_tokens, separated, static_tokens, stmt_tokens, type_tokens}
use Rattle.c_tree.proofs.Common.{unit_tokens, value_tokens, IsName, IsNamedIfAny, NamedArg, NamedBody, NamedCallee, NamedExpr, NamedItem}
use Rattle.c_tree.proofs.Common.{NamedStmt, COp, CType, Num, N32, N64, Plain}
use Rattle.c_tree.specs.declared.token.Tok.TheVariants as tok
use Rattle.c_tree.specs.declared.tree.CType.TheVariants as type
use Rattle.c_tree.specs.declared.tree.COp.TheVariants as op
use Rattle.c_tree.specs.Tree as tree
use Rattle.c_tree.proofs.Proper.{IsProper}

abbrev pub AllProper : List Token → Type 0
AllProper ts = AllByRecursion IsProper ts

-- ---- lists

join : (xs ys : List Token) → AllProper xs → AllProper ys → AllProper (xs ++ ys)
join [] ys a b = b
join (x ∷ xs) ys a b = (a.0, join xs ys a.1 b)

split : (xs ys : List Token) → AllProper (xs ++ ys) → AllProper xs × AllProper ys
split [] ys all = (tt, all)
split (x ∷ xs) ys all = let h = split xs ys all.1 in ((all.0, h.0), h.1)

pub both : {A : Type 0} (P Q : A → Type 0) (xs : List A) → AllByRecursion P xs → AllByRecursion Q xs → AllByRecursion (λ x. P x × Q x) xs
both P Q [] a b = tt
both P Q (x ∷ xs) a b = ((a.0, b.0), both P Q xs a.1 b.1)

each_proper : {A : Type 0} (f : A → List Token) (P : A → Type 0) → ((x : A) → P x → AllProper (f x)) → (xs : List A) → AllByRecursion P xs
    → AllProper (each f xs)
each_proper f P one [] all = tt
each_proper f P one (x ∷ xs) all = join (f x) (each f xs) (one x all.0) (each_proper f P one xs all.1)

pub each_of : {A : Type 0} (f : A → List Token) (P : A → Type 0) → ((x : A) → AllProper (f x) → P x) → (xs : List A) → AllProper (each f xs)
    → AllByRecursion P xs
each_of f P one [] all = tt
each_of f P one (x ∷ xs) all = let h = split (f x) (each f xs) all in (one x h.0, each_of f P one xs h.1)

separated_proper : {A : Type 0} (f : A → List Token) (P : A → Type 0) → ((x : A) → P x → AllProper (f x)) → (xs : List A)
    → AllByRecursion P xs → AllProper (separated f xs)
separated_proper f P one [] all = tt
separated_proper f P one (x ∷ xs) all =
    join (f x) (each (λ y. Fixed tok.Comma ∷ f y) xs) (one x all.0)
    (each_proper (λ y. Fixed tok.Comma ∷ f y) P (λ y p. (refl, one y p)) xs all.1)

separated_of : {A : Type 0} (f : A → List Token) (P : A → Type 0) → ((x : A) → AllProper (f x) → P x) → (xs : List A)
    → AllProper (separated f xs) → AllByRecursion P xs
separated_of f P one [] all = tt
separated_of f P one (x ∷ xs) all =
    let h = split (f x) (each (λ y. Fixed tok.Comma ∷ f y) xs) all in
    (one x h.0, each_of (λ y. Fixed tok.Comma ∷ f y) P (λ y p. one y p.1) xs h.1)

-- ---- numbers

digit_is : (d : ℕ) → 48 ≤ d → d ≤ 57 → is_digit d ≡ true
digit_is d low high = grind (arith, nat_tests)

digits_are : (ds : List ℕ) → AllDigits 10 ds → list_all is_digit ds ≡ true
digits_are [] all = refl
digits_are (d ∷ ds) all = let h = digit_from_value d all.0 in rw (digit_is d (omega arith) (omega arith), digits_are ds all.1) refl

not_zero_digit : (d : ℕ) → 48 < d → d == 48 ≡ false
not_zero_digit d more = grind (arith, nat_tests)

are_digits_of : (ds : List ℕ) → IsNumeral 10 ds → 48 < get_or ds 0 0 → are_digits ds ≡ true
are_digits_of [] is more = absurd (omega arith)
are_digits_of (d ∷ []) is more =
    let h = digits_are (d ∷ []) is.1 in let k = digit_from_value d is.1.0 in digit_is d (omega arith) (omega arith)
are_digits_of (d ∷ e ∷ ds) is more =
    let k = digit_from_value d is.1.0 in
    rw (digit_is d (omega arith) (omega arith), not_zero_digit d more) (digits_are (e ∷ ds) is.1.1)

pub decimal_digits : (n : ℕ) → n < 2 ^ 64 → are_digits (decimal n) ≡ true
decimal_digits zero small = rw (decimal_digit 0 (omega arith)) refl
decimal_digits (suc n) small =
    are_digits_of (decimal (suc n)) (decimal_is_IsNumeral (suc n) small).0 (first_decimal (suc n) (omega arith) small)

num_proper : (n : Num) → FitsNum n → IsProper (num_token n)
num_proper (N32 n) fits = decimal_digits n (omega arith)
num_proper (N64 n) fits = decimal_digits n fits
num_proper (Plain n) fits = decimal_digits n (omega arith)

-- ---- the tokens of a tree are proper

type_proper : (t : CType) → AllProper (type_tokens t)
type_proper type.PtrU32 = (refl, (refl, tt))
type_proper type.PtrU64 = (refl, (refl, tt))
type_proper type.PtrMem = (refl, (refl, tt))
type_proper type.PtrTab = (refl, (refl, tt))
type_proper _ = (refl, tt)

op_proper : (o : COp) → IsProper (op_token o)
op_proper op.Add = refl
op_proper _ = refl

expr_proper : (e : tree.Expr) (d : ℕ) → NamedExpr e → FitsExpr d e → AllProper (expr_tokens e)
expr_proper (tree.Name n) d named fits = (named, tt)
expr_proper (tree.At n i) zero named fits = absurd fits
expr_proper (tree.At n i) (suc d) named fits = (named.0, (refl, join (expr_tokens i) _ (expr_proper i d named.1 fits) (refl, tt)))
expr_proper (tree.Number n) (suc d) named fits = (num_proper n fits, tt)
expr_proper (tree.To32 e) (suc d) named fits = (refl, (refl, (refl, expr_proper e d named fits)))
expr_proper (tree.To64 e) (suc d) named fits = (refl, (refl, (refl, expr_proper e d named fits)))
expr_proper (tree.Star n) d named fits = (refl, (refl, (named, (refl, tt))))
expr_proper _ zero named fits = absurd fits
expr_proper (tree.Op o a b) (suc d) named fits = (
  refl,
  join (expr_tokens a) _ (expr_proper a d named.0 fits.0)
      (op_proper o, join (expr_tokens b) _ (expr_proper b d named.1 fits.1) (refl, tt)),
)

arg_proper : (d : ℕ) (a : tree.Arg) → NamedArg a × FitsArg d a → AllProper (arg_tokens a)
arg_proper d (tree.Value e) is = expr_proper e d is.0 is.1
arg_proper d (tree.Address n) is = (refl, (is.0, tt))
arg_proper d (tree.OfFunction n) is = (refl, (refl, (refl, (is.0, tt))))

types_proper : (ts : List CType) → AllProper (separated type_tokens ts)
types_proper ts = separated_proper type_tokens (λ t. Unit {0}) (λ t is. type_proper t) ts (always ts)

callee_proper : (f : tree.Callee) → NamedCallee f → AllProper (callee_tokens f)
callee_proper (tree.Called n) named = (named, tt)
callee_proper (tree.Through t n) named = (
  refl,
  (
    refl,
    (
      refl,
      join (type_tokens t.result) _ (type_proper t.result) (
        refl,
        (
          refl,
          (refl, (refl, join (separated type_tokens t.params) _ (types_proper t.params) (refl, (refl, (named, (refl, tt)))))),
        ),
      ),
    ),
  ),
)

call_proper : (d : ℕ) (f : tree.Callee) (args : List tree.Arg) → NamedCallee f → AllByRecursion NamedArg args
    → AllByRecursion (FitsArg d) args → AllProper (call_tokens f args)
call_proper d f args named all fits =
    join (callee_tokens f) _ (callee_proper f named) (
      refl,
      join (separated arg_tokens args) _
          (separated_proper arg_tokens (λ a. NamedArg a × FitsArg d a) (arg_proper d) args (both NamedArg (FitsArg d) args all fits))
          (refl, (refl, tt)),
    )

goto_proper : (n : List ℕ) → IsName n → AllProper (goto_tokens n)
goto_proper n named = (refl, (named, (refl, tt)))

abbrev pub NamedCase : tree.Case → Type 0
NamedCase c = IsName c.1

abbrev pub FitsCase : tree.Case → Type 0
FitsCase c = FitsNum c.0

case_proper : (c : tree.Case) → NamedCase c × FitsCase c → AllProper (case_tokens c)
case_proper c is = (refl, (num_proper c.0 is.1, (refl, goto_proper c.1 is.0)))

stmt_proper : (d : ℕ) (s : tree.Stmt) → NamedStmt s × FitsStmt d s → AllProper (stmt_tokens s)
stmt_proper d (tree.Label n) is = (is.0, (refl, tt))
stmt_proper d tree.Null is = (refl, tt)
stmt_proper d (tree.Set n a) is = (is.0.0, (refl, join (arg_tokens a) _ (arg_proper d a (is.0.1, is.1)) (refl, tt)))
stmt_proper d (tree.SetStar n e) is = (refl, (is.0.0, (refl, join (expr_tokens e) _ (expr_proper e d is.0.1 is.1) (refl, tt))))
stmt_proper d (tree.Call None f args) is = call_proper d f args is.0.1 is.0.2 is.1.1
stmt_proper d (tree.Call (Some n) f args) is = (is.0.0, (refl, call_proper (d - 1) f args is.0.1 is.0.2 is.1.1))
stmt_proper d (tree.Goto n) is = goto_proper n is.0
stmt_proper d (tree.If o a b n) is = (
  refl,
  (
    refl,
    join (expr_tokens a) _ (expr_proper a d is.0.0 is.1.0)
        (op_proper o, join (expr_tokens b) _ (expr_proper b d is.0.1 is.1.1) (refl, goto_proper n is.0.2)),
  ),
)
stmt_proper d (tree.Switch e cases n) is = (
  refl,
  (
    refl,
    join (expr_tokens e) _ (expr_proper e d is.0.0 is.1.0) (
      refl,
      (
        refl,
        join (each case_tokens cases) _
            (each_proper case_tokens (λ c. NamedCase c × FitsCase c) case_proper cases (both NamedCase FitsCase cases is.0.1 is.1.1))
            (refl, (refl, (refl, (is.0.2, (refl, (refl, tt)))))),
      ),
    ),
  ),
)
stmt_proper d tree.ReturnNone is = (refl, (refl, tt))
stmt_proper d (tree.Return a) is = (refl, join (arg_tokens a) _ (arg_proper d a is) (refl, tt))

abbrev pub NamedLocal : tree.Local → Type 0
NamedLocal l = IsName l.1

abbrev pub FitsLocal : tree.Local → Type 0
FitsLocal l = FitsNum l.2

local_proper : (l : tree.Local) → NamedLocal l × FitsLocal l → AllProper (local_tokens l)
local_proper l is = join (type_tokens l.0) _ (type_proper l.0) (is.0, (refl, (num_proper l.2 is.1, (refl, tt))))

close_proper : (d : ℕ) (b : Option tree.Body) → NamedBody b → FitsBody d b → AllProper (close_tokens b)
close_proper d None named fits = (refl, tt)
close_proper d (Some b) named fits = (
  refl,
  join (each local_tokens b.locals) _ (each_proper local_tokens (λ l. NamedLocal l × FitsLocal l) local_proper b.locals
      (both NamedLocal FitsLocal b.locals named.0 fits.0))
      (join (each stmt_tokens b.stmts) _ (each_proper stmt_tokens (λ s. NamedStmt s × FitsStmt d s) (stmt_proper d) b.stmts
      (both NamedStmt (FitsStmt d) b.stmts named.1 fits.1)) (refl, tt)),
)

abbrev pub NamedParam : tree.Param → Type 0
NamedParam p = IsNamedIfAny p.1

maybe_name_proper : (n : Option (List ℕ)) → IsNamedIfAny n → AllProper (maybe_name n)
maybe_name_proper None named = tt
maybe_name_proper (Some n) named = (named, tt)

param_proper : (p : tree.Param) → NamedParam p → AllProper (param_tokens p)
param_proper p named = join (type_tokens p.0) (maybe_name p.1) (type_proper p.0) (maybe_name_proper p.1 named)

static_proper : (b : Bool) → AllProper (static_tokens b)
static_proper true = (refl, tt)
static_proper false = tt

value_proper : (v : Option Num) → FitsValue v → AllProper (value_tokens v)
value_proper None fits = (refl, tt)
value_proper (Some n) fits = (refl, (num_proper n fits, (refl, tt)))

byte_proper : (b : ℕ) → b < 256 → AllProper (num_token (Plain b) ∷ [])
byte_proper b small = (decimal_digits b (omega arith), tt)

item_proper : (d : ℕ) (i : tree.Item) → NamedItem i × FitsItem d i → AllProper (item_tokens i)
item_proper d (tree.Array n count bytes) is = (
  refl,
  (
    refl,
    (
      refl,
      (
        is.0,
        (
          refl,
          (
            decimal_digits count (omega (arith, is.1.0)),
            (
              refl,
              (
                refl,
                (
                  refl,
                  join (separated (λ b. num_token (Plain b) ∷ []) bytes) _
                      (separated_proper (λ b. num_token (Plain b) ∷ []) (λ b. b < 256) byte_proper bytes is.1.2) (refl, (refl, tt)),
                ),
              ),
            ),
          ),
        ),
      ),
    ),
  ),
)
item_proper d (tree.Var t n v) is = (refl, join (type_tokens t) _ (type_proper t) (is.0, value_proper v is.1))
item_proper d (tree.Function f) is =
    join (static_tokens f.is_static) _ (static_proper f.is_static) (join (type_tokens f.result) _ (type_proper f.result) (
      is.0.0,
      (
        refl,
        join (separated param_tokens f.params) _ (separated_proper param_tokens NamedParam param_proper f.params is.0.1)
            (refl, close_proper d f.body is.0.2 is.1.1),
      ),
    ))

pub unit_proper : (d : ℕ) (u : List tree.Item) → AllByRecursion NamedItem u → AllByRecursion (FitsItem d) u → AllProper (unit_tokens u)
unit_proper d u named fits =
    (refl, each_proper item_tokens (λ i. NamedItem i × FitsItem d i) (item_proper d) u (both NamedItem (FitsItem d) u named fits))

-- ---- where the tokens of a tree are proper, its names are names

expr_named : (e : tree.Expr) → AllProper (expr_tokens e) → NamedExpr e
expr_named (tree.Name n) all = all.0
expr_named (tree.At n i) all = (all.0, expr_named i (split (expr_tokens i) _ all.1.1).0)
expr_named (tree.Number n) all = tt
expr_named (tree.To32 e) all = expr_named e all.1.1.1
expr_named (tree.To64 e) all = expr_named e all.1.1.1
expr_named (tree.Star n) all = all.1.1.0
expr_named (tree.Op o a b) all =
    let h = split (expr_tokens a) (op_token o ∷ (expr_tokens b ++ Fixed tok.RightParen ∷ [])) all.1 in
    (expr_named a h.0, expr_named b (split (expr_tokens b) (Fixed tok.RightParen ∷ []) h.1.1).0)

arg_named : (a : tree.Arg) → AllProper (arg_tokens a) → NamedArg a
arg_named (tree.Value e) all = expr_named e all
arg_named (tree.Address n) all = all.1.0
arg_named (tree.OfFunction n) all = all.1.1.1.0

callee_named : (f : tree.Callee) → AllProper (callee_tokens f) → NamedCallee f
callee_named (tree.Called n) all = all.0
callee_named (tree.Through t n) all =
    let h = split (type_tokens t.result)
    (Fixed tok.LeftParen ∷ Fixed tok.Star ∷ Fixed tok.RightParen ∷ Fixed tok.LeftParen
    ∷ (separated type_tokens t.params ++ Fixed tok.RightParen ∷ Fixed tok.RightParen ∷ Named n ∷ Fixed tok.RightParen
    ∷ [])) all.1.1.1 in
    (split (separated type_tokens t.params)
    (Fixed tok.RightParen ∷ Fixed tok.RightParen ∷ Named n ∷ Fixed tok.RightParen ∷ []) h.1.1.1.1.1).1.1.1.0

call_named : (f : tree.Callee) (args : List tree.Arg) → AllProper (call_tokens f args) → NamedCallee f × AllByRecursion NamedArg args
call_named f args all =
    let h = split (callee_tokens f) (Fixed tok.LeftParen ∷ (separated arg_tokens args ++ Fixed tok.RightParen ∷ Fixed tok.Semicolon ∷ []))
    all in (
      callee_named f h.0,
      separated_of arg_tokens NamedArg arg_named args
          (split (separated arg_tokens args) (Fixed tok.RightParen ∷ Fixed tok.Semicolon ∷ []) h.1.1).0,
    )

stmt_named : (s : tree.Stmt) → AllProper (stmt_tokens s) → NamedStmt s
stmt_named (tree.Label n) all = all.0
stmt_named (tree.Set n a) all = (all.0, arg_named a (split (arg_tokens a) _ all.1.1).0)
stmt_named (tree.SetStar n e) all = (all.1.0, expr_named e (split (expr_tokens e) _ all.1.1.1).0)
stmt_named (tree.Call None f args) all = let h = call_named f args all in (tt, h.0, h.1)
stmt_named (tree.Call (Some n) f args) all = let h = call_named f args all.1.1 in (all.0, h.0, h.1)
stmt_named (tree.Goto n) all = all.1.0
stmt_named (tree.If o a b n) all =
    let h = split (expr_tokens a) (op_token o ∷ (expr_tokens b ++ Fixed tok.RightParen ∷ goto_tokens n)) all.1.1 in
    let k = split (expr_tokens b) (Fixed tok.RightParen ∷ goto_tokens n) h.1.1 in
    (expr_named a h.0, expr_named b k.0, k.1.1.1.0)
stmt_named (tree.Switch e cases n) all =
    let after : List Token = Fixed tok.WordDefault ∷ Fixed tok.Colon ∷ (goto_tokens n ++ Fixed tok.RightBrace ∷ []) in
    let h = split (expr_tokens e) (Fixed tok.RightParen ∷ Fixed tok.LeftBrace ∷ (each case_tokens cases ++ after)) all.1.1 in
    let k = split (each case_tokens cases) after h.1.1.1 in
    (expr_named e h.0, each_of case_tokens NamedCase (λ c p. p.1.1.1.1.0) cases k.0, k.1.1.1.1.0)
stmt_named (tree.Return a) all = arg_named a (split (arg_tokens a) _ all.1).0
stmt_named _ all = tt

local_named : (l : tree.Local) → AllProper (local_tokens l) → NamedLocal l
local_named l all = (split (type_tokens l.0) (Named l.1 ∷ Fixed tok.Assign ∷ num_token l.2 ∷ Fixed tok.Semicolon ∷ []) all).1.0

body_named : (b : Option tree.Body) → AllProper (close_tokens b) → NamedBody b
body_named None all = tt
body_named (Some b) all =
    let h = split (each local_tokens b.locals) (each stmt_tokens b.stmts ++ Fixed tok.RightBrace ∷ []) all.1 in (
      each_of local_tokens NamedLocal local_named b.locals h.0,
      each_of stmt_tokens NamedStmt stmt_named b.stmts (split (each stmt_tokens b.stmts) (Fixed tok.RightBrace ∷ []) h.1).0,
    )

named_if_any : (n : Option (List ℕ)) → AllProper (maybe_name n) → IsNamedIfAny n
named_if_any None all = tt
named_if_any (Some n) all = all.0

param_named : (p : tree.Param) → AllProper (param_tokens p) → NamedParam p
param_named p all = named_if_any p.1 (split (type_tokens p.0) (maybe_name p.1) all).1

item_named : (i : tree.Item) → AllProper (item_tokens i) → NamedItem i
item_named (tree.Array n count bytes) all = all.1.1.1.0
item_named (tree.Var t n v) all = (split (type_tokens t) (Named n ∷ value_tokens v) all.1).1.0
item_named (tree.Function f) all =
    let params : List Token = separated param_tokens f.params ++ (Fixed tok.RightParen ∷ close_tokens f.body) in
    let h = split (static_tokens f.is_static) (type_tokens f.result ++ (Named f.name ∷ Fixed tok.LeftParen ∷ params)) all in
    let k = split (type_tokens f.result) (Named f.name ∷ Fixed tok.LeftParen ∷ params) h.1 in
    let l = split (separated param_tokens f.params) (Fixed tok.RightParen ∷ close_tokens f.body) k.1.1.1 in
    (k.1.0, separated_of param_tokens NamedParam param_named f.params l.0, body_named f.body l.1.1)

pub unit_named : (u : List tree.Item) → AllProper (unit_tokens u) → AllByRecursion NamedItem u
unit_named u all = each_of item_tokens NamedItem item_named u all.1
