-- The section of helpers keeps the rules in a module's unit.
use Rattle.unit_rules.proofs.Common.{by_test, found_name, ◌≡◌, ℕ, Bool, true, false, not, ◌&&◌, List, [], ◌∷◌, ◌++◌, map, if◌then◌else◌, ap}
use Rattle.unit_rules.proofs.Common.{◌==◌, Some, None, codes, filter, Option, bytes_eq, sym, refl, ◌∙◌, subst, append_assoc, arith, test_at}
use Rattle.unit_rules.proofs.Common.{not-true, AllByRecursion, list_all, list_any, both_hold, all_front, all_weaker, all_from, all_filtered}
use Rattle.unit_rules.proofs.Common.{named, NamedModule, BodyEntry, LoadOp, StoreOp, Module, are_distinct, cases_are_distinct, is_known, at}
use Rattle.unit_rules.proofs.Common.{is_runtime_name, label_is_free, labels_named, labels_of, stmt_is_typed, stmt_suits, stmt_uses, Name}
use Rattle.unit_rules.proofs.Common.{written_type_is_proper, primitives, Scope, is_among, local_variables, param_variables, helper_of}
use Rattle.unit_rules.proofs.Common.{calls_helper, helpers_of, any_in, Helper, NumOp, HELPERS, past_none, Passes, ends_well, funcs_in}
use Rattle.unit_rules.proofs.Common.{vars_in, class, helpers, AllPairs, all_images, or_parts}
use Rattle.c_tree.specs.declared.tree.CType.TheVariants as type
use Rattle.c_tree.specs.Tree as tree
use Rattle.wasm_tree.specs.declared.operators.LoadOp.TheVariants as load
use Rattle.wasm_tree.specs.declared.operators.StoreOp.TheVariants as store
use Rattle.c_helpers.specs.declared.operation.Helper.TheVariants as helper
use Rattle.c_helpers.specs.declared.operation.NumOp.TheVariants as num
use Rattle.unit_rules.proofs.Clashes.{NoRuntime, NotSame, pairs_mapped}
use Rattle.unit_rules.proofs.HelperRules.{Grows, passes_kept}
use Rattle.unit_rules.proofs.ItemRules.{IsFunction, KeepsBehind, func_tested, function_keeps, names_of_vars, own_of}
use Rattle.unit_rules.proofs.RuntimeNames.{not_named}

-- ---- tests that compute

abbrev passes_test : Scope → tree.Stmt → Bool
passes_test s stmt =
    label_is_free (at s stmt) && (written_type_is_proper (at s stmt) &&
    (list_all (λ name. is_among name (labels_of s.body.stmts)) (labels_named stmt)
    && (list_all (is_known s) (stmt_uses stmt) && (stmt_is_typed s stmt && (stmt_suits s stmt && cases_are_distinct (at s stmt))))))

passes_tested : (s : Scope) (stmt : tree.Stmt) → passes_test s stmt ≡ true → Passes s stmt
passes_tested s stmt e =
    let a = both_hold (label_is_free (at s stmt)) _ e in
    let b = both_hold (written_type_is_proper (at s stmt)) _ a.1 in
    let c = both_hold (list_all (λ name. is_among name (labels_of s.body.stmts)) (labels_named stmt)) _ b.1 in
    let d = both_hold (list_all (is_known s) (stmt_uses stmt)) _ c.1 in
    let f = both_hold (stmt_is_typed s stmt) _ d.1 in
    let g = both_hold (stmt_suits s stmt) (cases_are_distinct (at s stmt)) f.1 in
    record { free = a.0; written = b.0; there = c.0; known = d.0; typed = f.0; suits = g.0; cases = g.1 }

all_tested : (s : Scope) (stmts : List tree.Stmt) → list_all (passes_test s) stmts ≡ true → AllByRecursion (Passes s) stmts
all_tested s stmts e = all_from (Passes s) stmts (λ i x is. passes_tested s x (test_at (passes_test s) stmts i x e is))

abbrev alone : tree.Func → tree.Body → Scope
alone f b = record { declared = []; func = f; body = b }

abbrev func_test : tree.Func → tree.Body → Bool
func_test f b =
    func_tested f b && (list_all (passes_test (alone f b)) b.stmts && (are_distinct (labels_of b.stmts) && (ends_well b.stmts
    && list_all (λ n. class n == 9) (names_of_vars (own_of f b)))))

abbrev body_or : Option tree.Body → tree.Body
body_or None = record { locals = []; stmts = [] }
body_or (Some b) = b

abbrev helper_body : Helper → tree.Body
helper_body which = body_or (helper_of which).body

has_body : (which : Helper) → (helper_of which).body ≡ Some (helper_body which)
has_body (helper.Num o) = refl
has_body _ = refl

number_tested : (o : NumOp) → func_test (helper_of (helper.Num o)) (helper_body (helper.Num o)) ≡ true
number_tested num.I32DivS = refl
number_tested _ = refl

load_tested : (o : LoadOp) → func_test (helper_of (helper.Load o)) (helper_body (helper.Load o)) ≡ true
load_tested load.I32Load = refl
load_tested _ = refl

store_tested : (o : StoreOp) → func_test (helper_of (helper.Store o)) (helper_body (helper.Store o)) ≡ true
store_tested store.I32Store = refl
store_tested _ = refl

helper_tested : (which : Helper) → func_test (helper_of which) (helper_body which) ≡ true
helper_tested (helper.Num o) = number_tested o
helper_tested (helper.Load o) = load_tested o
helper_tested (helper.Store o) = store_tested o
helper_tested _ = refl

-- ---- helpers have names of their own

differ_all : {A : Type 0} (f : A → Name) (xs : List A) → are_distinct (map f xs) ≡ true → AllPairs (λ x y. bytes_eq (f x) (f y) ≡ false) xs
differ_all f [] e = tt
differ_all {A = A} f (x ∷ xs) e =
    let both = both_hold (not (is_among (f x) (map f xs))) _ e in (
      apart xs (not-true (is_among (f x) (map f xs)) both.0),
      differ_all f xs both.1,
    )
  where
    apart : (ys : List A) → is_among (f x) (map f ys) ≡ false → AllByRecursion (λ y. bytes_eq (f x) (f y) ≡ false) ys
    apart [] g = tt
    apart (y ∷ ys) g = let parts = or_parts (bytes_eq (f x) (f y)) _ g in (parts.0, apart ys parts.1)

pairs_kept : {A : Type 0} (R : A → A → Type 0) (test : A → Bool) (xs : List A) → AllPairs R xs → AllPairs R (filter test xs)
pairs_kept R test [] h = tt
pairs_kept R test (x ∷ xs) h = by (test x) (pairs_kept R test xs h.1)
  where
    by : (b : Bool) → AllPairs R (filter test xs) → AllPairs R (if b then x ∷ filter test xs else filter test xs)
    by true rest = (all_filtered (R x) test xs h.0, rest)
    by false rest = rest

-- ---- what a larger scope knows

grown : {A : Type 0} (q : Name) (xs more last : List (Name × A)) (t : A) → (named q last ≡ Some t → named q more ≡ None)
    → named q (xs ++ last) ≡ Some t → named q (xs ++ (more ++ last)) ≡ Some t
grown q [] more last t f e = past_none q more last (f e) ∙ e
grown q (x ∷ xs) more last t f e = by_test (bytes_eq x.0 q) (λ g. rw g (rw g at e)) (λ g. rw g (grown q xs more last t f (rw g at e)))

primitives_runtime : AllByRecursion (λ (v : Name × tree.FuncType). is_runtime_name v.0 ≡ true) primitives
primitives_runtime = all_from (λ (v : Name × tree.FuncType). is_runtime_name v.0 ≡ true) primitives (λ i v is.
    test_at (λ (v : Name × tree.FuncType). is_runtime_name v.0) primitives i v refl is)

grows : (f : tree.Func) (b : tree.Body) (declared : List tree.Item) → NoRuntime declared
    → Grows (alone f b) (record { declared = declared; func = f; body = b })
grows f b declared none = record {
  vars = λ q t e.
      ap (named q) (sym (append_assoc (param_variables f) (local_variables b) (vars_in declared ++ (codes "w2c_depth", type.U32) ∷ [])))
      ∙ grown q (param_variables f ++ local_variables b) (vars_in declared) ((codes "w2c_depth", type.U32) ∷ []) t
      (λ h. (not_named q declared (found_name (λ n. is_runtime_name n ≡ true) q ((codes "w2c_depth", type.U32) ∷ []) t
      (refl, tt) h) none).1)
      (ap (named q) (append_assoc (param_variables f) (local_variables b) ((codes "w2c_depth", type.U32) ∷ [])) ∙ e);
  funcs = λ q t e. past_none q (funcs_in declared) primitives
      (not_named q declared (found_name (λ n. is_runtime_name n ≡ true) q primitives t primitives_runtime e) none).0 ∙ e;
  no_items = refl;
  same_func = refl;
  same_body = refl;
}

-- a function that passes the tests alone
tested_is : (f : tree.Func) (b : tree.Body) (declared : List tree.Item) → NoRuntime declared → func_test f b ≡ true
    → IsFunction declared f b
tested_is f b declared none e =
    let t1 = both_hold (func_tested f b) _ e in
    let t2 = both_hold (list_all (passes_test (alone f b)) b.stmts) _ t1.1 in
    let t3 = both_hold (are_distinct (labels_of b.stmts)) _ t2.1 in
    let t4 = both_hold (ends_well b.stmts) (list_all (λ n. class n == 9) (names_of_vars (own_of f b))) t3.1 in
    record {
      tested = t1.0;
      own_class = all_from (λ n. class n ≡ 9) (names_of_vars (own_of f b)) (λ i n is.
          nine (class n) (test_at (λ n. class n == 9) (names_of_vars (own_of f b)) i n t4.1 is));
      passes = all_weaker (Passes (alone f b)) (Passes (record { declared = declared; func = f; body = b })) b.stmts
          (passes_kept (alone f b) (record { declared = declared; func = f; body = b }) (grows f b declared none))
          (all_tested (alone f b) b.stmts t2.0);
      labels = t3.0;
      ends = t4.0;
    }
  where
    nine : (k : ℕ) → k == 9 ≡ true → k ≡ 9
    nine k e = grind arith

-- ---- the section

pub helpers_pairs : (t : Module) → AllPairs NotSame (map (λ which. tree.Function (helper_of which)) (helpers_of t))
helpers_pairs t = pairs_mapped NotSame (λ which. tree.Function (helper_of which)) (helpers_of t)
    (pairs_kept (λ (x y : Helper). bytes_eq (helper_of x).name (helper_of y).name ≡ false)
    (λ which. list_any (λ (b : BodyEntry). any_in (calls_helper which) b.code) t.bodies) HELPERS
    (differ_all (λ (w : Helper). (helper_of w).name) HELPERS refl))

helper_keeps : (m : NamedModule) (which : Helper) → KeepsBehind m [] (tree.Function (helper_of which))
helper_keeps m which before behind = function_keeps m (helper_of which) (helper_body which) (has_body which) before behind (λ whole.
    let x = tree.Function (helper_of which) in
    tested_is (helper_of which) (helper_body which) (before ++ x ∷ []) (all_front _ (before ++ x ∷ []) behind
    (subst NoRuntime (sym (append_assoc before (x ∷ []) behind)) whole.no_runtime)) (helper_tested which))

pub helpers_keep : (m : NamedModule) → AllByRecursion (KeepsBehind m []) (helpers m)
helpers_keep m = all_images (KeepsBehind m []) (λ which. tree.Function (helper_of which)) (helpers_of m.tree) (helper_keeps m)
