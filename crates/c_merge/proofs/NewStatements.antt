-- A statement of the one unit keeps the rules that it kept in its own unit.
use Rattle.c_merge.proofs.Common.{◌≡◌, ℕ, ◌-◌, Bool, true, false, not, ◌&&◌, ◌||◌, List, [], ◌∷◌, ◌++◌, map, length, take, is_some, ◌==◌}
use Rattle.c_merge.proofs.Common.{slice_get, Some, None, codes, Option, option_map, flat_map, bytes_eq, sym, refl, ap, ◌∙◌, and_parts, Use}
use Rattle.c_merge.proofs.Common.{false≢true, length-map, map-append, bytes_eq-Decides, list_all, all_parts, if_found, named, AsArray, Name}
use Rattle.c_merge.proofs.Common.{AsFunction, AsVariable, arg_has_type, arg_suits, arg_uses, args_suit, call_suits, callee_type, case_value}
use Rattle.c_merge.proofs.Common.{callee_uses, cases_are_distinct, cases_suit, ends_body, expr_uses, has_same_type, if_any, is_known, Scope}
use Rattle.c_merge.proofs.Common.{is_void, label_is_free, label_of, labels_are_there, labels_named, labels_of, last_ends_body, number_suits}
use Rattle.c_merge.proofs.Common.{may_be_assigned, may_be_called, proper_types, stmt_is_typed, stmt_rules, stmt_suits, stmt_uses, same_type}
use Rattle.c_merge.proofs.Common.{target_suits, target_uses, written_type_is_proper, common_type, file_functions, functions, is_among, Each}
use Rattle.c_merge.proofs.Common.{is_comparison, is_number_type, is_object_type, pointed_by, type_of, typing_of, value_type, variables}
use Rattle.c_merge.proofs.Common.{CType, Program, by_option, merging_names, is_outside, name_in, Renaming, may_name, merge_names, arith}
use Rattle.c_tree.specs.declared.tree.CType.TheVariants as type
use Rattle.c_tree.specs.Tree as tree
use Rattle.c_renaming.specs.Renamed as renamed
use Rattle.c_renaming.proofs.NewNames.{new_names}
use Rattle.c_merge.proofs.Together.{FitTogether}
use Rattle.c_merge.proofs.NewNames.{new, new_var, outside_stays, among_map}
use Rattle.c_merge.proofs.NewScope.{old, now, variables_same, file_variables_same, arrays_same, function_same, file_functions_there}
use Rattle.c_merge.proofs.NewScope.{typing_same}
use Rattle.c_merge.proofs.Places.{Before}
use Rattle.c_merge.proofs.Rules.{Keeps}
use Rattle.std.proofs.lemmas.List.{take-map}

-- ---- lists

pub all_map : {A B : Type 0} (f : A → B) (test : B → Bool) (test' : A → Bool) → ((a : A) → test (f a) ≡ test' a) → (xs : List A)
    → list_all test (map f xs) ≡ list_all test' xs
all_map f test test' same [] = refl
all_map f test test' same (x ∷ xs) = λ i. same x i && all_map f test test' same xs i

pub all_gives : {A B : Type 0} (f : A → B) (test : B → Bool) (test' : A → Bool) → ((a : A) → test' a ≡ true → test (f a) ≡ true)
    → (xs : List A) → list_all test' xs ≡ true
    → list_all test (map f xs) ≡ true
all_gives f test test' gives [] all = refl
all_gives f test test' gives (x ∷ xs) all =
    let both = and_parts (test' x) (list_all test' xs) all in
    (λ i. gives x both.0 i && all_gives f test test' gives xs both.1 i)

if_any_map : {A B : Type 0} (f : A → B) (test : B → Bool) (test' : A → Bool) → ((a : A) → test (f a) ≡ test' a) → (o : Option A)
    → if_any (option_map f o) test ≡ if_any o test'
if_any_map f test test' same None = refl
if_any_map f test test' same (Some a) = same a

pub or_gives : (a b c : Bool) → (a || b) ≡ true → (b ≡ true → c ≡ true) → (a || c) ≡ true
or_gives true b c e gives = refl
or_gives false b c e gives = gives e

behind_known : (known rule : Bool) → known ≡ true → (not known || rule) ≡ true → rule ≡ true
behind_known known rule is e = sym (ap (λ b. not b || rule) is) ∙ e

module _ (p : Program) (are : FitTogether p.units) (u : ℕ) (items : List tree.Item) (at_u : slice_get p.units u ≡ Some items)
    (n0 : ℕ) (f : tree.Func) (b : tree.Body) (others : List tree.Item) (front : Each (Before p u) others) where
  abbrev ρ : Renaming
  ρ = merge_names p

  abbrev s : Scope
  s = old p are u items at_u n0 f b others front

  abbrev s' : Scope
  s' = now p are u items at_u n0 f b others front

  labels_keep : (m n : Name) → bytes_eq (name_in u m) (name_in u n) ≡ bytes_eq m n
  labels_keep = (merging_names name_in new_names p is_outside (may_name p)).labels u

  vars_same : (n : Name) → named (new_var u n) (variables s') ≡ named n (variables s)
  vars_same = variables_same p are u items at_u n0 f b others front

  types_same : (e : tree.Expr) → typing_of s' (renamed.expr ρ u e) ≡ typing_of s e
  types_same = typing_same p are u items at_u n0 f b others front

  type_same : (e : tree.Expr) → type_of s' (renamed.expr ρ u e) ≡ type_of s e
  type_same e = ap value_type (types_same e)

  -- ---- rules 2, 3 and 12

  label_free : (number : ℕ) (stmt : tree.Stmt)
      → label_is_free (record { scope = s'; number = number; stmt = renamed.stmt ρ u stmt }) ≡ true
  label_free number (tree.Label n) = refl
  label_free number _ = refl

  written_same : (number : ℕ) (stmt : tree.Stmt)
      → written_type_is_proper (record { scope = s'; number = number; stmt = renamed.stmt ρ u stmt })
      ≡ written_type_is_proper (record { scope = s; number = number; stmt = stmt })
  written_same number (tree.Call target (tree.Called n) args) = refl
  written_same number (tree.Call target (tree.Through t n) args) = refl
  written_same number _ = refl

  ends : (stmt : tree.Stmt) → ends_body stmt ≡ true → ends_body (renamed.stmt ρ u stmt) ≡ true
  ends (tree.Call target (tree.Called n) args) is =
      let same : n ≡ codes "w2c_trap" = (bytes_eq-Decides n (codes "w2c_trap")).0 is in
      ap (λ x. bytes_eq x (codes "w2c_trap")) (outside_stays u n (ap is_outside same)) ∙ is
  ends (tree.Goto n) is = refl
  ends (tree.Switch e cases n) is = refl
  ends tree.ReturnNone is = refl
  ends (tree.Return a) is = refl
  ends _ is = is

  last_ends : (number : ℕ) (stmt : tree.Stmt) → last_ends_body (record { scope = s; number = number; stmt = stmt }) ≡ true
      → last_ends_body (record { scope = s'; number = number; stmt = renamed.stmt ρ u stmt }) ≡ true
  last_ends number stmt is =
      ap (λ k. not (number == k) || ends_body (renamed.stmt ρ u stmt)) (length-map b.stmts (renamed.stmt ρ u))
      ∙ or_gives (not (number == length b.stmts)) (ends_body stmt) (ends_body (renamed.stmt ρ u stmt)) is (ends stmt)

  -- ---- rule 7

  label_new : (stmt : tree.Stmt) → label_of (renamed.stmt ρ u stmt) ≡ option_map (name_in u) (label_of stmt)
  label_new (tree.Label n) = refl
  label_new _ = refl

  labels_new : (stmts : List tree.Stmt) → labels_of (map (renamed.stmt ρ u) stmts) ≡ map (name_in u) (labels_of stmts)
  labels_new [] = refl
  labels_new (tree.Label n ∷ stmts) = ap (λ l. name_in u n ∷ l) (labels_new stmts)
  labels_new (_ ∷ stmts) = labels_new stmts

  cases_new : (cases : List tree.Case)
      → map (λ (c : tree.Case). c.1) (map (renamed.case ρ u) cases) ≡ map (name_in u) (map (λ (c : tree.Case). c.1) cases)
  cases_new [] = refl
  cases_new (c ∷ cases) = ap (λ l. name_in u c.1 ∷ l) (cases_new cases)

  named_new : (stmt : tree.Stmt) → labels_named (renamed.stmt ρ u stmt) ≡ map (name_in u) (labels_named stmt)
  named_new (tree.Switch e cases n) =
      ap (λ l. l ++ name_in u n ∷ []) (cases_new cases) ∙ sym (map-append (name_in u) (map (λ (c : tree.Case). c.1) cases) (n ∷ []))
  named_new _ = refl

  labels_same : (number : ℕ) (stmt : tree.Stmt)
      → labels_are_there (record { scope = s'; number = number; stmt = renamed.stmt ρ u stmt })
      ≡ labels_are_there (record { scope = s; number = number; stmt = stmt })
  labels_same number stmt = λ i. own i && there i
    where
      earlier : labels_of (take (number - 1) (map (renamed.stmt ρ u) b.stmts)) ≡ map (name_in u) (labels_of (take (number - 1) b.stmts))
      earlier = ap labels_of (take-map (renamed.stmt ρ u) (number - 1) b.stmts) ∙ labels_new (take (number - 1) b.stmts)

      own : if_any (label_of (renamed.stmt ρ u stmt))
          (λ name. not (is_among name (labels_of (take (number - 1) (map (renamed.stmt ρ u) b.stmts)))))
          ≡ if_any (label_of stmt) (λ name. not (is_among name (labels_of (take (number - 1) b.stmts))))
      own = (λ i. if_any (label_new stmt i) (λ name. not (is_among name (earlier i))))
          ∙ if_any_map (name_in u) (λ name. not (is_among name (map (name_in u) (labels_of (take (number - 1) b.stmts)))))
          (λ name. not (is_among name (labels_of (take (number - 1) b.stmts))))
          (λ n. ap not (among_map (name_in u) labels_keep n (labels_of (take (number - 1) b.stmts)))) (label_of stmt)

      there : list_all (λ name. is_among name (labels_of (map (renamed.stmt ρ u) b.stmts))) (labels_named (renamed.stmt ρ u stmt))
          ≡ list_all (λ name. is_among name (labels_of b.stmts)) (labels_named stmt)
      there = (λ i. list_all (λ name. is_among name (labels_new b.stmts i)) (named_new stmt i))
          ∙ all_map (name_in u) (λ name. is_among name (map (name_in u) (labels_of b.stmts))) (λ name. is_among name (labels_of b.stmts))
          (λ n. among_map (name_in u) labels_keep n (labels_of b.stmts)) (labels_named stmt)

  -- ---- rule 8

  abbrev new_use : Use → Use
  new_use (AsVariable n) = AsVariable (new_var u n)
  new_use (AsArray n) = AsArray (new_var u n)
  new_use (AsFunction n) = AsFunction (new u n)

  expr_new : (e : tree.Expr) → expr_uses (renamed.expr ρ u e) ≡ map new_use (expr_uses e)
  expr_new (tree.At n i) = ap (λ l. AsArray (new_var u n) ∷ l) (expr_new i)
  expr_new (tree.To32 e) = expr_new e
  expr_new (tree.To64 e) = expr_new e
  expr_new (tree.Op o x y) = (λ i. expr_new x i ++ expr_new y i) ∙ sym (map-append new_use (expr_uses x) (expr_uses y))
  expr_new _ = refl

  arg_new : (a : tree.Arg) → arg_uses (renamed.arg ρ u a) ≡ map new_use (arg_uses a)
  arg_new (tree.Value e) = expr_new e
  arg_new _ = refl

  args_new : (args : List tree.Arg) → flat_map arg_uses (map (renamed.arg ρ u) args) ≡ map new_use (flat_map arg_uses args)
  args_new [] = refl
  args_new (a ∷ args) = (λ i. arg_new a i ++ args_new args i) ∙ sym (map-append new_use (arg_uses a) (flat_map arg_uses args))

  callee_new : (c : tree.Callee) → callee_uses (renamed.callee ρ u c) ≡ map new_use (callee_uses c)
  callee_new (tree.Called n) = refl
  callee_new (tree.Through t n) = refl

  target_new : (target : Option Name) → target_uses (option_map (new_var u) target) ≡ map new_use (target_uses target)
  target_new None = refl
  target_new (Some n) = refl

  stmt_new_uses : (stmt : tree.Stmt) → stmt_uses (renamed.stmt ρ u stmt) ≡ map new_use (stmt_uses stmt)
  stmt_new_uses (tree.Set n a) = ap (λ l. AsVariable (new_var u n) ∷ l) (arg_new a)
  stmt_new_uses (tree.SetStar n e) = ap (λ l. AsVariable (new_var u n) ∷ l) (expr_new e)
  stmt_new_uses (tree.Call target c args) =
      (λ i. target_new target i ++ (callee_new c i ++ args_new args i))
      ∙ ap (λ l. map new_use (target_uses target) ++ l) (sym (map-append new_use (callee_uses c) (flat_map arg_uses args)))
      ∙ sym (map-append new_use (target_uses target) (callee_uses c ++ flat_map arg_uses args))
  stmt_new_uses (tree.If o x y n) = (λ i. expr_new x i ++ expr_new y i) ∙ sym (map-append new_use (expr_uses x) (expr_uses y))
  stmt_new_uses (tree.Switch e cases n) = expr_new e
  stmt_new_uses (tree.Return a) = arg_new a
  stmt_new_uses _ = refl

  known_new : (x : Use) → is_known s x ≡ true → is_known s' (new_use x) ≡ true
  known_new (AsVariable n) is = ap is_some (vars_same n) ∙ is
  known_new (AsArray n) is = arrays_same p are u items at_u n0 f b others front n ∙ is
  known_new (AsFunction n) is = by_option (named n (functions s))
      (λ none. absurd (false≢true (sym (ap is_some none) ∙ is)))
      (λ t there. ap is_some (function_same p are u items at_u n0 f b others front n t there))

  names_known : (stmt : tree.Stmt) → list_all (is_known s) (stmt_uses stmt) ≡ true
      → list_all (is_known s') (stmt_uses (renamed.stmt ρ u stmt)) ≡ true
  names_known stmt is = ap (list_all (is_known s')) (stmt_new_uses stmt)
      ∙ all_gives new_use (is_known s') (is_known s) known_new (stmt_uses stmt) is

  -- ---- rule 9

  arg_typed : (a : tree.Arg) → arg_has_type s' (renamed.arg ρ u a) ≡ arg_has_type s a
  arg_typed (tree.Value e) = ap is_some (type_same e)
  arg_typed _ = refl

  assigned_same : (n : Name) → may_be_assigned s' (new_var u n) ≡ may_be_assigned s n
  assigned_same n = ap (λ o. if_any o (λ t. not (is_object_type t))) (vars_same n)

  called_same : (c : tree.Callee) → may_be_called s' (renamed.callee ρ u c) ≡ may_be_called s c
  called_same (tree.Called n) = refl
  called_same (tree.Through t n) = ap (λ o. if_any o (λ t. same_type t type.FnPtr)) (vars_same n)

  typed_same : (stmt : tree.Stmt) → stmt_is_typed s' (renamed.stmt ρ u stmt) ≡ stmt_is_typed s stmt
  typed_same (tree.Set n a) = λ i. assigned_same n i && arg_typed a i
  typed_same (tree.SetStar n e) = λ i. is_some (if_found (vars_same n i) pointed_by) && is_some (type_same e i)
  typed_same (tree.Call target c args) =
      λ i. (if_any_map (new_var u) (may_be_assigned s') (may_be_assigned s) assigned_same target i && called_same c i)
      && all_map (renamed.arg ρ u) (arg_has_type s') (arg_has_type s) arg_typed args i
  typed_same (tree.If o x y n) = λ i. is_comparison o && is_some (common_type (types_same x i) (types_same y i))
  typed_same (tree.Switch e cases n) = ap is_some (type_same e)
  typed_same (tree.Return a) = arg_typed a
  typed_same _ = refl

  -- ---- rule 10

  arg_fits : (t : CType) (a : tree.Arg) → arg_suits s t a ≡ true → arg_suits s' t (renamed.arg ρ u a) ≡ true
  arg_fits t (tree.Value e) is = ap (λ o. has_same_type o t) (type_same e) ∙ is
  arg_fits t (tree.Address n) is = rw (file_variables_same p are u items at_u n0 f b others front n, arg_suits) is
  arg_fits t (tree.OfFunction n) is =
      let both = and_parts (is_some (named n (file_functions s))) (same_type t type.FnPtr) is in
      λ i. file_functions_there p are u items at_u n0 f b others front n both.0 i && both.1 i

  args_fit : (types : List CType) (args : List tree.Arg) → args_suit s types args ≡ true
      → args_suit s' types (map (renamed.arg ρ u) args) ≡ true
  args_fit [] [] is = refl
  args_fit (t ∷ types) (a ∷ args) is =
      let both = and_parts (arg_suits s t a) (args_suit s types args) is in
      λ i. arg_fits t a both.0 i && args_fit types args both.1 i
  args_fit _ _ is = is

  target_same : (result : CType) (target : Option Name)
      → target_suits s' result (option_map (new_var u) target) ≡ target_suits s result target
  target_same result None = refl
  target_same result (Some n) = ap (λ o. not (is_void result) && has_same_type o result) (vars_same n)

  call_fits : (target : Option Name) (args : List tree.Arg) (t : tree.FuncType) → call_suits s target args t ≡ true
      → call_suits s' (option_map (new_var u) target) (map (renamed.arg ρ u) args) t ≡ true
  call_fits target args t is =
      let both = and_parts (args_suit s (proper_types t.params) args) (target_suits s t.result target) is in
      λ i. args_fit (proper_types t.params) args both.0 i && (target_same t.result target ∙ both.1) i

  callee_fits : (target : Option Name) (c : tree.Callee) (args : List tree.Arg) → list_all (is_known s) (callee_uses c) ≡ true
      → if_any (callee_type s c) (call_suits s target args) ≡ true
      → if_any (callee_type s' (renamed.callee ρ u c)) (call_suits s' (option_map (new_var u) target) (map (renamed.arg ρ u) args)) ≡ true
  callee_fits target (tree.Called n) args known is = by_option (named n (functions s))
      (λ none. absurd (false≢true (sym (ap is_some none) ∙ (and_parts (is_some (named n (functions s))) true known).0)))
      (λ t there.
      ap (λ o. if_any o (call_suits s' (option_map (new_var u) target) (map (renamed.arg ρ u) args)))
      (function_same p are u items at_u n0 f b others front n t there)
      ∙ call_fits target args t (sym (ap (λ o. if_any o (call_suits s target args)) there) ∙ is))
  callee_fits target (tree.Through t n) args known is = call_fits target args t is

  suits : (stmt : tree.Stmt) → list_all (is_known s) (stmt_uses stmt) ≡ true → stmt_suits s stmt ≡ true
      → stmt_suits s' (renamed.stmt ρ u stmt) ≡ true
  suits (tree.Set n a) known is = grind (arith, vars_same n, arg_fits)
  suits (tree.SetStar n e) known is = (λ i. if_any (if_found (vars_same n i) pointed_by) (has_same_type (type_same e i))) ∙ is
  suits (tree.Call target c args) known is =
      let behind = all_parts (is_known s) (target_uses target) (callee_uses c ++ flat_map arg_uses args) known in
      callee_fits target c args (all_parts (is_known s) (callee_uses c) (flat_map arg_uses args) behind.1).0 is
  suits tree.ReturnNone known is = is
  suits (tree.Return a) known is =
      let both = and_parts (not (is_void f.result)) (arg_suits s f.result a) is in
      λ i. both.0 i && arg_fits f.result a both.1 i
  suits _ known is = refl

  -- ---- rule 11

  values_same : (cases : List tree.Case) → map case_value (map (renamed.case ρ u) cases) ≡ map case_value cases
  values_same [] = refl
  values_same (c ∷ cases) = ap (λ l. case_value c ∷ l) (values_same cases)

  cases_fit : (cases : List tree.Case) (t : CType) → cases_suit (map (renamed.case ρ u) cases) t ≡ cases_suit cases t
  cases_fit cases t = ap (λ b. is_number_type t && b)
      (all_map (renamed.case ρ u) (λ (c : tree.Case). number_suits t c.0) (λ (c : tree.Case). number_suits t c.0) (λ c. refl) cases)

  cases_same : (number : ℕ) (stmt : tree.Stmt)
      → cases_are_distinct (record { scope = s'; number = number; stmt = renamed.stmt ρ u stmt })
      ≡ cases_are_distinct (record { scope = s; number = number; stmt = stmt })
  cases_same number (tree.Switch e cases n) = grind (arith, type_same e, values_same, cases_fit)
  cases_same number _ = refl

  -- ---- all of them

  pub stmt_keeps : (number : ℕ) (stmt : tree.Stmt) → Keeps stmt_rules (record { scope = s; number = number; stmt = stmt })
      → Keeps stmt_rules (record { scope = s'; number = number; stmt = renamed.stmt ρ u stmt })
  stmt_keeps number stmt h =
      let known = h.1.1.1.0 in
      let typed = behind_known (list_all (is_known s) (stmt_uses stmt)) (stmt_is_typed s stmt) known h.1.1.1.1.0 in
      let fits = behind_known (list_all (is_known s) (stmt_uses stmt)) (stmt_suits s stmt) known h.1.1.1.1.1.0 in
      let known' = names_known stmt known in
      let typed' = ap (λ b. not b || stmt_is_typed s' (renamed.stmt ρ u stmt)) known' ∙ typed_same stmt ∙ typed in
      let fits' = ap (λ b. not b || stmt_suits s' (renamed.stmt ρ u stmt)) known' ∙ suits stmt known fits in
      let last' = last_ends number stmt h.1.1.1.1.1.1.1.0 in (
        label_free number stmt,
        (
          written_same number stmt ∙ h.1.0,
          (labels_same number stmt ∙ h.1.1.0, (known', (typed', (fits', (cases_same number stmt ∙ h.1.1.1.1.1.1.0, (last', tt)))))),
        ),
      )
