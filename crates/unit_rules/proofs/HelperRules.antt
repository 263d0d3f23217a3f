-- The helpers keep the rules in every unit: what their own names and the runtime's stand for is the same there.
use Rattle.unit_rules.proofs.Common.{◌≡◌, true, false, not, ◌&&◌, List, [], ◌∷◌, ◌++◌, map, is_some, Some, None, Option, flat_map, ap, sym}
use Rattle.unit_rules.proofs.Common.{filter_map, refl, ◌∙◌, subst, false≢true, list_all, both_hold, some_is, all_parts, if_found, Use, Name}
use Rattle.unit_rules.proofs.Common.{named, AsArray, AsFunction, AsVariable, are_distinct_numbers, arg_has_type, arg_suits, arg_uses, at}
use Rattle.unit_rules.proofs.Common.{args_suit, callee_type, callee_uses, case_value, cases_are_distinct, cases_suit, expr_uses, if_any}
use Rattle.unit_rules.proofs.Common.{has_same_type, is_known, is_void, labels_named, labels_of, may_be_assigned, may_be_called, stmt_suits}
use Rattle.unit_rules.proofs.Common.{points_to_number, proper_types, stmt_is_typed, stmt_uses, target_suits, target_uses, same_type, Scope}
use Rattle.unit_rules.proofs.Common.{HasType, array_of, function_of, functions, is_among, is_object_type, pointed_by, variable_of, CType}
use Rattle.unit_rules.proofs.Common.{variables, Passes, file_variables, file_functions, typing_of, type_of, name_typing, value_typing}
use Rattle.unit_rules.proofs.Common.{number_type, typed_if, may_be_narrowed, common_type, op_typing, is_comparison, value_type}
use Rattle.c_tree.specs.declared.tree.CType.TheVariants as type
use Rattle.c_tree.specs.Tree as tree

-- a scope that knows all that a smaller one knows, and whose function is the same. The smaller one has no items
pub record Grows (small large : Scope) : Type 0 where
  pub vars : (q : Name) (t : CType) → named q (variables small) ≡ Some t → named q (variables large) ≡ Some t
  pub funcs : (q : Name) (t : tree.FuncType) → named q (functions small) ≡ Some t → named q (functions large) ≡ Some t
  pub no_items : small.declared ≡ []
  pub same_func : small.func ≡ large.func
  pub same_body : small.body ≡ large.body

module _ (s l : Scope) (g : Grows s l) where
  abbrev Known : List Use → Type 0
  Known uses = list_all (is_known s) uses ≡ true

  var_same : (n : Name) → is_known s (AsVariable n) ≡ true → named n (variables l) ≡ named n (variables s)
  var_same n e = let found = some_is (named n (variables s)) e in g.vars n found.0 found.1 ∙ sym found.1

  func_same : (n : Name) → is_known s (AsFunction n) ≡ true → named n (functions l) ≡ named n (functions s)
  func_same n e = let found = some_is (named n (functions s)) e in g.funcs n found.0 found.1 ∙ sym found.1

  no_array : (n : Name) → is_known s (AsArray n) ≡ true → ⊥
  no_array n e = absurd (false≢true (sym (ap (λ items. is_among n (filter_map array_of items)) g.no_items) ∙ e))

  use_kept : (u : Use) → is_known s u ≡ true → is_known l u ≡ true
  use_kept (AsVariable n) e = ap is_some (var_same n e) ∙ e
  use_kept (AsArray n) e = absurd (no_array n e)
  use_kept (AsFunction n) e = ap is_some (func_same n e) ∙ e

  uses_kept : (uses : List Use) → Known uses → list_all (is_known l) uses ≡ true
  uses_kept [] k = refl
  uses_kept (u ∷ uses) k = let h = both_hold (is_known s u) (list_all (is_known s) uses) k in rw (use_kept u h.0) (uses_kept uses h.1)

  expr_same : (e : tree.Expr) → Known (expr_uses e) → typing_of l e ≡ typing_of s e
  expr_same (tree.Name n) k = ap name_typing (var_same n (both_hold (is_known s (AsVariable n)) true k).0)
  expr_same (tree.At n i) k = absurd (no_array n (both_hold (is_known s (AsArray n)) (list_all (is_known s) (expr_uses i)) k).0)
  expr_same (tree.Number n) k = refl
  expr_same (tree.To32 e) k = ap (λ t. typed_if (may_be_narrowed t) (HasType type.U32)) (expr_same e k)
  expr_same (tree.To64 e) k = ap (λ t. typed_if (is_some (number_type t)) (HasType type.U64)) (expr_same e k)
  expr_same (tree.Star n) k = ap (λ o. value_typing (if_found o pointed_by)) (var_same n (both_hold (is_known s (AsVariable n)) true k).0)
  expr_same (tree.Op o a b) k =
      let h = all_parts (is_known s) (expr_uses a) (expr_uses b) k in
      ap (λ t. op_typing o (common_type t (typing_of l b))) (expr_same a h.0)
      ∙ ap (λ t. op_typing o (common_type (typing_of s a) t)) (expr_same b h.1)

  type_same : (e : tree.Expr) → Known (expr_uses e) → type_of l e ≡ type_of s e
  type_same e k = ap value_type (expr_same e k)

  no_file_var : (n : Name) → named n (file_variables s) ≡ None
  no_file_var n = ap (λ items. named n (filter_map variable_of items)) g.no_items

  no_file_func : (n : Name) → is_some (named n (file_functions s)) ≡ false
  no_file_func n = ap (λ items. is_some (named n (filter_map function_of items))) g.no_items

  arg_kept : (t : CType) (x : tree.Arg) → Known (arg_uses x)
      → (arg_suits s t x ≡ true → arg_suits l t x ≡ true) × (arg_has_type l x ≡ arg_has_type s x)
  arg_kept t (tree.Value e) k = (λ f. ap (λ o. has_same_type o t) (type_same e k) ∙ f, ap is_some (type_same e k))
  arg_kept t (tree.Address n) k = (λ f. absurd (none (named n (file_variables s)) (no_file_var n) f), refl)
    where
      none : (o : Option CType) → o ≡ None → arg_suits s t (tree.Address n) ≡ true → ⊥
      none o e f = absurd (false≢true (rw (no_file_var n, arg_suits) at f))
  arg_kept t (tree.OfFunction n) k = (
    λ f. absurd (false≢true (sym (no_file_func n) ∙ (both_hold (is_some (named n (file_functions s))) _ f).0)),
    refl,
  )

  args_kept : (types : List CType) (args : List tree.Arg) → Known (flat_map arg_uses args) → args_suit s types args ≡ true
      → args_suit l types args ≡ true
  args_kept [] [] k f = refl
  args_kept [] (x ∷ args) k f = absurd cc
  args_kept (t ∷ types) [] k f = absurd cc
  args_kept (t ∷ types) (x ∷ args) k f =
      let h = all_parts (is_known s) (arg_uses x) (flat_map arg_uses args) k in
      let p = both_hold (arg_suits s t x) (args_suit s types args) f in
      rw ((arg_kept t x h.0).0 p.0, args_kept types args h.1 p.1) refl

  args_typed_kept : (args : List tree.Arg) → Known (flat_map arg_uses args) → list_all (arg_has_type s) args ≡ true
      → list_all (arg_has_type l) args ≡ true
  args_typed_kept [] k f = refl
  args_typed_kept (x ∷ args) k f =
      let h = all_parts (is_known s) (arg_uses x) (flat_map arg_uses args) k in
      let p = both_hold (arg_has_type s x) (list_all (arg_has_type s) args) f in
      rw ((arg_kept type.U32 x h.0).1 ∙ p.0, args_typed_kept args h.1 p.1) refl

  labels_same : (names : List Name) → list_all (λ name. is_among name (labels_of s.body.stmts)) names ≡ true
      → list_all (λ name. is_among name (labels_of l.body.stmts)) names ≡ true
  labels_same names f = subst (λ b. list_all (λ name. is_among name (labels_of b.stmts)) names ≡ true) g.same_body f

  typed_kept : (stmt : tree.Stmt) → Known (stmt_uses stmt) → stmt_is_typed s stmt ≡ true → stmt_is_typed l stmt ≡ true
  typed_kept (tree.Set n x) k f =
      let h = both_hold (is_known s (AsVariable n)) (list_all (is_known s) (arg_uses x)) k in
      ap (λ o. if_any o (λ t. not (is_object_type t)) && arg_has_type l x) (var_same n h.0)
      ∙ (ap (λ b. may_be_assigned s n && b) (arg_kept type.U32 x h.1).1 ∙ f)
  typed_kept (tree.SetStar n e) k f =
      let h = both_hold (is_known s (AsVariable n)) (list_all (is_known s) (expr_uses e)) k in
      ap (λ o. is_some (if_found o pointed_by) && is_some (type_of l e)) (var_same n h.0)
      ∙ (ap (λ o. points_to_number s n && is_some o) (type_same e h.1) ∙ f)
  typed_kept (tree.Call target c args) k f =
      let h = all_parts (is_known s) (target_uses target) (callee_uses c ++ flat_map arg_uses args) k in
      let j = all_parts (is_known s) (callee_uses c) (flat_map arg_uses args) h.1 in
      let p = both_hold (if_any target (may_be_assigned s) && may_be_called s c) (list_all (arg_has_type s) args) f in
      let q = both_hold (if_any target (may_be_assigned s)) (may_be_called s c) p.0 in
      rw (assigned target h.0 ∙ q.0, called c j.0 ∙ q.1, args_typed_kept args j.1 p.1) refl
    where
      assigned : (target : Option Name) → Known (target_uses target) → if_any target (may_be_assigned l) ≡ if_any target (may_be_assigned s)
      assigned None k = refl
      assigned (Some n) k = ap (λ o. if_any o (λ t. not (is_object_type t))) (var_same n (both_hold (is_known s (AsVariable n)) true k).0)

      called : (c : tree.Callee) → Known (callee_uses c) → may_be_called l c ≡ may_be_called s c
      called (tree.Called n) k = refl
      called (tree.Through t n) k = ap (λ o. if_any o (λ u. same_type u type.FnPtr))
          (var_same n (both_hold (is_known s (AsVariable n)) true k).0)
  typed_kept (tree.If o a b n) k f =
      let h = all_parts (is_known s) (expr_uses a) (expr_uses b) k in
      ap (λ t. is_comparison o && is_some (common_type t (typing_of l b))) (expr_same a h.0)
      ∙ (ap (λ t. is_comparison o && is_some (common_type (typing_of s a) t)) (expr_same b h.1) ∙ f)
  typed_kept (tree.Switch e cases n) k f = ap is_some (type_same e k) ∙ f
  typed_kept (tree.Return x) k f = (arg_kept type.U32 x k).1 ∙ f
  typed_kept _ k f = refl

  suits_kept : (stmt : tree.Stmt) → Known (stmt_uses stmt) → stmt_suits s stmt ≡ true → stmt_suits l stmt ≡ true
  suits_kept (tree.Set n x) k f =
      let h = both_hold (is_known s (AsVariable n)) (list_all (is_known s) (arg_uses x)) k in
      ap (λ o. if_any o (λ t. arg_suits l t x)) (var_same n h.0) ∙ by (named n (variables s)) h.1 f
    where
      by : (o : Option CType) → Known (arg_uses x) → if_any o (λ t. arg_suits s t x) ≡ true → if_any o (λ t. arg_suits l t x) ≡ true
      by None k f = refl
      by (Some t) k f = (arg_kept t x k).0 f
  suits_kept (tree.SetStar n e) k f =
      let h = both_hold (is_known s (AsVariable n)) (list_all (is_known s) (expr_uses e)) k in
      ap (λ o. if_any (if_found o pointed_by) (has_same_type (type_of l e))) (var_same n h.0)
      ∙ (ap (λ o. if_any (if_found (named n (variables s)) pointed_by) (has_same_type o)) (type_same e h.1) ∙ f)
  suits_kept (tree.Call target c args) k f =
      let h = all_parts (is_known s) (target_uses target) (callee_uses c ++ flat_map arg_uses args) k in
      let j = all_parts (is_known s) (callee_uses c) (flat_map arg_uses args) h.1 in
      ap (λ o. if_any o (λ t. args_suit l (proper_types t.params) args && target_suits l t.result target)) (called c j.0)
      ∙ by (callee_type s c) h.0 j.1 f
    where
      called : (c : tree.Callee) → Known (callee_uses c) → callee_type l c ≡ callee_type s c
      called (tree.Called n) k = func_same n (both_hold (is_known s (AsFunction n)) true k).0
      called (tree.Through t n) k = refl

      assigned : (r : CType) (target : Option Name) → Known (target_uses target) → target_suits l r target ≡ target_suits s r target
      assigned r None k = refl
      assigned r (Some n) k = ap (λ o. not (is_void r) && has_same_type o r) (var_same n (both_hold (is_known s (AsVariable n)) true k).0)

      by : (o : Option tree.FuncType) → Known (target_uses target) → Known (flat_map arg_uses args)
          → if_any o (λ t. args_suit s (proper_types t.params) args && target_suits s t.result target) ≡ true
          → if_any o (λ t. args_suit l (proper_types t.params) args && target_suits l t.result target) ≡ true
      by None k j f = refl
      by (Some t) k j f =
          let p = both_hold (args_suit s (proper_types t.params) args) (target_suits s t.result target) f in
          rw (args_kept (proper_types t.params) args j p.0, assigned t.result target k ∙ p.1) refl
  suits_kept tree.ReturnNone k f = ap (λ (fn : tree.Func). is_void fn.result) (sym g.same_func) ∙ f
  suits_kept (tree.Return x) k f =
      let p = both_hold (not (is_void s.func.result)) (arg_suits s s.func.result x) f in
      subst (λ (fn : tree.Func). not (is_void fn.result) && arg_suits l fn.result x ≡ true) g.same_func
      (rw (p.0, (arg_kept s.func.result x k).0 p.1) refl)
  suits_kept _ k f = refl

  cases_kept : (stmt : tree.Stmt) → Known (stmt_uses stmt) → cases_are_distinct (at s stmt) ≡ true → cases_are_distinct (at l stmt) ≡ true
  cases_kept (tree.Switch e cases n) k f = ap (λ o. if_any o (cases_suit cases) && are_distinct_numbers (map case_value cases))
      (type_same e k) ∙ f
  cases_kept _ k f = refl

  pub passes_kept : (stmt : tree.Stmt) → Passes s stmt → Passes l stmt
  passes_kept stmt p = record {
    free = p.free;
    written = p.written;
    there = labels_same (labels_named stmt) p.there;
    known = uses_kept (stmt_uses stmt) p.known;
    typed = typed_kept stmt p.known p.typed;
    suits = suits_kept stmt p.known p.suits;
    cases = cases_kept stmt p.known p.cases;
  }
