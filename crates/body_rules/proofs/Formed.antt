-- Statements that keep the rules have names where the names that are declared are names; and the statements of code
-- have numbers within their types, and no deep expressions.
use Rattle.body_rules.proofs.Common.{◌≡◌, true, List, [], ◌∷◌, ◌++◌, map, Some, None, Option, flat_map, bytes_eq, sym, refl, ◌∙◌, subst}
use Rattle.body_rules.proofs.Common.{append_assoc, or_left, or_right, AllByRecursion, list_all, all_parts, named, arg_uses, expr_uses, Name}
use Rattle.body_rules.proofs.Common.{Scope, arrays, functions, is_among, variables, IsName, IsNamedIfAny, NamedArg, NamedCallee, NamedExpr}
use Rattle.body_rules.proofs.Common.{NamedStmt, CType, bytes_equal, both_hold, Use, AsVariable, AsArray, AsFunction, is_known, callee_uses}
use Rattle.body_rules.proofs.Common.{target_uses, labels_of}
use Rattle.w2c_base.proofs.Options.{some_is}
use Rattle.c_tree.specs.Tree as tree
use Rattle.body_rules.proofs.Rules.{Passes}
use Rattle.body_rules.proofs.RulesOfCode.{Present, left_present, right_present}

-- what a scope knows is names, and so are its body's labels
pub record AreNames (s : Scope) : Type 0 where
  pub vars : (n : Name) (t : CType) → named n (variables s) ≡ Some t → IsName n
  pub arrays_are : (n : Name) → is_among n (arrays s) ≡ true → IsName n
  pub funcs : (n : Name) (t : tree.FuncType) → named n (functions s) ≡ Some t → IsName n
  pub labels : (n : Name) → is_among n (labels_of s.body.stmts) ≡ true → IsName n

module _ (s : Scope) (are : AreNames s) where
  abbrev AllKnown : List Use → Type 0
  AllKnown uses = list_all (is_known s) uses ≡ true

  var_name : (n : Name) → is_known s (AsVariable n) ≡ true → IsName n
  var_name n e = let found = some_is (named n (variables s)) e in are.vars n found.0 found.1

  func_name_is : (n : Name) → is_known s (AsFunction n) ≡ true → IsName n
  func_name_is n e = let found = some_is (named n (functions s)) e in are.funcs n found.0 found.1

  expr_named : (e : tree.Expr) → AllKnown (expr_uses e) → NamedExpr e
  expr_named (tree.Name n) k = var_name n (both_hold (is_known s (AsVariable n)) true k).0
  expr_named (tree.At n i) k = let h = both_hold (is_known s (AsArray n)) (list_all (is_known s) (expr_uses i)) k in
      (are.arrays_are n h.0, expr_named i h.1)
  expr_named (tree.Number n) k = tt
  expr_named (tree.To32 e) k = expr_named e k
  expr_named (tree.To64 e) k = expr_named e k
  expr_named (tree.Star n) k = var_name n (both_hold (is_known s (AsVariable n)) true k).0
  expr_named (tree.Op o a b) k = let h = all_parts (is_known s) (expr_uses a) (expr_uses b) k in (expr_named a h.0, expr_named b h.1)

  arg_named : (a : tree.Arg) → AllKnown (arg_uses a) → NamedArg a
  arg_named (tree.Value e) k = expr_named e k
  arg_named (tree.Address n) k = var_name n (both_hold (is_known s (AsVariable n)) true k).0
  arg_named (tree.OfFunction n) k = func_name_is n (both_hold (is_known s (AsFunction n)) true k).0

  args_named : (args : List tree.Arg) → AllKnown (flat_map arg_uses args) → AllByRecursion NamedArg args
  args_named [] k = tt
  args_named (a ∷ args) k = let h = all_parts (is_known s) (arg_uses a) (flat_map arg_uses args) k in (arg_named a h.0, args_named args h.1)

  callee_named : (f : tree.Callee) → AllKnown (callee_uses f) → NamedCallee f
  callee_named (tree.Called n) k = func_name_is n (both_hold (is_known s (AsFunction n)) true k).0
  callee_named (tree.Through t n) k = var_name n (both_hold (is_known s (AsVariable n)) true k).0

  target_named : (target : Option Name) → AllKnown (target_uses target) → IsNamedIfAny target
  target_named None k = tt
  target_named (Some n) k = var_name n (both_hold (is_known s (AsVariable n)) true k).0

  cases_named : (cases : List tree.Case) (n : Name) → list_all (λ name. is_among name (labels_of s.body.stmts))
      (map (λ (c : tree.Case). c.1) cases ++ n ∷ []) ≡ true → AllByRecursion (λ (c : tree.Case). IsName c.1) cases × IsName n
  cases_named [] n k = (tt, are.labels n (both_hold (is_among n (labels_of s.body.stmts)) true k).0)
  cases_named (c ∷ cases) n k =
      let h = both_hold (is_among c.1 (labels_of s.body.stmts))
      (list_all (λ name. is_among name (labels_of s.body.stmts)) (map (λ (c : tree.Case). c.1) cases ++ n ∷ [])) k in
      let rest = cases_named cases n h.1 in
      ((are.labels c.1 h.0, rest.0), rest.1)

  -- a label's own name is one of the body's labels
  pub stmt_named : (stmt : tree.Stmt) → (list_all (λ name. is_among name (labels_of s.body.stmts)) (labels_of (stmt ∷ [])) ≡ true)
      → Passes s stmt → NamedStmt stmt
  stmt_named (tree.Label n) own p = are.labels n (both_hold (is_among n (labels_of s.body.stmts)) true own).0
  stmt_named (tree.Set n a) own p =
      let h = both_hold (is_known s (AsVariable n)) (list_all (is_known s) (arg_uses a)) p.known in (var_name n h.0, arg_named a h.1)
  stmt_named (tree.SetStar n e) own p =
      let h = both_hold (is_known s (AsVariable n)) (list_all (is_known s) (expr_uses e)) p.known in (var_name n h.0, expr_named e h.1)
  stmt_named (tree.Call target f args) own p =
      let h = all_parts (is_known s) (target_uses target) (callee_uses f ++ flat_map arg_uses args) p.known in
      let g = all_parts (is_known s) (callee_uses f) (flat_map arg_uses args) h.1 in
      (target_named target h.0, callee_named f g.0, args_named args g.1)
  stmt_named (tree.Goto n) own p = are.labels n (both_hold (is_among n (labels_of s.body.stmts)) true p.there).0
  stmt_named (tree.If o a b n) own p =
      let h = all_parts (is_known s) (expr_uses a) (expr_uses b) p.known in
      (expr_named a h.0, expr_named b h.1, are.labels n (both_hold (is_among n (labels_of s.body.stmts)) true p.there).0)
  stmt_named (tree.Switch e cases n) own p = let h = cases_named cases n p.there in (expr_named e p.known, h.0, h.1)
  stmt_named (tree.Return a) own p = arg_named a p.known
  stmt_named _ own p = tt

  -- all statements of a body
  pub stmts_named : (before stmts : List tree.Stmt) → s.body.stmts ≡ before ++ stmts → AllByRecursion (Passes s) stmts
      → AllByRecursion NamedStmt stmts
  stmts_named before [] same all = tt
  stmts_named before (stmt ∷ stmts) same all = (
    stmt_named stmt own all.0,
    stmts_named (before ++ stmt ∷ []) stmts (same ∙ sym (append_assoc before (stmt ∷ []) stmts)) all.1,
  )
    where
      among_self : (names : List Name) → ((n : Name) → is_among n names ≡ true → is_among n (labels_of s.body.stmts) ≡ true)
          → list_all (λ name. is_among name (labels_of s.body.stmts)) names ≡ true
      among_self [] f = refl
      among_self (n ∷ names) f = rw (f n (or_left (bytes_eq n n) (is_among n names) (bytes_equal n)))
          (among_self names (λ m e. f m (or_right (bytes_eq m n) (is_among m names) e)))

      whole : Present s.body.stmts (before ++ stmt ∷ stmts)
      whole = subst (λ b. Present b (before ++ stmt ∷ stmts)) (sym same) (λ name e. e)

      own : list_all (λ name. is_among name (labels_of s.body.stmts)) (labels_of (stmt ∷ [])) ≡ true
      own = among_self (labels_of (stmt ∷ [])) (left_present s.body.stmts (stmt ∷ []) stmts
          (right_present s.body.stmts before (stmt ∷ stmts) whole))
