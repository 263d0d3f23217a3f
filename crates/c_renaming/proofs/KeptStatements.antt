-- A statement that keeps the rules on names and on types is kept text, where the functions that it names may still be used and no variable
-- of file scope is w2c_depth.
use Rattle.c_renaming.proofs.Common.{◌≡◌, ℕ, Bool, true, false, not, List, [], ◌∷◌, ◌++◌, is_some, Some, None, Option, flat_map, bytes_eq}
use Rattle.c_renaming.proofs.Common.{refl, ⊤, both_hold, named, depth_name, Name, Each, KeptArg, KeptCallee, KeptStmt, Renaming}
use Rattle.std.proofs.lemmas.Bool.{false≢true}
use Rattle.std.specs.List.{AllByRecursion, list_all}
use Rattle.w2c_base.proofs.OfEach.{all_split}
use Rattle.w2c_base.proofs.Tests.{all_parts}
use Rattle.c_tree.specs.declared.tree.CType.{CType}
use Rattle.c_tree.specs.Tree as tree
use Rattle.c_tree.specs.Scope.{Scope, file_variables, functions, variables}
use Rattle.c_tree.specs.Rules.{Use, AsFunction, if_any, is_known, arg_uses, callee_uses, target_uses, stmt_uses}
use Rattle.c_tree.specs.Rules.{is_void, proper_types, arg_suits, args_suit, callee_type, target_suits, call_suits, stmt_suits}

-- what is used as a function may still be used
abbrev pub KeptUse : Renaming → ℕ → Use → Type 0
KeptUse ρ u (AsFunction name) = ρ.uses u name ≡ true
KeptUse ρ u _ = ⊤

module _ (ρ : Renaming) (u : ℕ) (s : Scope)
    (free : (n : Name) (t : CType) → named n (file_variables s) ≡ Some t → bytes_eq n depth_name ≡ false) where
  abbrev Used : List Use → Type 0
  Used uses = AllByRecursion (KeptUse ρ u) uses

  arg_kept : (t : CType) (a : tree.Arg) → Used (arg_uses a) → arg_suits s t a ≡ true → KeptArg ρ u a
  arg_kept t (tree.Value e) used suits = tt
  arg_kept t (tree.OfFunction n) used suits = used.0
  arg_kept t (tree.Address n) used suits = by (named n (file_variables s)) refl
    where
      by : (o : Option CType) → named n (file_variables s) ≡ o → bytes_eq n depth_name ≡ false
      by None none = absurd (false≢true (rw (none, arg_suits) at suits))
      by (Some w) there = free n w there

  args_kept : (types : List CType) (args : List tree.Arg) → Used (flat_map arg_uses args) → args_suit s types args ≡ true
      → Each (KeptArg ρ u) args
  args_kept [] [] used suits = tt
  args_kept (t ∷ types) (a ∷ args) used suits =
      let two = all_split (KeptUse ρ u) (arg_uses a) (flat_map arg_uses args) used in
      let both = both_hold (arg_suits s t a) (args_suit s types args) suits in
      (arg_kept t a two.0 both.0, args_kept types args two.1 both.1)
  args_kept _ _ used suits = cc

  callee_kept : (f : tree.Callee) → Used (callee_uses f) → KeptCallee ρ u f
  callee_kept (tree.Called n) used = used.0
  callee_kept (tree.Through t n) used = tt

  callee_there : (f : tree.Callee) → list_all (is_known s) (callee_uses f) ≡ true → is_some (callee_type s f) ≡ true
  callee_there (tree.Called n) known = (both_hold (is_some (named n (functions s))) true known).0
  callee_there (tree.Through t n) known = refl

  if_there : {A : Type 0} (o : Option A) (test : A → Bool) → is_some o ≡ true → if_any o test ≡ true → (a : A) × (test a ≡ true)
  if_there None test there is = absurd (false≢true there)
  if_there (Some a) test there is = (a, is)

  pub kept_stmt : (stmt : tree.Stmt) → Used (stmt_uses stmt) → list_all (is_known s) (stmt_uses stmt) ≡ true → stmt_suits s stmt ≡ true
      → KeptStmt ρ u stmt
  kept_stmt (tree.Set n a) used known suits =
      let both = both_hold (is_some (named n (variables s))) (list_all (is_known s) (arg_uses a)) known in
      let t = if_there (named n (variables s)) (λ t. arg_suits s t a) both.0 suits in
      arg_kept t.0 a used.1 t.1
  kept_stmt (tree.Call target f args) used known suits =
      let behind = all_split (KeptUse ρ u) (target_uses target) (callee_uses f ++ flat_map arg_uses args) used in
      let two = all_split (KeptUse ρ u) (callee_uses f) (flat_map arg_uses args) behind.1 in
      let rest = all_parts (is_known s) (target_uses target) (callee_uses f ++ flat_map arg_uses args) known in
      let there = callee_there f (all_parts (is_known s) (callee_uses f) (flat_map arg_uses args) rest.1).0 in
      let t = if_there (callee_type s f) (call_suits s target args) there suits in
      let fits = both_hold (args_suit s (proper_types t.0.params) args) (target_suits s t.0.result target) t.1 in
      (callee_kept f two.0, args_kept (proper_types t.0.params) args two.1 fits.0)
  kept_stmt (tree.Return a) used known suits =
      arg_kept s.func.result a used (both_hold (not (is_void s.func.result)) (arg_suits s s.func.result a) suits).1
  kept_stmt _ used known suits = tt
