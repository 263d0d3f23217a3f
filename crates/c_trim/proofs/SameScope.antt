-- Rules of a statement in two scopes that differ in functions alone which the statement does not name.
use Rattle.c_trim.proofs.Common.{◌≡◌, ℕ, ◌+◌, Bool, true, false, not, ◌&&◌, ◌||◌, List, [], ◌∷◌, ◌++◌, map, is_some, Some, None, codes}
use Rattle.c_trim.proofs.Common.{Option, flat_map, filter_map, refl, ap, ◌∙◌, AllByRecursion, list_all, all_split, if_found, named}
use Rattle.c_trim.proofs.Common.{primitives, same_type, Name, Scope, file_functions, functions, is_among, is_comparison}
use Rattle.c_trim.proofs.Common.{is_object_type, pointed_by, pointer_to, type_of, typing_of, variables, CType, arg_functions}
use Rattle.c_trim.proofs.Common.{callee_functions, functions_of, stmt_functions}
use Rattle.c_tree.specs.declared.tree.CType.TheVariants as type
use Rattle.c_tree.specs.Tree as tree
use Rattle.c_tree.specs.Scope as scope
use Rattle.c_tree.specs.Rules as rule
use Rattle.c_trim.proofs.RulesHold.{Hold, StmtsHold, stmt_at}
use Rattle.c_trim.proofs.Lists.{named_in_front}

abbrev pub Each : (Name → Bool) → List Name → Type 0
Each needed xs = AllByRecursion (λ (x : Name). needed x ≡ true) xs

both_named : (needed : Name → Bool) (uses others : List rule.Use) → Each needed (functions_of (uses ++ others))
    → Each needed (functions_of uses) × Each needed (functions_of others)
both_named needed [] others all = (tt, all)
both_named needed (rule.AsVariable x ∷ uses) others all = both_named needed uses others all
both_named needed (rule.AsArray x ∷ uses) others all = both_named needed uses others all
both_named needed (rule.AsFunction x ∷ uses) others all =
    let two = both_named needed uses others all.1 in ((all.0, two.0), two.1)

-- what is declared, but for functions of other names
pub record AgreeOn (needed : Name → Bool) (old new : List tree.Item) : Type 0 where
  pub variables : filter_map scope.variable_of new ≡ filter_map scope.variable_of old
  pub arrays : filter_map scope.array_of new ≡ filter_map scope.array_of old
  pub functions : (x : Name) → needed x ≡ true
      → named x (filter_map scope.function_of new) ≡ named x (filter_map scope.function_of old)

module _ (needed : Name → Bool) (old new : List tree.Item) (agree : AgreeOn needed old new) (func : tree.Func) (body : tree.Body) where
  abbrev s : Scope
  s = record { declared = old; func = func; body = body }

  abbrev s' : Scope
  s' = record { declared = new; func = func; body = body }

  vars : variables s' ≡ variables s
  vars = ap (λ vs. scope.param_variables func ++ (scope.local_variables body ++ (vs ++ (codes "w2c_depth", type.U32) ∷ []))) agree.variables

  type_named : (x : Name) → named x (variables s') ≡ named x (variables s)
  type_named x = ap (named x) vars

  funcs : (x : Name) → needed x ≡ true → named x (functions s') ≡ named x (functions s)
  funcs x is = named_in_front x (file_functions s') (file_functions s) primitives (agree.functions x is)

  -- ---- types of expressions

  same_typing : (e : tree.Expr) → typing_of s' e ≡ typing_of s e
  same_typing (tree.Name x) = ap scope.name_typing (type_named x)
  same_typing (tree.At x e) = ap (λ t. scope.typed_if (is_some (scope.number_type t)) scope.IsElement) (same_typing e)
  same_typing (tree.Number number) = refl
  same_typing (tree.To32 e) = ap (λ t. scope.typed_if (scope.may_be_narrowed t) (scope.HasType type.U32)) (same_typing e)
  same_typing (tree.To64 e) = ap (λ t. scope.typed_if (is_some (scope.number_type t)) (scope.HasType type.U64)) (same_typing e)
  same_typing (tree.Star x) = ap (λ o. scope.value_typing (if_found o pointed_by)) (type_named x)
  same_typing (tree.Op op left right) = λ i. scope.op_typing op (scope.common_type (same_typing left i) (same_typing right i))

  same_type_of : (e : tree.Expr) → type_of s' e ≡ type_of s e
  same_type_of e = ap scope.value_type (same_typing e)

  -- ---- rule 8: names are known

  known_variable : (x : Name) → rule.is_known s' (rule.AsVariable x) ≡ rule.is_known s (rule.AsVariable x)
  known_variable x = ap is_some (type_named x)

  known_array : (x : Name) → rule.is_known s' (rule.AsArray x) ≡ rule.is_known s (rule.AsArray x)
  known_array x = ap (is_among x) agree.arrays

  known_function : (x : Name) → needed x ≡ true → rule.is_known s' (rule.AsFunction x) ≡ rule.is_known s (rule.AsFunction x)
  known_function x is = ap is_some (funcs x is)

  abbrev known : List rule.Use → Bool
  known uses = list_all (rule.is_known s) uses

  abbrev known' : List rule.Use → Bool
  known' uses = list_all (rule.is_known s') uses

  known_uses : (uses : List rule.Use) → Each needed (functions_of uses) → known' uses ≡ known uses
  known_uses [] all = refl
  known_uses (rule.AsVariable x ∷ uses) all = λ i. known_variable x i && known_uses uses all i
  known_uses (rule.AsArray x ∷ uses) all = λ i. known_array x i && known_uses uses all i
  known_uses (rule.AsFunction x ∷ uses) all = λ i. known_function x all.0 i && known_uses uses all.1 i

  -- ---- rule 9: expressions have types

  same_has_type : (e : tree.Expr) → rule.has_type s' e ≡ rule.has_type s e
  same_has_type e = ap is_some (same_type_of e)

  same_arg_type : (a : tree.Arg) → rule.arg_has_type s' a ≡ rule.arg_has_type s a
  same_arg_type (tree.Value e) = same_has_type e
  same_arg_type _ = refl

  same_arg_types : (args : List tree.Arg) → list_all (rule.arg_has_type s') args ≡ list_all (rule.arg_has_type s) args
  same_arg_types [] = refl
  same_arg_types (a ∷ args) = λ i. same_arg_type a i && same_arg_types args i

  same_assigned : (x : Name) → rule.may_be_assigned s' x ≡ rule.may_be_assigned s x
  same_assigned x = ap (λ o. rule.if_any o (λ t. not (is_object_type t))) (type_named x)

  same_target : (o : Option Name) → rule.if_any o (rule.may_be_assigned s') ≡ rule.if_any o (rule.may_be_assigned s)
  same_target None = refl
  same_target (Some x) = same_assigned x

  same_called : (f : tree.Callee) → rule.may_be_called s' f ≡ rule.may_be_called s f
  same_called (tree.Called x) = refl
  same_called (tree.Through ty x) = ap (λ o. rule.if_any o (λ u. same_type u type.FnPtr)) (type_named x)

  same_points : (x : Name) → rule.points_to_number s' x ≡ rule.points_to_number s x
  same_points x = ap (λ o. is_some (if_found o pointed_by)) (type_named x)

  same_typed : (stmt : tree.Stmt) → rule.stmt_is_typed s' stmt ≡ rule.stmt_is_typed s stmt
  same_typed (tree.Set x a) = λ i. same_assigned x i && same_arg_type a i
  same_typed (tree.SetStar x e) = λ i. same_points x i && same_has_type e i
  same_typed (tree.Call target f args) = λ i. (same_target target i && same_called f i) && same_arg_types args i
  same_typed (tree.If op left right x) = ap (λ o. is_comparison op
      && is_some o) (λ i. scope.common_type (same_typing left i) (same_typing right i))
  same_typed (tree.Switch e cases x) = same_has_type e
  same_typed (tree.Return a) = same_arg_type a
  same_typed _ = refl

  -- ---- rule 10: assignments, calls and results

  same_suit : (t : CType) (a : tree.Arg) → Each needed (arg_functions a) → rule.arg_suits s' t a ≡ rule.arg_suits s t a
  same_suit t (tree.Value e) all = ap (λ o. rule.has_same_type o t) (same_type_of e)
  same_suit t (tree.Address x) all =
      ap (λ o. elim o as (λ _. Bool) [ None ↦ false | Some u ↦ same_type t u ])
      (ap (λ vs. if_found (named x vs) pointer_to) agree.variables)
  same_suit t (tree.OfFunction x) all = ap (λ o. is_some o && same_type t type.FnPtr) (agree.functions x all.0)

  same_suits : (types : List CType) (args : List tree.Arg) → Each needed (functions_of (flat_map rule.arg_uses args))
      → rule.args_suit s' types args ≡ rule.args_suit s types args
  same_suits [] [] all = refl
  same_suits [] (a ∷ args) all = refl
  same_suits (t ∷ types) [] all = refl
  same_suits (t ∷ types) (a ∷ args) all =
      let two = both_named needed (rule.arg_uses a) (flat_map rule.arg_uses args) all in
      λ i. same_suit t a two.0 i && same_suits types args two.1 i

  same_callee : (f : tree.Callee) → Each needed (callee_functions f) → rule.callee_type s' f ≡ rule.callee_type s f
  same_callee (tree.Called x) all = funcs x all.0
  same_callee (tree.Through ty x) all = refl

  same_target_suits : (result : CType) (o : Option Name) → rule.target_suits s' result o ≡ rule.target_suits s result o
  same_target_suits result None = refl
  same_target_suits result (Some x) = ap (λ o. not (rule.is_void result) && rule.has_same_type o result) (type_named x)

  same_call : (target : Option Name) (args : List tree.Arg) → Each needed (functions_of (flat_map rule.arg_uses args))
      → (o : Option tree.FuncType)
      → rule.if_any o (rule.call_suits s' target args) ≡ rule.if_any o (rule.call_suits s target args)
  same_call target args all None = refl
  same_call target args all (Some ty) = λ i. same_suits (rule.proper_types ty.params) args all i && same_target_suits ty.result target i

  same_set : (a : tree.Arg) → Each needed (arg_functions a) → (o : Option CType)
      → rule.if_any o (λ t. rule.arg_suits s' t a) ≡ rule.if_any o (λ t. rule.arg_suits s t a)
  same_set a all None = refl
  same_set a all (Some t) = same_suit t a all

  same_stmt_suits : (stmt : tree.Stmt) → Each needed (stmt_functions stmt) → rule.stmt_suits s' stmt ≡ rule.stmt_suits s stmt
  same_stmt_suits (tree.Set x a) all = ap (λ o. rule.if_any o (λ t. rule.arg_suits s' t a)) (type_named x)
      ∙ same_set a all (named x (variables s))
  same_stmt_suits (tree.SetStar x e) all = λ i. rule.if_any (if_found (type_named x i) pointed_by) (rule.has_same_type (same_type_of e i))
  same_stmt_suits (tree.Call target f args) all =
      let behind : List rule.Use = rule.callee_uses f ++ flat_map rule.arg_uses args in
      let rest = (both_named needed (rule.target_uses target) behind all).1 in
      let two = both_named needed (rule.callee_uses f) (flat_map rule.arg_uses args) rest in
      ap (λ o. rule.if_any o (rule.call_suits s' target args)) (same_callee f two.0) ∙ same_call target args two.1 (rule.callee_type s f)
  same_stmt_suits (tree.Return a) all = ap (λ b. not (rule.is_void func.result) && b) (same_suit func.result a all)
  same_stmt_suits _ all = refl

  -- ---- rule 11: cases of a switch

  same_cases : (k : ℕ) (stmt : tree.Stmt) → rule.cases_are_distinct (stmt_at s' k stmt) ≡ rule.cases_are_distinct (stmt_at s k stmt)
  same_cases k (tree.Switch e cases x) =
      ap (λ o. rule.if_any o (rule.cases_suit cases) && rule.are_distinct_numbers (map rule.case_value cases)) (same_type_of e)
  same_cases k _ = refl

  -- ---- all rules of statements

  stmt_holds : (k : ℕ) (stmt : tree.Stmt) → Each needed (stmt_functions stmt) → Hold rule.stmt_rules (stmt_at s k stmt)
      → Hold rule.stmt_rules (stmt_at s' k stmt)
  stmt_holds k stmt all hold =
      let cases : Hold ((11, rule.cases_are_distinct) ∷ (12, rule.last_ends_body) ∷ []) (stmt_at s' k stmt) =
      (same_cases k stmt ∙ hold.1.1.1.1.1.1.0, hold.1.1.1.1.1.1.1) in
      let types : Hold ((10, rule.types_agree) ∷ (11, rule.cases_are_distinct) ∷ (12, rule.last_ends_body) ∷ []) (stmt_at s' k stmt) =
      ((λ i. not (known_uses (rule.stmt_uses stmt) all i) || same_stmt_suits stmt all i) ∙ hold.1.1.1.1.1.0, cases) in
      let typed : rule.expressions_are_typed (stmt_at s' k stmt) ≡ true =
      (λ i. not (known_uses (rule.stmt_uses stmt) all i) || same_typed stmt i) ∙ hold.1.1.1.1.0 in
      (hold.0, (hold.1.0, (hold.1.1.0, (known_uses (rule.stmt_uses stmt) all ∙ hold.1.1.1.0, (typed, types)))))

  pub stmts_hold : (k : ℕ) (stmts : List tree.Stmt) → Each needed (flat_map stmt_functions stmts) → StmtsHold s k stmts
      → StmtsHold s' k stmts
  stmts_hold k [] all hold = tt
  stmts_hold k (stmt ∷ stmts) all hold =
      let two = all_split (λ (x : Name). needed x ≡ true) (stmt_functions stmt) (flat_map stmt_functions stmts) all in
      (stmt_holds k stmt two.0 hold.0, stmts_hold (k + 1) stmts two.1 hold.1)
