-- A statement keeps the rules on statements in a scope that knows its names with its types: one lemma for each
-- form of statement, over lemmas for each form of expression and argument (rules 2, 3, 8 to 11, and that labels
-- that are named are there).
use Rattle.body_rules.proofs.Common.{◌≡◌, ℕ, true, false, List, [], ◌∷◌, ◌++◌, map, is_some, Some, None, Option, flat_map, sym, refl, subst}
use Rattle.body_rules.proofs.Common.{list_all, ⊤, all_join, named, StmtPlace, are_distinct_numbers, arg_uses, case_value, expr_uses, Name}
use Rattle.body_rules.proofs.Common.{is_own_name, is_result_type, is_value_type, is_void, labels_named, number_suits, proper_types, Scope}
use Rattle.body_rules.proofs.Common.{arrays, functions, is_among, is_comparison, is_number_type, is_object_type, variables, COp, CType, N32}
use Rattle.body_rules.proofs.Common.{N64, is_known, stmt_uses, arg_has_type, arg_suits, args_suit, stmt_is_typed, stmt_suits, label_is_free}
use Rattle.body_rules.proofs.Common.{written_type_is_proper, labels_of, cases_are_distinct}
use Rattle.c_tree.specs.declared.tree.CType.TheVariants as type
use Rattle.c_tree.specs.Tree as tree
use Rattle.c_tree.specs.Scope.{file_variables, file_functions, pointed_by, pointer_to, typing_of, Typing, HasType, Compares, common_type}
use Rattle.c_tree.proofs.SameTypes.{same_as_itself}

abbrev pub at : Scope → tree.Stmt → StmtPlace
at s stmt = record { scope = s; number = 0; stmt = stmt }

-- what the rules ask of a statement wherever it stands in its body
pub record Passes (s : Scope) (stmt : tree.Stmt) : Type 0 where
  pub free : label_is_free (at s stmt) ≡ true
  pub written : written_type_is_proper (at s stmt) ≡ true
  pub there : list_all (λ name. is_among name (labels_of s.body.stmts)) (labels_named stmt) ≡ true
  pub known : list_all (is_known s) (stmt_uses stmt) ≡ true
  pub typed : stmt_is_typed s stmt ≡ true
  pub suits : stmt_suits s stmt ≡ true
  pub cases : cases_are_distinct (at s stmt) ≡ true

-- ---- expressions

pub record IsTyped (s : Scope) (e : tree.Expr) (ty : Typing) : Type 0 where
  pub known : list_all (is_known s) (expr_uses e) ≡ true
  pub typed : typing_of s e ≡ ty

pub name_typed : (s : Scope) (n : Name) (t : CType) → named n (variables s) ≡ Some t → is_object_type t ≡ false
    → IsTyped s (tree.Name n) (HasType t)
name_typed s n t e o = record { known = rw e refl; typed = rw (e, o) refl }

pub star_typed : (s : Scope) (n : Name) (p t : CType) → named n (variables s) ≡ Some p → pointed_by p ≡ Some t
    → IsTyped s (tree.Star n) (HasType t)
star_typed s n p t e o = record { known = rw e refl; typed = rw (e, o) refl }

pub n32_typed : (s : Scope) (n : ℕ) → IsTyped s (tree.Number (N32 n)) (HasType type.U32)
n32_typed s n = record { known = refl; typed = refl }

pub n64_typed : (s : Scope) (n : ℕ) → IsTyped s (tree.Number (N64 n)) (HasType type.U64)
n64_typed s n = record { known = refl; typed = refl }

common : (t : CType) (left right : Typing) → is_number_type t ≡ true → left ≡ HasType t → right ≡ HasType t
    → common_type left right ≡ Some t
common t left right n e f = rw (e, f) (rw n (rw (same_as_itself t) refl))

pub op_typed : (s : Scope) (o : COp) (a b : tree.Expr) (t : CType) → is_comparison o ≡ false → is_number_type t ≡ true
    → IsTyped s a (HasType t) → IsTyped s b (HasType t) → IsTyped s (tree.Op o a b) (HasType t)
op_typed s o a b t c n p q = record {
  known = all_join (is_known s) (expr_uses a) (expr_uses b) p.known q.known;
  typed = rw (common t (typing_of s a) (typing_of s b) n p.typed q.typed) (rw c refl);
}

pub compare_typed : (s : Scope) (o : COp) (a b : tree.Expr) (t : CType) → is_comparison o ≡ true → is_number_type t ≡ true
    → IsTyped s a (HasType t) → IsTyped s b (HasType t) → IsTyped s (tree.Op o a b) Compares
compare_typed s o a b t c n p q = record {
  known = all_join (is_known s) (expr_uses a) (expr_uses b) p.known q.known;
  typed = rw (common t (typing_of s a) (typing_of s b) n p.typed q.typed) (rw c refl);
}

pub flag_typed : (s : Scope) (e : tree.Expr) → IsTyped s e Compares → IsTyped s (tree.To32 e) (HasType type.U32)
flag_typed s e p = record { known = p.known; typed = rw p.typed refl }

pub narrow_typed : (s : Scope) (e : tree.Expr) (t : CType) → is_number_type t ≡ true → IsTyped s e (HasType t)
    → IsTyped s (tree.To32 e) (HasType type.U32)
narrow_typed s e t n p = record { known = p.known; typed = rw p.typed (rw n refl) }

pub wide_typed : (s : Scope) (e : tree.Expr) (t : CType) → is_number_type t ≡ true → IsTyped s e (HasType t)
    → IsTyped s (tree.To64 e) (HasType type.U64)
wide_typed s e t n p = record { known = p.known; typed = rw p.typed (rw n refl) }

pub element_typed : (s : Scope) (n : Name) (i : tree.Expr) (t : CType) → is_among n (arrays s) ≡ true → is_number_type t ≡ true
    → IsTyped s i (HasType t) → IsTyped s (tree.To32 (tree.At n i)) (HasType type.U32)
element_typed s n i t a k p = record { known = rw (a, p.known) refl; typed = rw p.typed (rw k refl) }

-- ---- arguments

pub record IsArg (s : Scope) (t : CType) (a : tree.Arg) : Type 0 where
  pub known : list_all (is_known s) (arg_uses a) ≡ true
  pub typed : arg_has_type s a ≡ true
  pub suits : arg_suits s t a ≡ true

pub value_arg : (s : Scope) (e : tree.Expr) (t : CType) → IsTyped s e (HasType t) → IsArg s t (tree.Value e)
value_arg s e t p = record { known = p.known; typed = rw p.typed refl; suits = rw p.typed (same_as_itself t) }

pub address_arg : (s : Scope) (n : Name) (u t : CType) → is_some (named n (variables s)) ≡ true → named n (file_variables s) ≡ Some u
    → pointer_to u ≡ Some t → IsArg s t (tree.Address n)
address_arg s n u t k f p = record { known = rw k refl; typed = refl; suits = rw (f, p, arg_suits) (same_as_itself t) }

pub function_arg : (s : Scope) (n : Name) → is_some (named n (functions s)) ≡ true → is_some (named n (file_functions s)) ≡ true
    → IsArg s type.FnPtr (tree.OfFunction n)
function_arg s n k f = record { known = rw k refl; typed = refl; suits = rw f refl }

abbrev pub AreArgs : Scope → List CType → List tree.Arg → Type 0
AreArgs s [] [] = ⊤
AreArgs s (t ∷ types) (a ∷ args) = IsArg s t a × AreArgs s types args
AreArgs s _ _ = ⊥

are_args : (s : Scope) (types : List CType) (args : List tree.Arg) → AreArgs s types args
    → (list_all (is_known s) (flat_map arg_uses args) ≡ true) × (list_all (arg_has_type s) args ≡ true) × (args_suit s types args ≡ true)
are_args s [] [] h = (refl, refl, refl)
are_args s (t ∷ types) (a ∷ args) h =
    let rest = are_args s types args h.1 in
    (all_join (is_known s) (arg_uses a) (flat_map arg_uses args) h.0.known rest.0, rw (h.0.typed, rest.1) refl, rw (h.0.suits, rest.2) refl)
are_args s [] (a ∷ args) h = absurd h
are_args s (t ∷ types) [] h = absurd h

-- ---- statements

-- what the rules ask, in this order: labels and cases that differ, a proper type, labels that are there, known names, types that fit
passes : (s : Scope) (stmt : tree.Stmt) → label_is_free (at s stmt) ≡ true → cases_are_distinct (at s stmt) ≡ true
    → written_type_is_proper (at s stmt) ≡ true → list_all (λ name. is_among name (labels_of s.body.stmts)) (labels_named stmt) ≡ true
    → list_all (is_known s) (stmt_uses stmt) ≡ true → stmt_is_typed s stmt ≡ true → stmt_suits s stmt ≡ true → Passes s stmt
passes s stmt free cases written there known typed suits =
    record { free = free; written = written; there = there; known = known; typed = typed; suits = suits; cases = cases }

pub label_passes : (s : Scope) (n : Name) → is_own_name n ≡ true → Passes s (tree.Label n)
label_passes s n e = passes s (tree.Label n) e refl refl refl refl refl refl

pub null_passes : (s : Scope) → Passes s tree.Null
null_passes s = passes s tree.Null refl refl refl refl refl refl refl

pub goto_passes : (s : Scope) (n : Name) → is_among n (labels_of s.body.stmts) ≡ true → Passes s (tree.Goto n)
goto_passes s n e = passes s (tree.Goto n) refl refl refl (rw e refl) refl refl refl

pub set_passes : (s : Scope) (n : Name) (a : tree.Arg) (t : CType) → named n (variables s) ≡ Some t → is_object_type t ≡ false → IsArg s t a
    → Passes s (tree.Set n a)
set_passes s n a t e o p =
    passes s (tree.Set n a) refl refl refl refl (rw (e, p.known) refl) (rw e (rw (o, p.typed) refl)) (rw e (rw p.suits refl))

pub set_star_passes : (s : Scope) (n : Name) (e : tree.Expr) (p t : CType) → named n (variables s) ≡ Some p → pointed_by p ≡ Some t
    → IsTyped s e (HasType t) → Passes s (tree.SetStar n e)
set_star_passes s n e p t k o typed = passes s (tree.SetStar n e) refl refl refl refl (rw (k, typed.known) refl)
    (rw k (rw (o, typed.typed) refl)) (rw k (rw (o, typed.typed) (same_as_itself t)))

-- what a call's value is assigned to
abbrev pub TakesResult : Scope → CType → Option Name → Type 0
TakesResult s t None = ⊤
TakesResult s t (Some n) = (named n (variables s) ≡ Some t) × (is_object_type t ≡ false) × (is_void t ≡ false)

pub call_passes : (s : Scope) (target : Option Name) (name : Name) (args : List tree.Arg) (ty : tree.FuncType)
    → named name (functions s) ≡ Some ty → AreArgs s (proper_types ty.params) args → TakesResult s ty.result target
    → Passes s (tree.Call target (tree.Called name) args)
call_passes s None name args ty e as_args takes =
    let are = are_args s (proper_types ty.params) args as_args in
    passes s (tree.Call None (tree.Called name) args) refl refl refl refl (rw (e, are.0) refl) are.1 (rw e (rw are.2 refl))
call_passes s (Some n) name args ty e as_args takes =
    let are = are_args s (proper_types ty.params) args as_args in
    passes s (tree.Call (Some n) (tree.Called name) args) refl refl refl refl (rw (takes.0, e, are.0) refl)
    (rw takes.0 (rw (takes.1, are.1) refl)) (rw e (rw are.2 (rw (takes.2, takes.0) (same_as_itself ty.result))))

pub through_passes : (s : Scope) (target : Option Name) (name : Name) (args : List tree.Arg) (ty : tree.FuncType)
    → named name (variables s) ≡ Some type.FnPtr → is_result_type ty.result ≡ true → list_all is_value_type (proper_types ty.params) ≡ true
    → AreArgs s (proper_types ty.params) args → TakesResult s ty.result target → Passes s (tree.Call target (tree.Through ty name) args)
through_passes s None name args ty e r v as_args takes =
    let are = are_args s (proper_types ty.params) args as_args in
    passes s (tree.Call None (tree.Through ty name) args) refl refl (rw (r, v) refl) refl (rw (e, are.0) refl) (rw e are.1) (rw are.2 refl)
through_passes s (Some n) name args ty e r v as_args takes =
    let are = are_args s (proper_types ty.params) args as_args in
    passes s (tree.Call (Some n) (tree.Through ty name) args) refl refl (rw (r, v) refl) refl (rw (takes.0, e, are.0) refl)
    (rw (takes.0, e) (rw (takes.1, are.1) refl)) (rw are.2 (rw (takes.2, takes.0) (same_as_itself ty.result)))

pub if_passes : (s : Scope) (o : COp) (a b : tree.Expr) (n : Name) (t : CType) → is_comparison o ≡ true → is_number_type t ≡ true
    → IsTyped s a (HasType t) → IsTyped s b (HasType t) → is_among n (labels_of s.body.stmts) ≡ true → Passes s (tree.If o a b n)
if_passes s o a b n t c k p q there = passes s (tree.If o a b n) refl refl refl (rw there refl)
    (all_join (is_known s) (expr_uses a) (expr_uses b) p.known q.known)
    (rw (c, common t (typing_of s a) (typing_of s b) k p.typed q.typed) refl) refl

pub switch_passes : (s : Scope) (e : tree.Expr) (cases : List tree.Case) (n : Name) → IsTyped s e (HasType type.U32)
    → list_all (λ (c : tree.Case). number_suits type.U32 c.0) cases ≡ true → are_distinct_numbers (map case_value cases) ≡ true
    → list_all (λ name. is_among name (labels_of s.body.stmts)) (map (λ (c : tree.Case). c.1) cases ++ n ∷ []) ≡ true
    → Passes s (tree.Switch e cases n)
switch_passes s e cases n p suit distinct there = passes s (tree.Switch e cases n) refl (rw p.typed (rw (suit, distinct) refl)) refl there
    p.known (rw p.typed refl) refl

pub return_none_passes : (s : Scope) → is_void s.func.result ≡ true → Passes s tree.ReturnNone
return_none_passes s e = passes s tree.ReturnNone refl refl refl refl refl refl e

pub return_passes : (s : Scope) (a : tree.Arg) → is_void s.func.result ≡ false → IsArg s s.func.result a → Passes s (tree.Return a)
return_passes s a e p = passes s (tree.Return a) refl refl refl refl p.known p.typed (rw (e, p.suits) refl)

-- the parameters of the type by another list
pub call_passes_as : (s : Scope) (target : Option Name) (name : Name) (args : List tree.Arg) (ty : tree.FuncType) (types : List CType)
    → named name (functions s) ≡ Some ty → proper_types ty.params ≡ types → AreArgs s types args → TakesResult s ty.result target
    → Passes s (tree.Call target (tree.Called name) args)
call_passes_as s target name args ty types e p as_args takes =
    call_passes s target name args ty e (subst (λ ts. AreArgs s ts args) (sym p) as_args) takes
