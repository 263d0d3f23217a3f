-- An argument of a type evaluates to a value of it, or to what is undefined.
use Rattle.c_sound.proofs.Common.{◌≡◌, Bool, true, false, ◌&&◌, ◌||◌, List, [], ◌∷◌, is_some, Some, None, Option, flat_map, sym, refl, ap}
use Rattle.c_sound.proofs.Common.{◌∙◌, subst, and_parts, false≢true, or_left, or_right, list_all-append, list_all, by_test, if_found, named}
use Rattle.c_sound.proofs.Common.{Value, I32, I64, arg_has_type, arg_suits, arg_uses, args_suit, expr_uses, has_same_type, has_type}
use Rattle.c_sound.proofs.Common.{is_known, same_type, HasType, Scope, Typing, common_type, file_functions, file_variables, is_comparison}
use Rattle.c_sound.proofs.Common.{is_number_type, is_object_type, may_be_narrowed, number_type, op_typing, pointed_by, pointer_to, type_of}
use Rattle.c_sound.proofs.Common.{typed_if, typing_of, value_typing, variables, COp, CType, N32, N64, Plain, Program, is_object, memory_in}
use Rattle.c_sound.proofs.Common.{table_in, var_in, CValue, FuncPointer, Is, Machine, Name, Number, ObjectAddress, Pointer, Running}
use Rattle.c_sound.proofs.Common.{then_evaluate, evaluate, evaluate_arg, evaluate_args, in_unit, value_of, OfType, OfTypes, ScopeOf}
use Rattle.c_sound.proofs.Common.{TypedMachine, VarsOf, own_variables, type_at, arith}
use Rattle.c_tree.specs.declared.tree.CType.TheVariants as type
use Rattle.c_tree.specs.Tree as tree
use Rattle.c_sound.proofs.Choices.{by_option}
use Rattle.c_tree.proofs.SameTypes.{type_same}
use Rattle.c_sound.proofs.Evaluates.{Comes, comes_then, IsSuch, value_is, evaluates, one_type, narrowed, pointed_number}

pub such_is_value : (p : Program) (t : CType) (v : Value) → IsSuch (HasType t) v → OfType p t (Number v)
such_is_value p type.U32 (I32 n) h = record { is = refl; points = tt }
such_is_value p type.U64 (I64 n) h = record { is = refl; points = tt }
such_is_value p _ _ h = absurd h

-- a pointer to an object
pointer_is : (p : Program) (a : ObjectAddress) (target t : CType) → type_at p a ≡ Some target → pointer_to target ≡ Some t
    → OfType p t (Pointer (Some a))
pointer_is p a target t there e = grind arith

-- what is pointed to is there
object_there : (p : Program) (m : Machine) (a : ObjectAddress) (target t : CType) → TypedMachine p m → type_at p a ≡ Some target
    → pointer_to target ≡ Some t → is_object m a ≡ true
object_there p m a type.U32 t machine there e = let held = machine.vars a type.U32 there refl in rw held.1 refl
object_there p m a type.U64 t machine there e = let held = machine.vars a type.U64 there refl in rw held.1 refl
object_there p m a type.Mem t machine there e =
    let held = machine.memories a there in
    or_left (is_some (var_in m a) || is_some (memory_in m a)) (is_some (table_in m a))
    (or_right (is_some (var_in m a)) (is_some (memory_in m a)) (rw held.1 refl))
object_there p m a type.Tab t machine there e =
    let held = machine.tables a there in
    or_right (is_some (var_in m a) || is_some (memory_in m a)) (is_some (table_in m a)) (rw held.1 refl)
object_there p m a _ t machine there e = absurd cc

pub has_it : (s : Scope) (e : tree.Expr) (t : CType) → has_type s e ≡ true → has_same_type (type_of s e) t ≡ true
    → typing_of s e ≡ HasType t
has_it s e t typed suits = grind (arith, type_same)

module _ (p : Program) (m : Machine) (r : Running) (s : Scope) (machine : TypedMachine p m) (scope : ScopeOf p r.unit s)
    (vars : VarsOf p (own_variables s) r.vars) where
  number_arg : (e : tree.Expr) (t : CType) → list_all (is_known s) (expr_uses e) ≡ true → typing_of s e ≡ HasType t
      → may_be_narrowed (typing_of s e) ≡ true → Comes (OfType p t) (then_evaluate (evaluate p m r e) (λ v. Is (Number v)))
  number_arg e t known is narrow = comes_then (IsSuch (HasType t)) (OfType p t) (evaluate p m r e) (λ v. Is (Number v))
      (subst (λ (n : Typing). Comes (IsSuch n) (evaluate p m r e)) is (evaluates p m r s machine scope vars e known narrow))
      (λ v such. such_is_value p t v such)

  narrow_if : (b : Bool) (t u : CType) → typed_if b (HasType u) ≡ HasType t → is_number_type u ≡ true
      → may_be_narrowed (typed_if b (HasType u)) ≡ true
  narrow_if true t u is number = number
  narrow_if false t u is number = absurd cc

  narrow_op : (o : COp) (c : Option CType) (t : CType) → op_typing o c ≡ HasType t
      → ((u : CType) → c ≡ Some u → is_number_type u ≡ true) → may_be_narrowed (op_typing o c) ≡ true
  narrow_op o None t is number = absurd cc
  narrow_op o (Some u) t is number = by_test (is_comparison o)
      (λ compares. rw compares refl)
      (λ plain. rw plain (number u refl))

  narrow_star : (c : Option CType) (t : CType) → value_typing c ≡ HasType t → ((u : CType) → c ≡ Some u → is_number_type u ≡ true)
      → may_be_narrowed (value_typing c) ≡ true
  narrow_star None t is number = absurd cc
  narrow_star (Some u) t is number = number u refl

  pointed_found : (o : Option CType) (u : CType) → if_found o pointed_by ≡ Some u → is_number_type u ≡ true
  pointed_found None u e = absurd cc
  pointed_found (Some t) u e = (pointed_number t u e).0

  pub name_arg : (name : Name) (t : CType) → typing_of s (tree.Name name) ≡ HasType t
      → (v : CValue) × (value_of m r name ≡ Some v) × OfType p t v
  name_arg name t is = by_option (named name (variables s))
      (λ none. absurd (let f = rw none at is in cc))
      (λ u there. by_test (is_object_type u)
      (λ object. absurd (let f = rw (there, object) at is in cc))
      (λ plain. let f = rw (there, plain) at is in let same : u ≡ t = cc in
      value_is p m r s machine scope vars name t (there ∙ ap Some same) (subst (λ (x : CType). is_object_type x ≡ false) same plain)))

  value_arg : (e : tree.Expr) (t : CType) → list_all (is_known s) (expr_uses e) ≡ true → typing_of s e ≡ HasType t
      → Comes (OfType p t) (evaluate_arg p m r (tree.Value e))
  value_arg (tree.Name name) t known is = let held = name_arg name t is in rw held.1 held.2
  value_arg (tree.At name i) t known is = absurd (by_test (is_some (number_type (typing_of s i)))
      (λ b. let f = rw b at is in cc) (λ b. let f = rw b at is in cc))
  value_arg (tree.Number (N32 n)) t known is = number_arg (tree.Number (N32 n)) t known is refl
  value_arg (tree.Number (N64 n)) t known is = number_arg (tree.Number (N64 n)) t known is refl
  value_arg (tree.Number (Plain n)) t known is = absurd cc
  value_arg (tree.To32 e) t known is =
      number_arg (tree.To32 e) t known is (narrow_if (may_be_narrowed (typing_of s e)) t type.U32 is refl)
  value_arg (tree.To64 e) t known is =
      number_arg (tree.To64 e) t known is (narrow_if (is_some (number_type (typing_of s e))) t type.U64 is refl)
  value_arg (tree.Star name) t known is = number_arg (tree.Star name) t known is
      (narrow_star (if_found (named name (variables s)) pointed_by) t is (λ u e. pointed_found (named name (variables s)) u e))
  value_arg (tree.Op o a b) t known is = number_arg (tree.Op o a b) t known is
      (narrow_op o (common_type (typing_of s a) (typing_of s b)) t is
      (λ u e. (narrowed (typing_of s a) u (one_type (typing_of s a) (typing_of s b) u e).0).1))

  pub arg_evaluates : (a : tree.Arg) (t : CType) → list_all (is_known s) (arg_uses a) ≡ true → arg_has_type s a ≡ true
      → arg_suits s t a ≡ true → Comes (OfType p t) (evaluate_arg p m r a)
  arg_evaluates (tree.Value e) t known typed suits = value_arg e t known (has_it s e t typed suits)
  arg_evaluates (tree.Address name) t known typed suits = by_option (named name (file_variables s))
      (λ none. absurd (let f = rw (none, arg_suits) at suits in false≢true f))
      (λ target there. by_option (pointer_to target)
      (λ none. absurd (let f = rw (there, none, arg_suits) at suits in false≢true f))
      (λ u points.
      let same : same_type t u ≡ true = rw (there, points, arg_suits) at suits in
      let is : pointer_to target ≡ Some t = points ∙ ap Some (sym (type_same t u same)) in
      let stands = scope.file_vars name target there in
      rw (object_there p m (in_unit r name) target t machine stands is) (pointer_is p (in_unit r name) target t stands is)))
  arg_evaluates (tree.OfFunction name) t known typed suits =
      let parts = and_parts (is_some (named name (file_functions s))) (same_type t type.FnPtr) suits in
      by_option (named name (file_functions s))
      (λ none. absurd (let f = rw none at parts.0 in false≢true f))
      (λ ty there.
      let f = (scope.funcs name ty there).1 in
      rw f.1 (subst (λ (x : CType). OfType p x (FuncPointer (Some f.0))) (sym (type_same t type.FnPtr parts.1))
      (record { is = refl; points = rw f.2 refl })))

  pub args_evaluate : (args : List tree.Arg) (types : List CType) → list_all (is_known s) (flat_map arg_uses args) ≡ true
      → list_all (arg_has_type s) args ≡ true → args_suit s types args ≡ true → Comes (OfTypes p types) (evaluate_args p m r args)
  args_evaluate [] [] known typed suits = tt
  args_evaluate [] (t ∷ types) known typed suits = absurd (false≢true suits)
  args_evaluate (a ∷ args) [] known typed suits = absurd (false≢true suits)
  args_evaluate (a ∷ args) (t ∷ types) known typed suits =
      let split : (list_all (is_known s) (arg_uses a) && list_all (is_known s) (flat_map arg_uses args)) ≡ true =
      sym (list_all-append (is_known s) (arg_uses a) (flat_map arg_uses args)) ∙ known in
      let knowns = and_parts (list_all (is_known s) (arg_uses a)) (list_all (is_known s) (flat_map arg_uses args)) split in
      let typeds = and_parts (arg_has_type s a) (list_all (arg_has_type s) args) typed in
      let suit = and_parts (arg_suits s t a) (args_suit s types args) suits in
      let others = args_evaluate args types knowns.1 typeds.1 suit.1 in
      comes_then (OfType p t) (OfTypes p (t ∷ types)) (evaluate_arg p m r a)
      (λ v. then_evaluate (evaluate_args p m r args) (λ values. Is (v ∷ values)))
      (arg_evaluates a t knowns.0 typeds.0 suit.0)
      (λ v is_v. comes_then (OfTypes p types) (OfTypes p (t ∷ types)) (evaluate_args p m r args) (λ values. Is (v ∷ values)) others
      (λ values are. (is_v, are)))
