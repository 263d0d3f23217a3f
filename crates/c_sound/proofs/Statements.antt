-- A statement of a typed state is never stuck, and the next state is typed.
use Rattle.c_sound.proofs.Common.{◌≡◌, Bool, true, false, not, ◌&&◌, ◌≢◌, List, [], ◌∷◌, ◌++◌, map, is_some, if◌then◌else◌, ◌==◌, Some}
use Rattle.c_sound.proofs.Common.{None, codes, Option, flat_map, bytes_eq, sym, refl, ap, ◌∙◌, subst, inl, inr, and_parts, both_ways}
use Rattle.c_sound.proofs.Common.{false≢true, not-true, or_cases, list_all-append, bytes_eq-Decides, list_all, by_test, named, number_of}
use Rattle.c_sound.proofs.Common.{Value, I32, arg_has_type, arg_suits, arg_uses, args_suit, call_suits, callee_type, callee_uses}
use Rattle.c_sound.proofs.Common.{cases_suit, ends_body, expr_uses, has_same_type, has_type, if_any, is_known, is_void, labels_of}
use Rattle.c_sound.proofs.Common.{may_be_assigned, may_be_called, number_suits, points_to_number, proper_types, target_suits, target_uses}
use Rattle.c_sound.proofs.Common.{same_type, HasType, Scope, Typing, common_type, file_functions, functions, is_among, is_comparison}
use Rattle.c_sound.proofs.Common.{is_number_type, is_object_type, may_be_narrowed, pointed_by, type_of, typing_of, value_type, variables}
use Rattle.c_sound.proofs.Common.{COp, CType, Program, var_in, with_var, Bad, CValue, Evaluated, Frame, Is, Machine, Name, NoRule, Number}
use Rattle.c_sound.proofs.Common.{Place, Running, State, Stuck, found, then_evaluate, Step, Stops, act, after_label, as_object, assign}
use Rattle.c_sound.proofs.Common.{at_rest, c_step, call_callee, call_through, equal_number, evaluate, evaluate_arg, evaluate_args, jump}
use Rattle.c_sound.proofs.Common.{label_of, next, place_of, put_in, returned, take_effect, value_of, with_value, OfType, OfTypes, Sound}
use Rattle.c_sound.proofs.Common.{SoundStmt, Takes, TypedBelow, TypedMachine, TypedProgram, TypedRunning, TypedState, TypedStep, type_at}
use Rattle.c_sound.proofs.Common.{arith}
use Rattle.c_tree.specs.declared.tree.CType.TheVariants as type
use Rattle.c_tree.specs.Tree as tree
use Rattle.c_tree.specs.Runtime as header
use Rattle.c_meaning.specs.Primitives as prim
use Rattle.c_sound.proofs.Choices.{by_option, named_behind, same_some}
use Rattle.c_sound.proofs.Lists.{cons_not_none}
use Rattle.c_tree.proofs.SameTypes.{type_same}
use Rattle.c_sound.proofs.Evaluates.{Comes, IsSuch, value_is, evaluates, pointed_number, plain_number, object_of}
use Rattle.c_sound.proofs.Arguments.{such_is_value, has_it, arg_evaluates, args_evaluate}
use Rattle.c_sound.proofs.Changes.{one_type_of, var_keeps}
use Rattle.c_sound.proofs.Primitives.{TypedEffect, primitive_typed}
use Rattle.c_sound.proofs.Assigns.{assign_typed, returned_typed}
use Rattle.c_sound.proofs.Calls.{named_call_typed, through_typed}

-- ---- labels

-- behind a label that is there a statement stands
label_found : (s : Scope) (name : Name) (stmts : List tree.Stmt) → Sound s stmts → is_among name (labels_of stmts) ≡ true
    → (rest : List tree.Stmt) × (after_label name stmts ≡ Some rest) × Sound s rest × (rest ≢ [])
label_found s name [] sound among = absurd (false≢true among)
label_found s name (tree.Label x ∷ stmts) sound among = by_test (bytes_eq x name)
    (λ is. (stmts, rw is refl, sound.2, λ empty. false≢true (sound.1 empty)))
    (λ is.
    let differ : bytes_eq name x ≡ true → ⊥ = λ e.
    both_ways (bytes_eq x name) is ((bytes_eq-Decides x name).1 (sym ((bytes_eq-Decides name x).0 e))) in
    elim (or_cases (bytes_eq name x) (is_among name (labels_of stmts)) among) [
      | inl e ↦ absurd (differ e)
      | inr behind ↦
          let f = label_found s name stmts sound.2 behind in
          (f.0, rw is f.1, f.2, f.3)
    ])
label_found s name (_ ∷ stmts) sound among = label_found s name stmts sound.2 among

-- a label of a switch is among those that it names
switch_label : (test : Name → Bool) (v : Value) (cases : List tree.Case) (default : Name)
    → list_all test (map (λ (c : tree.Case). c.1) cases ++ default ∷ []) ≡ true → test (label_of v cases default) ≡ true
switch_label test v [] default e = (and_parts (test default) true e).0
switch_label test v (c ∷ cases) default e =
    let parts = and_parts (test c.1) (list_all test (map (λ (c : tree.Case). c.1) cases ++ default ∷ [])) e in
    by_test (equal_number v c.0)
    (λ is. rw is parts.0)
    (λ is. rw is (switch_label test v cases default parts.1))

module _ (p : Program) (program : TypedProgram p) (last : CType) (m : Machine) (machine : TypedMachine p m) (r : Running)
    (run : TypedRunning p r) (below : List Frame) (is_below : TypedBelow p last r.result below) where
  abbrev s : Scope
  s = run.scope

  with_value_typed : {A : Type 0} (good : A → Type 0) (place : Place) (x : Evaluated A) (go : A → Step) → Comes good x
      → ((a : A) → good a → TypedStep p last (go a)) → TypedStep p last (with_value m place x go)
  with_value_typed good place (Is a) go h k = k a h
  with_value_typed good place (Bad kind) go h k = tt
  with_value_typed good place NoRule go h k = absurd h

  -- the function with other statements to come
  abbrev rest_typed : (rest : List tree.Stmt) → Sound s rest → rest ≢ [] → TypedRunning p (at_rest r rest)
  rest_typed rest sound more = record {
    scope = run.scope;
    scope_is = run.scope_is;
    stmts = run.stmts;
    result = run.result;
    whole = run.whole;
    sound = sound;
    more = more;
    vars = run.vars;
  }

  next_typed : (rest : List tree.Stmt) → Sound s rest → rest ≢ [] → TypedStep p last (next m (at_rest r rest) below)
  next_typed rest sound more = record { machine = machine; running = rest_typed rest sound more; below = is_below }

  jump_typed : (name : Name) → is_among name (labels_of s.body.stmts) ≡ true → TypedStep p last (jump m r name below)
  jump_typed name among =
      let there = label_found s name s.body.stmts run.whole among in
      let is : after_label name r.stmts ≡ Some there.0 = ap (after_label name) run.stmts ∙ there.1 in
      subst (λ (o : Option (List tree.Stmt)). TypedStep p last
      (elim o [ None ↦ Stops m Stuck | Some rest ↦ next m (at_rest r rest) below ]))
      (sym is) (next_typed there.0 there.2 there.3)

  -- a name that is known, and its type
  known_type : (name : Name) → is_some (named name (variables s)) ≡ true → (t : CType) × (named name (variables s) ≡ Some t)
  known_type name known = by_option (named name (variables s))
      (λ none. absurd (let f = rw none at known in false≢true f))
      (λ t there. (t, there))

  set_typed : (name : Name) (a : tree.Arg) (rest : List tree.Stmt) → SoundStmt s (tree.Set name a) → Sound s rest → rest ≢ []
      → TypedStep p last (act p m r (tree.Set name a ∷ rest) below)
  set_typed name a rest is sound more =
      let knowns = and_parts (is_some (named name (variables s))) (list_all (is_known s) (arg_uses a)) is.known in
      let t = known_type name knowns.0 in
      let typeds = and_parts (may_be_assigned s name) (arg_has_type s a) is.typed in
      let plain : not (is_object_type t.0) ≡ true = rw t.1 at typeds.0 in
      let suits : arg_suits s t.0 a ≡ true = rw t.1 at is.suits in
      with_value_typed (OfType p t.0) (place_of r rest) (evaluate_arg p m r a) (λ v. assign m (at_rest r rest) name v below)
      (arg_evaluates p m r s machine run.scope_is run.vars a t.0 knowns.1 typeds.1 suits)
      (λ v is_v. assign_typed p last m (at_rest r rest) name t.0 v below machine (rest_typed rest sound more) t.1
      (not-true (is_object_type t.0) plain) is_v is_below)

  set_star_typed : (name : Name) (e : tree.Expr) (rest : List tree.Stmt) → SoundStmt s (tree.SetStar name e) → Sound s rest → rest ≢ []
      → TypedStep p last (act p m r (tree.SetStar name e ∷ rest) below)
  set_star_typed name e rest is sound more =
      let knowns = and_parts (is_some (named name (variables s))) (list_all (is_known s) (expr_uses e)) is.known in
      let t = known_type name knowns.0 in
      let typeds = and_parts (points_to_number s name) (has_type s e) is.typed in
      by_option (pointed_by t.0)
      (λ none. absurd (let f = rw (t.1, none) at typeds.0 in false≢true f))
      (λ u points.
      let suits : has_same_type (type_of s e) u ≡ true = rw (t.1, points) at is.suits in
      let kinds = pointed_number t.0 u points in
      let typing : typing_of s e ≡ HasType u = has_it s e u typeds.1 suits in
      let comes : Comes (IsSuch (HasType u)) (evaluate p m r e) = subst (λ n. Comes (IsSuch n) (evaluate p m r e)) typing
      (evaluates p m r s machine run.scope_is run.vars e knowns.1 (rw typing kinds.0)) in
      let pointer = value_is p m r s machine run.scope_is run.vars name t.0 t.1 kinds.1 in
      let target : Comes (λ a. type_at p a ≡ Some u) (then_evaluate (found (value_of m r name)) as_object) =
      subst (λ (o : Option CValue). Comes (λ a. type_at p a ≡ Some u) (then_evaluate (found o) as_object)) (sym pointer.1)
      (object_of p t.0 u pointer.0 points pointer.2) in
      with_value_typed (IsSuch (HasType u)) (place_of r rest) (evaluate p m r e)
      (λ v. with_value m (place_of r rest) (then_evaluate (found (value_of m r name)) as_object) (λ a.
      put_in m (var_in m a) (Number v) (next (with_var m a (Number v)) (at_rest r rest) below))) comes
      (λ v such. with_value_typed (λ a. type_at p a ≡ Some u) (place_of r rest) (then_evaluate (found (value_of m r name)) as_object)
      (λ a. put_in m (var_in m a) (Number v) (next (with_var m a (Number v)) (at_rest r rest) below)) target
      (λ a at_a.
      let held = machine.vars a u at_a (plain_number u kinds.0) in
      let is_v = such_is_value p u v such in
      let step_is : put_in m (var_in m a) (Number v) (next (with_var m a (Number v)) (at_rest r rest) below)
      ≡ next (with_var m a (Number v)) (at_rest r rest) below =
      rw (held.1, one_type_of p u held.0 (Number v) held.2 is_v) refl in
      subst (TypedStep p last) (sym step_is) (record {
        machine = var_keeps p m a u held.0 (Number v) machine at_a held.1 is_v;
        running = rest_typed rest sound more;
        below = is_below;
      }))))

  takes_it : (target : Option Name) (t : CType) → list_all (is_known s) (target_uses target) ≡ true
      → if_any target (may_be_assigned s) ≡ true → target_suits s t target ≡ true → Takes s t target
  takes_it None t known typed suits = tt
  takes_it (Some name) t known typed suits =
      let u = known_type name (and_parts (is_some (named name (variables s))) true known).0 in
      let parts = and_parts (not (is_void t)) (has_same_type (named name (variables s)) t) suits in
      let plain : not (is_object_type u.0) ≡ true = rw u.1 at typed in
      let same : same_type t u.0 ≡ true = rw u.1 at parts.1 in
      let is : t ≡ u.0 = type_same t u.0 same in (
        u.1 ∙ ap Some (sym is),
        subst (λ (x : CType). is_object_type x ≡ false) (sym is) (not-true (is_object_type u.0) plain),
        not-true (is_void t) parts.0,
      )

  -- ---- calls

  known_func : (name : Name) → is_some (named name (functions s)) ≡ true → (ty : tree.FuncType) × (named name (functions s) ≡ Some ty)
  known_func name known = by_option (named name (functions s))
      (λ none. absurd (let f = rw none at known in false≢true f))
      (λ ty there. (ty, there))

  -- the parts of what a call's rules say
  pub record CallParts (target : Option Name) (callee : tree.Callee) (args : List tree.Arg) : Type 0 where
    pub target_known : list_all (is_known s) (target_uses target) ≡ true
    pub callee_known : list_all (is_known s) (callee_uses callee) ≡ true
    pub args_known : list_all (is_known s) (flat_map arg_uses args) ≡ true
    pub target_typed : if_any target (may_be_assigned s) ≡ true
    pub callee_typed : may_be_called s callee ≡ true
    pub args_typed : list_all (arg_has_type s) args ≡ true

  call_parts : (target : Option Name) (callee : tree.Callee) (args : List tree.Arg) → SoundStmt s (tree.Call target callee args)
      → CallParts target callee args
  call_parts target callee args is =
      let uses = and_parts (list_all (is_known s) (target_uses target))
      (list_all (is_known s) (callee_uses callee ++ flat_map arg_uses args))
      (sym (list_all-append (is_known s) (target_uses target) (callee_uses callee ++ flat_map arg_uses args)) ∙ is.known) in
      let behind = and_parts (list_all (is_known s) (callee_uses callee)) (list_all (is_known s) (flat_map arg_uses args))
      (sym (list_all-append (is_known s) (callee_uses callee) (flat_map arg_uses args)) ∙ uses.1) in
      let typeds = and_parts (if_any target (may_be_assigned s) && may_be_called s callee) (list_all (arg_has_type s) args) is.typed in
      let front = and_parts (if_any target (may_be_assigned s)) (may_be_called s callee) typeds.0 in
      record {
        target_known = uses.0;
        callee_known = behind.0;
        args_known = behind.1;
        target_typed = front.0;
        callee_typed = front.1;
        args_typed = typeds.1;
      }

  call_comes : (target : Option Name) (callee : tree.Callee) (args : List tree.Arg) (ty : tree.FuncType)
      → SoundStmt s (tree.Call target callee args) → callee_type s callee ≡ Some ty
      → Comes (OfTypes p (proper_types ty.params)) (evaluate_args p m r args) × Takes s ty.result target
  call_comes target callee args ty is there =
      let parts = call_parts target callee args is in
      let suits : call_suits s target args ty ≡ true = rw there at is.suits in
      let both = and_parts (args_suit s (proper_types ty.params) args) (target_suits s ty.result target) suits in (
        args_evaluate p m r s machine run.scope_is run.vars args (proper_types ty.params) parts.args_known parts.args_typed both.0,
        takes_it target ty.result parts.target_known parts.target_typed both.1,
      )

  abbrev waiting : Option Name → List tree.Stmt → List Frame
  waiting target rest = record { target = target; running = at_rest r rest } ∷ below

  call_typed : (target : Option Name) (callee : tree.Callee) (args : List tree.Arg) (rest : List tree.Stmt)
      → SoundStmt s (tree.Call target callee args) → Sound s rest → rest ≢ []
      → TypedStep p last (act p m r (tree.Call target callee args ∷ rest) below)
  call_typed target (tree.Called name) args rest is sound more =
      let parts = call_parts target (tree.Called name) args is in
      let ty = known_func name (and_parts (is_some (named name (functions s))) true parts.callee_known).0 in
      let comes = call_comes target (tree.Called name) args ty.0 is ty.1 in
      with_value_typed (OfTypes p (proper_types (ty.0).params)) (place_of r rest) (evaluate_args p m r args)
      (λ values. call_callee p (tree.Called name) (place_of r rest) m r values (waiting target rest)) comes.0
      (λ values are. named_call_typed p program last m machine r.unit s name ty.0 (place_of r rest) values (waiting target rest)
      run.scope_is ty.1 are (rest_typed rest sound more, comes.1, is_below))
  call_typed target (tree.Through want name) args rest is sound more =
      let parts = call_parts target (tree.Through want name) args is in
      let t = known_type name (and_parts (is_some (named name (variables s))) true parts.callee_known).0 in
      let same : same_type t.0 type.FnPtr ≡ true = rw t.1 at parts.callee_typed in
      let there : named name (variables s) ≡ Some type.FnPtr = t.1 ∙ ap Some (type_same t.0 type.FnPtr same) in
      let held = value_is p m r s machine run.scope_is run.vars name type.FnPtr there refl in
      let comes = call_comes target (tree.Through want name) args want is refl in
      with_value_typed (OfTypes p (proper_types want.params)) (place_of r rest) (evaluate_args p m r args)
      (λ values. call_callee p (tree.Through want name) (place_of r rest) m r values (waiting target rest)) comes.0
      (λ values are. subst
      (λ (o : Option CValue). TypedStep p last (call_through p o want (place_of r rest) m values (waiting target rest))) (sym held.1)
      (through_typed p program last m machine held.0 want (place_of r rest) values (waiting target rest) held.2 are
      (rest_typed rest sound more, comes.1, is_below)))

  -- a trap does not come back
  trap_ends : (t : CType) (args : List CValue) (place : Place) (behind : List Frame) → TypedEffect p t (prim.trap args m)
      → TypedStep p last (take_effect (prim.trap args m) place m behind)
  trap_ends t (Number (I32 code) ∷ []) place behind h = grind arith
  trap_ends t _ place behind h = absurd h

  abbrev trap_name : Name
  trap_name = codes "w2c_trap"

  trap_typed : (target : Option Name) (args : List tree.Arg) → SoundStmt s (tree.Call target (tree.Called trap_name) args)
      → TypedStep p last (act p m r (tree.Call target (tree.Called trap_name) args ∷ []) below)
  trap_typed target args is =
      let parts = call_parts target (tree.Called trap_name) args is in
      let ty = known_func trap_name (and_parts (is_some (named trap_name (functions s))) true parts.callee_known).0 in
      let comes = call_comes target (tree.Called trap_name) args ty.0 is ty.1 in
      with_value_typed (OfTypes p (proper_types (ty.0).params)) (place_of r []) (evaluate_args p m r args)
      (λ values. call_callee p (tree.Called trap_name) (place_of r []) m r values (waiting target [])) comes.0
      (λ values are. by_option (named trap_name (file_functions s))
      (λ none.
      let declared : named trap_name header.primitives ≡ Some ty.0 =
      sym (named_behind trap_name (file_functions s) header.primitives none) ∙ ty.1 in
      let does = primitive_typed p m machine trap_name ty.0 declared in
      let same : does.0 ≡ prim.trap = same_some (prim.primitive trap_name) does.0 prim.trap does.1 refl in
      trap_ends (ty.0).result values (place_of r []) (waiting target [])
      (subst (λ (f : List CValue → Machine → prim.Effect). TypedEffect p (ty.0).result (f values m)) same (does.2 values are)))
      (λ t there. let none : prim.primitive trap_name ≡ None = (run.scope_is.funcs trap_name t there).0 in absurd cc))

  last_call : (target : Option Name) (callee : tree.Callee) (args : List tree.Arg) → SoundStmt s (tree.Call target callee args)
      → ends_body (tree.Call target callee args) ≡ true
      → TypedStep p last (act p m r (tree.Call target callee args ∷ []) below)
  last_call target (tree.Called name) args is ends =
      let same : name ≡ trap_name = (bytes_eq-Decides name trap_name).0 ends in
      subst (λ (n : Name). TypedStep p last (act p m r (tree.Call target (tree.Called n) args ∷ []) below)) (sym same)
      (trap_typed target args (subst (λ (n : Name). SoundStmt s (tree.Call target (tree.Called n) args)) same is))
  last_call target (tree.Through want name) args is ends = absurd (false≢true ends)

  any_call : (target : Option Name) (callee : tree.Callee) (args : List tree.Arg) (rest : List tree.Stmt)
      → Sound s (tree.Call target callee args ∷ rest) → TypedStep p last (act p m r (tree.Call target callee args ∷ rest) below)
  any_call target callee args [] sound = last_call target callee args sound.0 (sound.1 refl)
  any_call target callee args (stmt ∷ rest) sound =
      call_typed target callee args (stmt ∷ rest) sound.0 sound.2 (cons_not_none stmt rest)

  -- ---- jumps and returns

  compares : (o : COp) (a b : tree.Expr) → is_comparison o ≡ true → is_some (common_type (typing_of s a) (typing_of s b)) ≡ true
      → may_be_narrowed (typing_of s (tree.Op o a b)) ≡ true
  compares o a b is there = by_option (common_type (typing_of s a) (typing_of s b))
      (λ none. absurd (let f = rw none at there in false≢true f))
      (λ t common. rw (common, is) refl)

  if_typed : (o : COp) (a b : tree.Expr) (name : Name) (rest : List tree.Stmt) → SoundStmt s (tree.If o a b name) → Sound s rest
      → rest ≢ [] → TypedStep p last (act p m r (tree.If o a b name ∷ rest) below)
  if_typed o a b name rest is sound more =
      let typeds = and_parts (is_comparison o) (is_some (common_type (typing_of s a) (typing_of s b))) is.typed in
      let there = (and_parts (is_among name (labels_of s.body.stmts)) true is.labels).0 in
      with_value_typed (IsSuch (typing_of s (tree.Op o a b))) (place_of r rest) (evaluate p m r (tree.Op o a b))
      (λ v. if number_of v == 0 then next m (at_rest r rest) below else jump m r name below)
      (evaluates p m r s machine run.scope_is run.vars (tree.Op o a b) is.known (compares o a b typeds.0 typeds.1))
      (λ v such. by_test (number_of v == 0)
      (λ zero_. rw zero_ (next_typed rest sound more))
      (λ other. rw other (jump_typed name there)))

  typing_is : (n : Typing) (t : CType) → value_type n ≡ Some t → n ≡ HasType t
  typing_is (HasType u) t e = ap HasType (let f : u ≡ t = cc in f)
  typing_is _ t e = absurd cc

  switch_typed : (e : tree.Expr) (cases : List tree.Case) (default : Name) (rest : List tree.Stmt)
      → SoundStmt s (tree.Switch e cases default) → TypedStep p last (act p m r (tree.Switch e cases default ∷ rest) below)
  switch_typed e cases default rest is = by_option (type_of s e)
      (λ none. absurd (let f = rw none at is.typed in false≢true f))
      (λ t there.
      let suits : cases_suit cases t ≡ true = rw there at is.cases in
      let number = (and_parts (is_number_type t) (list_all (λ (c : tree.Case). number_suits t c.0) cases) suits).0 in
      let typing : typing_of s e ≡ HasType t = typing_is (typing_of s e) t there in
      with_value_typed (IsSuch (typing_of s e)) (place_of r rest) (evaluate p m r e) (λ v. jump m r (label_of v cases default) below)
      (evaluates p m r s machine run.scope_is run.vars e is.known (rw typing number))
      (λ v such. jump_typed (label_of v cases default)
      (switch_label (λ name. is_among name (labels_of s.body.stmts)) v cases default is.labels)))

  return_none_typed : (rest : List tree.Stmt) → SoundStmt s tree.ReturnNone
      → TypedStep p last (act p m r (tree.ReturnNone ∷ rest) below)
  return_none_typed rest is = returned_typed p last m r None below machine
      (subst (λ (t : CType). is_void t ≡ true) (sym run.result) is.suits) is_below

  return_typed : (a : tree.Arg) (rest : List tree.Stmt) → SoundStmt s (tree.Return a)
      → TypedStep p last (act p m r (tree.Return a ∷ rest) below)
  return_typed a rest is =
      let suits = and_parts (not (is_void s.func.result)) (arg_suits s s.func.result a) is.suits in
      with_value_typed (OfType p s.func.result) (place_of r rest) (evaluate_arg p m r a) (λ v. returned m r (Some v) below)
      (arg_evaluates p m r s machine run.scope_is run.vars a s.func.result is.known is.typed suits.1)
      (λ v is_v. returned_typed p last m r (Some v) below machine (subst (λ (t : CType). OfType p t v) (sym run.result) is_v) is_below)

  pub act_typed : (rest : List tree.Stmt) → Sound s rest → rest ≢ [] → TypedStep p last (act p m r rest below)
  act_typed [] sound more = absurd (more refl)
  act_typed (tree.Label name ∷ rest) sound more = act_typed rest sound.2 (λ empty. false≢true (sound.1 empty))
  act_typed (tree.Null ∷ rest) sound more = next_typed rest sound.2 (λ empty. false≢true (sound.1 empty))
  act_typed (tree.Set name a ∷ rest) sound more = set_typed name a rest sound.0 sound.2 (λ empty. false≢true (sound.1 empty))
  act_typed (tree.SetStar name e ∷ rest) sound more = set_star_typed name e rest sound.0 sound.2 (λ empty. false≢true (sound.1 empty))
  act_typed (tree.Call target callee args ∷ rest) sound more = any_call target callee args rest sound
  act_typed (tree.Goto name ∷ rest) sound more =
      jump_typed name (and_parts (is_among name (labels_of s.body.stmts)) true (sound.0).labels).0
  act_typed (tree.If o a b name ∷ rest) sound more = if_typed o a b name rest sound.0 sound.2 (λ empty. false≢true (sound.1 empty))
  act_typed (tree.Switch e cases default ∷ rest) sound more = switch_typed e cases default rest sound.0
  act_typed (tree.ReturnNone ∷ rest) sound more = return_none_typed rest sound.0
  act_typed (tree.Return a ∷ rest) sound more = return_typed a rest sound.0

pub step_typed : (p : Program) → TypedProgram p → (last : CType) (state : State) → TypedState p last state
    → TypedStep p last (c_step p state)
step_typed p program last state h =
    act_typed p program last state.machine h.machine state.running h.running state.below h.below state.running.rest h.running.sound
    h.running.more
