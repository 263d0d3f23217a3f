-- A value goes where one of its type is taken: at an assignment, and at the end of a call.
use Rattle.c_sound.proofs.Common.{◌≡◌, true, false, List, [], ◌∷◌, Some, None, Option, bytes_eq, sym, refl, ap, ◌∙◌, subst, by_test, named}
use Rattle.c_sound.proofs.Common.{with_named, is_object_type, variables, CType, Program, with_var, CValue, Frame, Machine, Name, Running}
use Rattle.c_sound.proofs.Common.{Vars, assign, assign_depth, give, in_unit, is_returned, next, returned, with_vars, Gives, OfType}
use Rattle.c_sound.proofs.Common.{TypedBelow, TypedMachine, TypedRunning, TypedStep, VarsOf, own_variables, arith}
use Rattle.c_sound.proofs.Evaluates.{Stands, IsDepth, IsOwn, IsOfFile, stands, own_holds, own_not}
use Rattle.c_sound.proofs.Changes.{one_type_of, var_keeps, depth_keeps}
use Rattle.c_sound.proofs.Primitives.{narrow}

-- another value of its type for a variable of a function's own
own_set : (p : Program) (declared : List (Name × CType)) (vars : Vars) (name : Name) (t : CType) (v : CValue) → VarsOf p declared vars
    → named name declared ≡ Some t → OfType p t v → VarsOf p declared (with_named name v vars)
own_set p [] [] name t v h e is = tt
own_set p (d ∷ declared) (x ∷ vars) name t v h e is = by_test (bytes_eq d.0 name)
    (λ same.
    let here : bytes_eq x.0 name ≡ true = ap (λ (n : Name). bytes_eq n name) (sym h.0) ∙ same in
    let type_is : d.1 ≡ t = (let f = rw same at e in cc) in
    rw here (h.0, subst (λ (u : CType). OfType p u v) (sym type_is) is, h.2))
    (λ differ.
    let not_here : bytes_eq x.0 name ≡ false = ap (λ (n : Name). bytes_eq n name) (sym h.0) ∙ differ in
    rw not_here (h.0, h.1, own_set p declared vars name t v h.2 (rw differ at e) is))
own_set p [] (x ∷ vars) name t v h e is = absurd h
own_set p (d ∷ declared) [] name t v h e is = absurd h

module _ (p : Program) (last : CType) where
  pub assign_typed : (m : Machine) (r : Running) (name : Name) (t : CType) (v : CValue) (below : List Frame) → TypedMachine p m
      → (run : TypedRunning p r) → named name (variables run.scope) ≡ Some t → is_object_type t ≡ false → OfType p t v
      → TypedBelow p last r.result below → TypedStep p last (assign m r name v below)
  assign_typed m r name t v below machine run e plain is is_below = go (stands p r.unit run.scope run.scope_is name t e)
    where
      go : Stands p r.unit run.scope name t → TypedStep p last (assign m r name v below)
      go (IsDepth same is_narrow) =
          subst (λ (n : Name). TypedStep p last (assign m r n v below)) (sym same)
          (narrow p (λ v. TypedStep p last (assign_depth m r v below))
          (λ n. record { machine = depth_keeps p m n machine; running = run; below = is_below })
          v (subst (λ (x : CType). OfType p x v) is_narrow is))
      go (IsOwn not_depth there) =
          let held = own_holds p (own_variables run.scope) r.vars name t run.vars there in
          let step_is : assign m r name v below ≡ next m (with_vars r (with_named name v r.vars)) below =
          rw (not_depth, held.1, one_type_of p t held.0 v held.2 is) refl in
          subst (TypedStep p last) (sym step_is) (record {
            machine = machine;
            running = record {
              scope = run.scope;
              scope_is = run.scope_is;
              stmts = run.stmts;
              result = run.result;
              whole = run.whole;
              sound = run.sound;
              more = run.more;
              vars = own_set p (own_variables run.scope) r.vars name t v run.vars there is;
            };
            below = is_below;
          })
      go (IsOfFile not_depth not_own there) =
          let held = machine.vars (in_unit r name) t there plain in
          let step_is : assign m r name v below ≡ next (with_var m (in_unit r name) v) r below =
          rw (
            not_depth,
            own_not p
                (own_variables run.scope) r.vars name run.vars not_own,
            held.1,
            one_type_of p t held.0 v held.2 is,
          ) refl in
          subst (TypedStep p last) (sym step_is) (record {
            machine = var_keeps p m (in_unit r name) t held.0 v machine there held.1 is;
            running = run;
            below = is_below;
          })

  pub give_typed : (m : Machine) (t : CType) (value : Option CValue) (below : List Frame) → TypedMachine p m → Gives p t value
      → TypedBelow p last t below → TypedStep p last (give m value below)
  give_typed m t value [] machine gives is_below = (machine, subst (λ (x : CType). Gives p x value) is_below gives)
  give_typed m t value (f ∷ below) machine gives is_below = grind (arith, assign_typed)

  returns_it : (t : CType) (value : Option CValue) → Gives p t value → is_returned t value ≡ true
  returns_it t None gives = gives
  returns_it t (Some v) gives = gives.is

  pub returned_typed : (m : Machine) (r : Running) (value : Option CValue) (below : List Frame) → TypedMachine p m
      → Gives p r.result value → TypedBelow p last r.result below → TypedStep p last (returned m r value below)
  returned_typed m r value below machine gives is_below =
      let step_is : returned m r value below ≡ give m value below = rw (returns_it r.result value gives) refl in
      subst (TypedStep p last) (sym step_is) (give_typed m r.result value below machine gives is_below)
