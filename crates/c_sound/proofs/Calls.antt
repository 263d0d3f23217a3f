-- A function that takes arguments of its parameters' types begins, or its host is asked.
use Rattle.c_sound.proofs.Common.{◌≡◌, ℕ, Bool, true, false, List, [], ◌∷◌, ◌++◌, map, is_some, if◌then◌else◌, Some, None, Option}
use Rattle.c_sound.proofs.Common.{option_map, sym, refl, ap, ◌∙◌, subst, and_parts, false≢true, list_all, named, Ask, Event, Gave}
use Rattle.c_sound.proofs.Common.{HostTrapped, Reply, asked, types_of, ValType, Value, I32, I64, number_suits, proper_types, same_func_type}
use Rattle.c_sound.proofs.Common.{Scope, file_functions, functions, local_variables, param_variables, CType, Num, N32, N64, Plain}
use Rattle.c_sound.proofs.Common.{Definition, Program, c_func_type_of, c_params_of, c_result_of, c_type_of, func_named, func_type}
use Rattle.c_sound.proofs.Common.{host_type, initial_of, with_trail, Asks, CValue, Frame, FuncAddress, FuncPointer, HostFunc, Machine, Name}
use Rattle.c_sound.proofs.Common.{Number, Place, Pointer, Stuck, Undefined, UnitFunc, Vars, Step, Stops, are_of_types, ask, begin, bind}
use Rattle.c_sound.proofs.Common.{call, call_named, call_through, first_vars, give, locals_of, next, numbers, param_names, param_types}
use Rattle.c_sound.proofs.Common.{replied, take_effect, Callable, Gives, OfType, OfTypes, ScopeOf, TypedBelow, TypedMachine, TypedProgram}
use Rattle.c_sound.proofs.Common.{TypedStep, VarsOf, arith}
use Rattle.w2c_base.specs.declared.value.ValType.TheVariants as val
use Rattle.w2c_base.specs.declared.signature.FuncType.{FuncType}
use Rattle.w2c_base.specs.Values.{equal_types, is_result}
use Rattle.c_tree.specs.declared.tree.CType.TheVariants as type
use Rattle.c_tree.specs.Tree as tree
use Rattle.c_tree.specs.Runtime as header
use Rattle.c_meaning.specs.Primitives as prim
use Rattle.c_sound.proofs.Choices.{by_option, named_behind, named_in_front, same_some}
use Rattle.c_tree.proofs.SameTypes.{func_types_same}
use Rattle.c_sound.proofs.Changes.{trail_keeps}
use Rattle.c_sound.proofs.Primitives.{TypedEffect, primitive_typed}
use Rattle.c_sound.proofs.Assigns.{give_typed}

-- ---- the variables with which a function begins

of_types_are : (p : Program) (types : List CType) (args : List CValue) → OfTypes p types args → are_of_types types args ≡ true
of_types_are p [] [] h = refl
of_types_are p (t ∷ types) (v ∷ args) h = rw (h.0).is (of_types_are p types args h.1)
of_types_are p [] (v ∷ args) h = absurd h
of_types_are p (t ∷ types) [] h = absurd h

-- a function of which the parameters alone matter
abbrev with_params : List tree.Param → tree.Func
with_params params = record { is_static = false; result = type.Void; name = []; params = params; body = None }

bound : (p : Program) (params : List tree.Param) (args : List CValue) → OfTypes p (param_types params) args
    → (vars : Vars) × (bind (param_names params) args ≡ Some vars) × VarsOf p (param_variables (with_params params)) vars
bound p [] [] h = ([], refl, tt)
bound p [] (v ∷ args) h = absurd h
bound p ((t, None) ∷ params) args h = bound p params args h
bound p ((t, Some name) ∷ params) [] h = absurd h
bound p ((t, Some name) ∷ params) (v ∷ args) h =
    let others = bound p params args h.1 in
    ((name, v) ∷ others.0, ap (option_map (λ (vars : Vars). (name, v) ∷ vars)) others.1, (refl, h.0, others.2))

pub first_value : (p : Program) (t : CType) (n : Num) → number_suits t n ≡ true → (v : CValue) × (initial_of t n ≡ Some v) × OfType p t v
first_value p type.U32 (N32 n) e = (Number (I32 n), refl, record { is = refl; points = tt })
first_value p type.U64 (N64 n) e = (Number (I64 n), refl, record { is = refl; points = tt })
first_value p type.PtrU32 (Plain n) e = (Pointer None, refl, record { is = refl; points = tt })
first_value p type.PtrU64 (Plain n) e = (Pointer None, refl, record { is = refl; points = tt })
first_value p type.PtrMem (Plain n) e = (Pointer None, refl, record { is = refl; points = tt })
first_value p type.PtrTab (Plain n) e = (Pointer None, refl, record { is = refl; points = tt })
first_value p type.FnPtr (Plain n) e = (FuncPointer None, refl, record { is = refl; points = tt })
first_value p _ _ e = absurd (false≢true e)

abbrev named_type : tree.Local → Name × CType
named_type l = (l.1, l.0)

locals_begin : (p : Program) (locals : List tree.Local) → list_all (λ (l : tree.Local). number_suits l.0 l.2) locals ≡ true
    → (vars : Vars) × (locals_of locals ≡ Some vars) × VarsOf p (map named_type locals) vars
locals_begin p [] e = ([], refl, tt)
locals_begin p (l ∷ locals) e =
    let parts = and_parts (number_suits l.0 l.2) (list_all (λ (l : tree.Local). number_suits l.0 l.2) locals) e in
    let v = first_value p l.0 l.2 parts.0 in
    let others = locals_begin p locals parts.1 in
    ((l.1, v.0) ∷ others.0, rw (v.1, others.1) refl, (refl, v.2, others.2))

vars_join : (p : Program) (declared others : List (Name × CType)) (vars rest : Vars) → VarsOf p declared vars → VarsOf p others rest
    → VarsOf p (declared ++ others) (vars ++ rest)
vars_join p [] others [] rest h k = k
vars_join p (d ∷ declared) others (x ∷ vars) rest h k = (h.0, h.1, vars_join p declared others vars rest h.2 k)
vars_join p [] others (x ∷ vars) rest h k = absurd h
vars_join p (d ∷ declared) others [] rest h k = absurd h

begins_with : (p : Program) (d : Definition) (args : List CValue) → OfTypes p (param_types d.func.params) args
    → list_all (λ (l : tree.Local). number_suits l.0 l.2) d.body.locals ≡ true
    → (vars : Vars) × (first_vars d args ≡ Some vars) × VarsOf p (param_variables d.func ++ local_variables d.body) vars
begins_with p d args h suit =
    let params = bound p d.func.params args h in
    let locals = locals_begin p d.body.locals suit in (
      params.0 ++ locals.0,
      rw (of_types_are p (param_types d.func.params) args h, params.1, locals.1) refl,
      vars_join p (param_variables d.func) (local_variables d.body) params.0 locals.0 params.2 locals.2,
    )

-- ---- what a host takes and gives

numbers_typed : (p : Program) (types : List ValType) (args : List CValue) → OfTypes p (map c_type_of types) args
    → (values : List Value) × (numbers args ≡ Some values) × (equal_types types (types_of values) ≡ true)
numbers_typed p [] [] h = ([], refl, refl)
numbers_typed p [] (v ∷ args) h = absurd h
numbers_typed p (t ∷ types) [] h = absurd h
numbers_typed p (t ∷ types) (v ∷ args) h = first t v h.0 (numbers_typed p types args h.1)
  where
    first : (t : ValType) (v : CValue) → OfType p (c_type_of t) v
        → (values : List Value) × (numbers args ≡ Some values) × (equal_types types (types_of values) ≡ true)
        → (values : List Value) × (numbers (v ∷ args) ≡ Some values) × (equal_types (t ∷ types) (types_of values) ≡ true)
    first val.I32 (Number (I32 n)) is others = (I32 n ∷ others.0, ap (option_map (λ (vs : List Value). I32 n ∷ vs)) others.1, others.2)
    first val.I64 (Number (I64 n)) is others = (I64 n ∷ others.0, ap (option_map (λ (vs : List Value). I64 n ∷ vs)) others.1, others.2)
    first _ _ is others = absurd (false≢true is.is)

host_takes : (p : Program) (types : List ValType) (args : List CValue) → OfTypes p (proper_types (c_params_of types)) args
    → (values : List Value) × (numbers args ≡ Some values) × (equal_types types (types_of values) ≡ true)
host_takes p [] args h = numbers_typed p [] args h
host_takes p (val.I32 ∷ types) args h = numbers_typed p (val.I32 ∷ types) args h
host_takes p (val.I64 ∷ types) args h = numbers_typed p (val.I64 ∷ types) args h

host_gives : (p : Program) (t : Option ValType) (v : Option Value) → is_result t v ≡ true
    → Gives p (c_result_of t) (option_map Number v)
host_gives p None None e = refl
host_gives p None (Some v) e = absurd (false≢true e)
host_gives p (Some t) None e = absurd (false≢true e)
host_gives p (Some t) (Some v) e = grind arith

module _ (p : Program) (program : TypedProgram p) (last : CType) (m : Machine) (machine : TypedMachine p m) where
  begin_typed : (u : ℕ) (d : Definition) (ty : tree.FuncType) (args : List CValue) (below : List Frame) → Callable p u d ty
      → OfTypes p (proper_types ty.params) args → TypedBelow p last ty.result below → TypedStep p last (begin (Some d) u m args below)
  begin_typed u d ty args below is h is_below =
      let begins = begins_with p d args (subst (λ (types : List CType). OfTypes p types args) (sym is.params) h) is.locals in
      subst (λ (o : Option Vars). TypedStep p last (elim o [
        | None ↦ Stops m Stuck
        | Some vars ↦ next m (record {
          unit = u;
          item = d.item;
          result = d.func.result;
          stmts = d.body.stmts;
          rest = d.body.stmts;
          vars = vars;
        }) below
      ])) (sym begins.1) (record {
        machine = machine;
        running = record {
          scope = record { declared = is.declared; func = d.func; body = d.body };
          scope_is = is.scope_is;
          stmts = refl;
          result = refl;
          whole = is.sound;
          sound = is.sound;
          more = is.more;
          vars = begins.2;
        };
        below = subst (λ (t : CType). TypedBelow p last t below) (sym is.result) is_below;
      })

  replied_typed : (ty : FuncType) (replies : List Reply) (before : List Event) (a : Ask) (below : List Frame)
      → TypedBelow p last (c_result_of ty.result) below → TypedStep p last (replied ty replies before a m below)
  replied_typed ty [] before a below is_below = tt
  replied_typed ty (HostTrapped ∷ replies) before a below is_below = tt
  replied_typed ty (Gave result ∷ replies) before a below is_below = go (is_result ty.result result) refl
    where
      go : (b : Bool) → is_result ty.result result ≡ b → TypedStep p last
          (if b then give (with_trail m (asked before a (Some (Gave result)) replies)) (option_map Number result) below
          else Stops (with_trail m (asked before a None replies)) Asks)
      go true e = give_typed p last (with_trail m (asked before a (Some (Gave result)) replies)) (c_result_of ty.result)
          (option_map Number result) below (trail_keeps p m (asked before a (Some (Gave result)) replies) machine)
          (host_gives p ty.result result e) is_below
      go false e = tt

  ask_typed : (h f : ℕ) (ty : FuncType) (args : List CValue) (below : List Frame) → host_type p h f ≡ Some ty
      → OfTypes p (proper_types (c_params_of ty.params)) args → TypedBelow p last (c_result_of ty.result) below
      → TypedStep p last (ask p h f m args below)
  ask_typed h f ty args below is takes is_below =
      let values = host_takes p ty.params args takes in
      let reply : Step = replied ty m.trail.replies m.trail.events (record { host = h; function = f; args = values.0 }) m below in
      let with_values : Option (List Value) → Step = λ o. elim o [
        | None ↦ Stops m Stuck
        | Some values ↦
            if equal_types ty.params (types_of values)
            then replied ty m.trail.replies m.trail.events (record { host = h; function = f; args = values }) m below
            else Stops m Stuck
      ] in
      let step_is : ask p h f m args below ≡ reply =
      ap (λ (o : Option FuncType). elim o [
        | None ↦ Stops m Stuck
        | Some ty ↦ elim (numbers args) [
          | None ↦ Stops m Stuck
          | Some values ↦
              if equal_types ty.params (types_of values)
              then replied ty m.trail.replies m.trail.events (record { host = h; function = f; args = values }) m below
              else Stops m Stuck
        ]
      ]) is
      ∙ ap with_values values.1
      ∙ ap (λ (b : Bool). if b then reply else Stops m Stuck) values.2 in
      subst (TypedStep p last) (sym step_is)
      (replied_typed ty m.trail.replies m.trail.events (record { host = h; function = f; args = values.0 }) below is_below)

  pub call_typed : (f : FuncAddress) (ty : tree.FuncType) (args : List CValue) (below : List Frame) → func_type p f ≡ Some ty
      → OfTypes p (proper_types ty.params) args → TypedBelow p last ty.result below → TypedStep p last (call p f m args below)
  call_typed (UnitFunc u name) ty args below is takes is_below =
      let d = program.callable u name ty is in
      subst (λ (o : Option Definition). TypedStep p last (begin o u m args below)) (sym d.1)
      (begin_typed u d.0 ty args below d.2 takes is_below)
  call_typed (HostFunc h f) ty args below is takes is_below = by_option (host_type p h f)
      (λ none. absurd (let e = rw none at is in cc))
      (λ host there.
      let e = rw there at is in
      let same : ty ≡ c_func_type_of host = cc in
      ask_typed h f host args below there (subst (λ (t : tree.FuncType). OfTypes p (proper_types t.params) args) same takes)
      (subst (λ (t : tree.FuncType). TypedBelow p last t.result below) same is_below))

  effect_typed : (t : CType) (effect : prim.Effect) (place : Place) (below : List Frame) → TypedEffect p t effect
      → TypedBelow p last t below → TypedStep p last (take_effect effect place m below)
  effect_typed t (prim.Gives after value) place below h is_below = give_typed p last after t value below h.0 h.1 is_below
  effect_typed t prim.NoEffect place below h is_below = absurd h
  effect_typed t _ place below h is_below = tt

  pub named_call_typed : (u : ℕ) (s : Scope) (name : Name) (ty : tree.FuncType) (place : Place) (args : List CValue) (below : List Frame)
      → ScopeOf p u s → named name (functions s) ≡ Some ty → OfTypes p (proper_types ty.params) args → TypedBelow p last ty.result below
      → TypedStep p last (call_named p u name place m args below)
  named_call_typed u s name ty place args below scope known takes is_below = by_option (named name (file_functions s))
      (λ none.
      let is : named name header.primitives ≡ Some ty = sym (named_behind name (file_functions s) header.primitives none) ∙ known in
      let does = primitive_typed p m machine name ty is in
      let step_is : call_named p u name place m args below ≡ take_effect (does.0 args m) place m below =
      ap (λ (o : Option (List CValue → Machine → prim.Effect)). elim o [
        | Some does ↦ take_effect (does args m) place m below
        | None ↦ elim (func_named p u name) [ None ↦ Stops m Stuck | Some f ↦ call p f m args below ]
      ]) does.1 in
      subst (TypedStep p last) (sym step_is)
      (effect_typed ty.result (does.0 args m) place below (does.2 args takes) is_below))
      (λ t there.
      let same : t ≡ ty =
      same_some (named name (functions s)) t ty (named_in_front name (file_functions s) header.primitives t there) known in
      let found = scope.funcs name t there in
      let step_is : call_named p u name place m args below ≡ call p found.1.0 m args below =
      ap (λ (o : Option (List CValue → Machine → prim.Effect)). elim o [
        | Some does ↦ take_effect (does args m) place m below
        | None ↦ elim (func_named p u name) [ None ↦ Stops m Stuck | Some f ↦ call p f m args below ]
      ]) found.0
      ∙ ap (λ (o : Option FuncAddress). elim o [ None ↦ Stops m Stuck | Some f ↦ call p f m args below ]) found.1.1 in
      subst (TypedStep p last) (sym step_is) (call_typed found.1.0 ty args below (found.1.2 ∙ ap Some same) takes is_below))

  pub through_typed : (v : CValue) (want : tree.FuncType) (place : Place) (args : List CValue) (below : List Frame)
      → OfType p type.FnPtr v → OfTypes p (proper_types want.params) args → TypedBelow p last want.result below
      → TypedStep p last (call_through p (Some v) want place m args below)
  through_typed (FuncPointer None) want place args below is takes is_below = tt
  through_typed (FuncPointer (Some f)) want place args below is takes is_below = go (func_type p f) refl is.points
    where
      same_or : (ty : tree.FuncType) (b : Bool) → func_type p f ≡ Some ty → same_func_type ty want ≡ b
          → TypedStep p last (if b then call p f m args below else Stops m (Undefined 5 place))
      same_or ty true there same = call_typed f want args below (there ∙ ap Some (func_types_same ty want same)) takes is_below
      same_or ty false there same = tt

      go : (o : Option tree.FuncType) → func_type p f ≡ o → is_some o ≡ true → TypedStep p last (elim o [
        | None ↦ Stops m Stuck
        | Some ty ↦ if same_func_type ty want then call p f m args below else Stops m (Undefined 5 place)
      ])
      go None e there = absurd (false≢true there)
      go (Some ty) e there = same_or ty (same_func_type ty want) e refl
  through_typed _ want place args below is takes is_below = absurd (false≢true is.is)

-- a call of a function that nothing waits for
pub first_call_typed : (p : Program) → TypedProgram p → (m : Machine) → TypedMachine p m → (f : FuncAddress) (ty : tree.FuncType)
    (args : List CValue) → func_type p f ≡ Some ty → OfTypes p (proper_types ty.params) args → TypedStep p ty.result (call p f m args [])
first_call_typed p program m machine f ty args is takes = call_typed p program ty.result m machine f ty args [] is takes refl
