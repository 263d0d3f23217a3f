-- One statement comes to the same on both sides.
use Rattle.c_renaming.proofs.Common.{ObjectAddress, ◌≡◌, ℕ, Bool, true, false, List, [], ◌∷◌, map, is_some, if◌then◌else◌, Some, None}
use Rattle.c_renaming.proofs.Common.{Option, option_map, bytes_eq, sym, refl, ap, ◌∙◌, subst, is_some_map, named, with_named, Ask, Event}
use Rattle.c_renaming.proofs.Common.{Gave, HostTrapped, Reply, asked, is_result, Value, I32, I64, same_func_type, Definition, Program}
use Rattle.c_renaming.proofs.Common.{definition_at, func_named, func_type, var_in, with_depth, with_trail, with_var, Effect, Gives}
use Rattle.c_renaming.proofs.Common.{IsUndefined, NoEffect, Traps, primitive, Asks, Bad, CValue, Evaluated, Frame, FuncAddress, FuncPointer}
use Rattle.c_renaming.proofs.Common.{HostFunc, Is, Machine, Name, NoRule, Number, Place, Pointer, Running, State, Stuck, Trapped, Undefined}
use Rattle.c_renaming.proofs.Common.{UnitFunc, found, then_evaluate, Step, Stops, act, as_object, ask, assign, assign_depth, at_rest, begin}
use Rattle.c_renaming.proofs.Common.{c_step, call, call_callee, call_named, call_through, depth_name, evaluate, evaluate_arg, evaluate_args}
use Rattle.c_renaming.proofs.Common.{give, in_unit, jump, label_of, next, place_of, put_in, replied, returned, take_effect, value_of}
use Rattle.c_renaming.proofs.Common.{with_value, with_vars, Each, Holds, KeptArg, KeptCallee, KeptDefinition, KeptFrames, KeptFunc}
use Rattle.c_renaming.proofs.Common.{KeptRunning, KeptStmt, KeptValue, KeepsMeanings, KeepsNames, Renaming, address, place, SameMachine}
use Rattle.c_renaming.proofs.Common.{SameState, SameStep, arith}
use Rattle.w2c_base.specs.declared.signature.FuncType.{FuncType}
use Rattle.w2c_base.proofs.Tests.{by_test}
use Rattle.c_tree.specs.Tree as tree
use Rattle.c_renaming.specs.Renamed as renamed
use Rattle.c_renaming.proofs.Bodies.{place-running, after_label-stmts, after_label-kept, label_of-cases, first_vars-definition}
use Rattle.c_renaming.proofs.Bodies.{first_vars-kept, numbers-values, of_type-value}
use Rattle.c_renaming.proofs.Changes.{same_var, same_depth, same_trail}
use Rattle.c_renaming.proofs.Effects.{SameEffect, Simulates, primitives_simulate}
use Rattle.c_renaming.proofs.Types.{func_type_same}
use Rattle.c_renaming.proofs.Evaluation.{come_to, as_object-value, named-vars, with_named-vars, with_named-kept, is_depth, value_same}
use Rattle.c_renaming.proofs.Evaluation.{value_kept, evaluate_same, GivesKept, GiveKept, arg_same, arg_kept, args_same, args_kept}

abbrev frames : Renaming → List Frame → List Frame
frames ρ below = map (renamed.frame ρ) below

come_to_itself : {A : Type 0} (v : Evaluated A) → v ≡ come_to (λ a. a) v
come_to_itself (Is a) = refl
come_to_itself _ = refl

same_number_option : (ρ : Renaming) (o : Option Value) → option_map Number o ≡ option_map (renamed.value ρ) (option_map Number o)
same_number_option ρ None = refl
same_number_option ρ (Some v) = refl

numbers_kept : (ρ : Renaming) (o : Option Value) → Holds (KeptValue ρ) (option_map Number o)
numbers_kept ρ None = tt
numbers_kept ρ (Some v) = tt

-- ---- what a statement is made of, on machines that are the same

module _ (ρ : Renaming) (names : KeepsNames ρ) (m n : Machine) (same : SameMachine ρ m n) where
  goes_on : (r : Running) (below : List Frame) → KeptRunning ρ r → KeptFrames ρ below
      → SameStep ρ (next m r below) (next n (renamed.running ρ r) (frames ρ below))
  goes_on r below running rest = record { machine = same; running = refl; below = refl; running_kept = running; below_kept = rest }

  stuck : SameStep ρ (Stops m Stuck) (Stops n Stuck)
  stuck = (same, refl)

  valued : {A B : Type 0} (f : A → B) (at : Place) (v : Evaluated A) (go : A → Step) (go' : B → Step)
      → ((a : A) → v ≡ Is a → SameStep ρ (go a) (go' (f a)))
      → SameStep ρ (with_value m at v go) (with_value n (place ρ at) (come_to f v) go')
  valued f at (Is a) go go' does = does a refl
  valued f at (Bad kind) go go' does = (same, refl)
  valued f at NoRule go go' does = stuck

  pub with_value_same : {A B : Type 0} (f : A → B) (at at' : Place) (v : Evaluated A) (v' : Evaluated B) (go : A → Step) (go' : B → Step)
      → at' ≡ place ρ at → v' ≡ come_to f v
      → ((a : A) → v ≡ Is a → SameStep ρ (go a) (go' (f a))) → SameStep ρ (with_value m at v go) (with_value n at' v' go')
  with_value_same f at at' v v' go go' places values does =
      subst (λ at'. SameStep ρ (with_value m at v go) (with_value n at' v' go')) (sym places)
      (subst (λ v'. SameStep ρ (with_value m at v go) (with_value n (place ρ at) v' go')) (sym values) (valued f at v go go' does))

  -- a jump
  pub jump_same : (r : Running) (name : Name) (below : List Frame) → KeptRunning ρ r → KeptFrames ρ below
      → SameStep ρ (jump m r name below) (jump n (renamed.running ρ r) (ρ.label r.unit name) (frames ρ below))
  jump_same r name below running rest =
      grind (arith, after_label-stmts ρ names r.unit name r.stmts, after_label-kept ρ names r.unit name r.stmts running.stmts, goes_on)

-- ---- what changes the machine

module _ (ρ : Renaming) (p q : Program) (names : KeepsNames ρ) (meanings : KeepsMeanings ρ p q) (m n : Machine)
    (same : SameMachine ρ m n) where
  assign_depth_same : (r : Running) (v : CValue) (below : List Frame) → KeptRunning ρ r → KeptFrames ρ below
      → SameStep ρ (assign_depth m r v below) (assign_depth n (renamed.running ρ r) (renamed.value ρ v) (frames ρ below))
  assign_depth_same r (Number (I32 k)) below running rest = goes_on ρ names (with_depth m k) (with_depth n k)
      (same_depth ρ names m n same k) r below running rest
  assign_depth_same r (Number (I64 k)) below running rest = (same, refl)
  assign_depth_same r _ below running rest = (same, refl)

  -- a value goes where one of its type is held
  put_in_same : (o : Option CValue) (v : CValue) (x y : Step) → (is_some o ≡ true → SameStep ρ x y)
      → SameStep ρ (put_in m o v x) (put_in n (option_map (renamed.value ρ) o) (renamed.value ρ v) y)
  put_in_same None v x y does = (same, refl)
  put_in_same (Some held) v x y does = grind (arith, does refl)

  -- an object of file scope, or a variable of the function's own, gets a value
  file_same : (r : Running) (x : Name) (v : CValue) (below : List Frame) → bytes_eq x depth_name ≡ false → KeptRunning ρ r → KeptValue ρ v
      → KeptFrames ρ below
      → SameStep ρ (put_in m (var_in m (in_unit r x)) v (next (with_var m (in_unit r x) v) r below))
      (put_in n (var_in n (in_unit (renamed.running ρ r) (ρ.var r.unit x))) (renamed.value ρ v)
      (next (with_var n (in_unit (renamed.running ρ r) (ρ.var r.unit x)) (renamed.value ρ v)) (renamed.running ρ r) (frames ρ below)))
  file_same r x v below apart running kept rest =
      subst (λ (a : ObjectAddress). SameStep ρ (put_in m (var_in m (in_unit r x)) v (next (with_var m (in_unit r x) v) r below))
      (put_in n (var_in n a) (renamed.value ρ v) (next (with_var n a (renamed.value ρ v)) (renamed.running ρ r) (frames ρ below))))
      (names.object_names r.unit x apart) (rw (same.objects.vars (in_unit r x)) (put_in_same (var_in m (in_unit r x)) v _ _ (λ is.
      goes_on ρ names _ _ (same_var ρ names m n same (in_unit r x) v is kept) r below running rest)))

  local_same : (r : Running) (x : Name) (v : CValue) (below : List Frame) → KeptRunning ρ r → KeptValue ρ v → KeptFrames ρ below
      → SameStep ρ (put_in m (named x r.vars) v (next m (with_vars r (with_named x v r.vars)) below))
      (put_in n (option_map (renamed.value ρ) (named x r.vars)) (renamed.value ρ v)
      (next n (with_vars (renamed.running ρ r) (renamed.vars ρ r.unit (with_named x v r.vars))) (frames ρ below)))
  local_same r x v below running kept rest = put_in_same (named x r.vars) v _ _ (λ is.
      goes_on ρ names m n same (with_vars r (with_named x v r.vars)) below
      (record { stmts = running.stmts; rest = running.rest; vars = with_named-kept ρ x v r.vars running.vars kept }) rest)

  pub assign_same : (r : Running) (x : Name) (v : CValue) (below : List Frame) → KeptRunning ρ r → KeptValue ρ v → KeptFrames ρ below
      → SameStep ρ (assign m r x v below) (assign n (renamed.running ρ r) (ρ.var r.unit x) (renamed.value ρ v) (frames ρ below))
  assign_same r x v below running kept rest = by_test (bytes_eq x depth_name)
      (λ is. rw (is_depth ρ names r.unit x, is) (assign_depth_same r v below running rest))
      (λ apart. rw (
        is_depth ρ names r.unit x,
        apart,
        named-vars ρ names r.unit x r.vars,
        is_some_map,
        with_named-vars ρ names r.unit x v r.vars,
      )
      (by_test (is_some (named x r.vars)) (λ is. rw is (local_same r x v below running kept rest))
      (λ is. rw is (file_same r x v below apart running kept rest))))

  pub give_same : (v : Option CValue) (below : List Frame) → Holds (KeptValue ρ) v → KeptFrames ρ below
      → SameStep ρ (give m v below) (give n (option_map (renamed.value ρ) v) (frames ρ below))
  give_same v [] kept rest = (same, refl, kept)
  give_same v (f ∷ below) kept rest = grind (arith, assign_same)

  -- a value is returned, of the function's type
  pub returned_same : (r : Running) (v : Option CValue) (below : List Frame) → Holds (KeptValue ρ) v → KeptFrames ρ below
      → SameStep ρ (returned m r v below) (returned n (renamed.running ρ r) (option_map (renamed.value ρ) v) (frames ρ below))
  returned_same r v below kept rest = grind (arith, of_type-value, give_same)

  begin_same : (o : Option Definition) (u : ℕ) (args : List CValue) (below : List Frame) → Holds (KeptDefinition ρ u) o
      → Each (KeptValue ρ) args → KeptFrames ρ below
      → SameStep ρ (begin o u m args below)
      (begin (option_map (renamed.definition ρ u) o) (ρ.unit u) n (map (renamed.value ρ) args) (frames ρ below))
  begin_same None u args below defined kept rest = (same, refl)
  begin_same (Some d) u args below defined kept rest =
      grind (arith, first_vars-definition ρ u d args, first_vars-kept ρ u d args kept, goes_on)

-- ---- calls

module _ (ρ : Renaming) (p q : Program) (names : KeepsNames ρ) (meanings : KeepsMeanings ρ p q) (m n : Machine)
    (same : SameMachine ρ m n) where
  replied_same : (ty : FuncType) (replies : List Reply) (before : List Event) (a : Ask) (below : List Frame) → KeptFrames ρ below
      → SameStep ρ (replied ty replies before a m below) (replied ty replies before a n (frames ρ below))
  replied_same ty [] before a below rest = (same_trail ρ names m n same (asked before a None []), refl)
  replied_same ty (HostTrapped ∷ replies) before a below rest =
      (same_trail ρ names m n same (asked before a (Some HostTrapped) replies), refl)
  replied_same ty (Gave result ∷ replies) before a below rest = go (is_result ty.result result)
    where
      gave : Machine → Machine
      gave m = with_trail m (asked before a (Some (Gave result)) replies)

      none : Machine → Machine
      none m = with_trail m (asked before a None replies)

      go : (b : Bool) → SameStep ρ (if b then give (gave m) (option_map Number result) below else Stops (none m) Asks)
          (if b then give (gave n) (option_map Number result) (frames ρ below) else Stops (none n) Asks)
      go true = subst (λ v. SameStep ρ (give (gave m) (option_map Number result) below) (give (gave n) v (frames ρ below)))
          (sym (same_number_option ρ result))
          (give_same ρ p q names meanings (gave m) (gave n)
          (same_trail ρ names m n same (asked before a (Some (Gave result)) replies)) (option_map Number result) below
          (numbers_kept ρ result) rest)
      go false = (same_trail ρ names m n same (asked before a None replies), refl)

  ask_same : (h f : ℕ) (args : List CValue) (below : List Frame) → KeptFrames ρ below
      → SameStep ρ (ask p h f m args below) (ask q h f n (map (renamed.value ρ) args) (frames ρ below))
  ask_same h f args below rest = grind (arith, numbers-values ρ args, replied_same)

  pub call_same : (f : FuncAddress) (args : List CValue) (below : List Frame) → KeptFunc ρ f → Each (KeptValue ρ) args → KeptFrames ρ below
      → SameStep ρ (call p f m args below) (call q (address ρ f) n (map (renamed.value ρ) args) (frames ρ below))
  call_same (UnitFunc u name) args below is kept rest =
      subst (λ o. SameStep ρ (begin (definition_at p u name) u m args below)
      (begin o (ρ.unit u) n (map (renamed.value ρ) args) (frames ρ below))) (sym (meanings.definitions u name is))
      (begin_same ρ p q names meanings m n same (definition_at p u name) u args below (meanings.definitions_kept u name is) kept rest)
  call_same (HostFunc h f) args below is kept rest = ask_same h f args below rest

  take_effect_same : (e e' : Effect) (at : Place) (below : List Frame) → SameEffect ρ e e' → KeptFrames ρ below
      → SameStep ρ (take_effect e at m below) (take_effect e' (place ρ at) n (frames ρ below))
  take_effect_same (Gives a v) (Gives b w) at below does rest =
      subst (λ w. SameStep ρ (give a v below) (give b w (frames ρ below))) (sym does.1)
      (give_same ρ p q names meanings a b does.0 v below does.2 rest)
  take_effect_same (Traps kind) (Traps other) at below does rest = (same, ap Trapped does)
  take_effect_same (IsUndefined kind) (IsUndefined other) at below does rest = (same, ap (λ k. Undefined k (place ρ at)) does)
  take_effect_same NoEffect NoEffect at below does rest = (same, refl)
  take_effect_same _ _ at below does rest = absurd does

  call_named_same : (u : ℕ) (name : Name) (at : Place) (args : List CValue) (below : List Frame) → ρ.uses u name ≡ true
      → Each (KeptValue ρ) args → KeptFrames ρ below
      → SameStep ρ (call_named p u name at m args below)
      (call_named q (ρ.unit u) (ρ.func u name) (place ρ at) n (map (renamed.value ρ) args) (frames ρ below))
  call_named_same u name at args below is kept rest =
      subst (λ o. SameStep ρ (call_named p u name at m args below) (there o (func_named q (ρ.unit u) (ρ.func u name))))
      (sym (meanings.primitives u name is))
      (subst (λ o. SameStep ρ (call_named p u name at m args below) (there (primitive name) o)) (sym (meanings.functions u name is))
      (go (primitive name) (func_named p u name) (primitives_simulate ρ names m n same name) (meanings.functions_kept u name is)))
    where
      here : Option (List CValue → Machine → Effect) → Option FuncAddress → Step
      here does f = elim does [
        | Some does ↦ take_effect (does args m) at m below
        | None ↦ elim f [ None ↦ Stops m Stuck | Some f ↦ call p f m args below ]
      ]

      there : Option (List CValue → Machine → Effect) → Option FuncAddress → Step
      there does f = elim does [
        | Some does ↦ take_effect (does (map (renamed.value ρ) args) n) (place ρ at) n (frames ρ below)
        | None ↦ elim f [ None ↦ Stops n Stuck | Some f ↦ call q f n (map (renamed.value ρ) args) (frames ρ below) ]
      ]

      go : (does : Option (List CValue → Machine → Effect)) (f : Option FuncAddress) → Holds (Simulates ρ names m n same) does
          → Holds (KeptFunc ρ) f → SameStep ρ (here does f) (there does (option_map (address ρ) f))
      go (Some does) f simulates holds = take_effect_same (does args m) (does (map (renamed.value ρ) args) n) at below
          (simulates args kept) rest
      go None None simulates holds = (same, refl)
      go None (Some f) simulates holds = call_same f args below holds kept rest

  call_through_same : (o : Option CValue) (want : tree.FuncType) (at : Place) (args : List CValue) (below : List Frame)
      → Holds (KeptValue ρ) o → Each (KeptValue ρ) args → KeptFrames ρ below
      → SameStep ρ (call_through p o want at m args below)
      (call_through q (option_map (renamed.value ρ) o) want (place ρ at) n (map (renamed.value ρ) args) (frames ρ below))
  call_through_same None want at args below is kept rest = (same, refl)
  call_through_same (Some (Number v)) want at args below is kept rest = (same, refl)
  call_through_same (Some (Pointer to)) want at args below is kept rest = (same, refl)
  call_through_same (Some (FuncPointer None)) want at args below is kept rest = (same, refl)
  call_through_same (Some (FuncPointer (Some f))) want at args below is kept rest =
      subst (λ ty. SameStep ρ (call_through p (Some (FuncPointer (Some f))) want at m args below) (there ty))
      (sym (func_type_same ρ p q meanings f is)) (go (func_type p f))
    where
      there : Option tree.FuncType → Step
      there ty = elim ty [
        | None ↦ Stops n Stuck
        | Some ty ↦ if same_func_type ty want then call q (address ρ f) n (map (renamed.value ρ) args) (frames ρ below) else
            Stops n (Undefined 5 (place ρ at))
      ]

      here : Option tree.FuncType → Step
      here ty = elim ty [
        | None ↦ Stops m Stuck
        | Some ty ↦ if same_func_type ty want then call p f m args below else Stops m (Undefined 5 at)
      ]

      go : (ty : Option tree.FuncType) → SameStep ρ (here ty) (there ty)
      go None = (same, refl)
      go (Some ty) = by_test (same_func_type ty want)
        where
          by_test : (b : Bool) → SameStep ρ (if b then call p f m args below else Stops m (Undefined 5 at))
              (if b then call q (address ρ f) n (map (renamed.value ρ) args) (frames ρ below) else Stops n
              (Undefined 5 (place ρ at)))
          by_test true = call_same f args below is kept rest
          by_test false = (same, refl)

  call_callee_same : (f : tree.Callee) (at : Place) (r : Running) (args : List CValue) (below : List Frame)
      → KeptCallee ρ r.unit f → KeptRunning ρ r → Each (KeptValue ρ) args → KeptFrames ρ below
      → SameStep ρ (call_callee p f at m r args below)
      (call_callee q (renamed.callee ρ r.unit f) (place ρ at) n (renamed.running ρ r) (map (renamed.value ρ) args) (frames ρ below))
  call_callee_same (tree.Called name) at r args below is running kept rest = call_named_same r.unit name at args below is kept rest
  call_callee_same (tree.Through want x) at r args below is running kept rest =
      subst (λ o. SameStep ρ (call_through p (value_of m r x) want at m args below)
      (call_through q o want (place ρ at) n (map (renamed.value ρ) args) (frames ρ below)))
      (sym (value_same ρ p q names meanings m n same r x))
      (call_through_same (value_of m r x) want at args below (value_kept ρ p q names meanings m n same r running x) kept rest)

  -- ---- statements

  given : (r : Running) (a : tree.Arg) → KeptRunning ρ r → KeptArg ρ r.unit a → (v : CValue) → evaluate_arg p m r a ≡ Is v → KeptValue ρ v
  given r a running kept v is = subst (GivesKept ρ p q names meanings m n same) is (arg_kept ρ p q names meanings m n same r running a kept)

  given_all : (r : Running) (args : List tree.Arg) → KeptRunning ρ r → Each (KeptArg ρ r.unit) args → (vs : List CValue)
      → evaluate_args p m r args ≡ Is vs → Each (KeptValue ρ) vs
  given_all r args running kept vs is = subst (GiveKept ρ p q names meanings m n same) is
      (args_kept ρ p q names meanings m n same r running args kept)

  -- what a name points to
  pointed_same : (r : Running) (x : Name)
      → then_evaluate (found (value_of n (renamed.running ρ r) (ρ.var r.unit x))) as_object
      ≡ come_to ρ.object (then_evaluate (found (value_of m r x)) as_object)
  pointed_same r x = grind (arith, value_same ρ p q names meanings m n same r x, as_object-value)

  at_rest_kept : (r : Running) (rest : List tree.Stmt) → KeptRunning ρ r → Each (KeptStmt ρ r.unit) rest → KeptRunning ρ (at_rest r rest)
  at_rest_kept r rest running kept = record { stmts = running.stmts; rest = kept; vars = running.vars }

  pub act_same : (r : Running) (rest : List tree.Stmt) (below : List Frame) → KeptRunning ρ r → Each (KeptStmt ρ r.unit) rest
      → KeptFrames ρ below
      → SameStep ρ (act p m r rest below) (act q n (renamed.running ρ r) (map (renamed.stmt ρ r.unit) rest) (frames ρ below))
  act_same r [] below running kept frames_kept = (same, refl)
  act_same r (tree.Label name ∷ rest) below running kept frames_kept = act_same r rest below running kept.1 frames_kept
  act_same r (tree.Null ∷ rest) below running kept frames_kept = goes_on ρ names m n same (at_rest r rest) below
      (at_rest_kept r rest running kept.1) frames_kept
  act_same r (tree.Set x a ∷ rest) below running kept frames_kept =
      with_value_same ρ names m n same (renamed.value ρ) _ _ _ _ _ _ (place-running ρ r rest)
      (arg_same ρ p q names meanings m n same r a kept.0)
      (λ v is. assign_same ρ p q names meanings m n same (at_rest r rest) x v below (at_rest_kept r rest running kept.1)
      (given r a running kept.0 v is) frames_kept)
  act_same r (tree.SetStar x e ∷ rest) below running kept frames_kept =
      with_value_same ρ names m n same (λ v. v) _ _ _ _ _ _ (place-running ρ r rest)
      (evaluate_same ρ p q names meanings m n same r e ∙ come_to_itself (evaluate p m r e)) (λ v is.
      with_value_same ρ names m n same ρ.object _ _ _ _ _ _ (place-running ρ r rest) (pointed_same r x) (λ a there.
      subst (λ o. SameStep ρ (put_in m (var_in m a) (Number v) (next (with_var m a (Number v)) (at_rest r rest) below))
      (put_in n o (Number v) (next (with_var n (ρ.object a) (Number v))
      (at_rest (renamed.running ρ r) (map (renamed.stmt ρ r.unit) rest)) (frames ρ below)))) (sym (same.objects.vars a))
      (put_in_same ρ p q names meanings m n same (var_in m a) (Number v) _ _ (λ there.
      goes_on ρ names (with_var m a (Number v)) (with_var n (ρ.object a) (Number v))
      (same_var ρ names m n same a (Number v) there tt) (at_rest r rest) below (at_rest_kept r rest running kept.1)
      frames_kept))))
  act_same r (tree.Call target f args ∷ rest) below running kept frames_kept =
      with_value_same ρ names m n same (map (renamed.value ρ)) _ _ _ _ _ _ (place-running ρ r rest)
      (args_same ρ p q names meanings m n same r args kept.0.1) (λ vs is.
      subst (λ at. SameStep ρ (call_callee p f (place_of r rest) m r vs
      (record { target = target; running = at_rest r rest } ∷ below))
      (call_callee q (renamed.callee ρ r.unit f) at n (renamed.running ρ r) (map (renamed.value ρ) vs)
      (frames ρ (record { target = target; running = at_rest r rest } ∷ below))))
      (sym (place-running ρ r rest))
      (call_callee_same f (place_of r rest) r vs (record { target = target; running = at_rest r rest } ∷ below) kept.0.0 running
      (given_all r args running kept.0.1 vs is) (at_rest_kept r rest running kept.1, frames_kept)))
  act_same r (tree.Goto name ∷ rest) below running kept frames_kept = jump_same ρ names m n same r name below running frames_kept
  act_same r (tree.If op left right name ∷ rest) below running kept frames_kept = grind (
    arith,
    place-running ρ r rest,
    evaluate_same ρ p q names meanings m n same r (tree.Op op left right),
    come_to_itself (evaluate p m r (tree.Op op left right)),
    at_rest_kept r rest running kept.1,
    jump_same ρ names m n same r name below running frames_kept,
    with_value_same,
  )
  act_same r (tree.Switch e cases default ∷ rest) below running kept frames_kept =
      with_value_same ρ names m n same (λ v. v) _ _ _ _ _ _ (place-running ρ r rest)
      (evaluate_same ρ p q names meanings m n same r e ∙ come_to_itself (evaluate p m r e)) (λ v is.
      subst (λ name. SameStep ρ (jump m r (label_of v cases default) below)
      (jump n (renamed.running ρ r) name (frames ρ below))) (sym (label_of-cases ρ names r.unit v cases default))
      (jump_same ρ names m n same r (label_of v cases default) below running frames_kept))
  act_same r (tree.ReturnNone ∷ rest) below running kept frames_kept = returned_same ρ p q names meanings m n same r None below
      tt frames_kept
  act_same r (tree.Return a ∷ rest) below running kept frames_kept =
      with_value_same ρ names m n same (renamed.value ρ) _ _ _ _ _ _ (place-running ρ r rest)
      (arg_same ρ p q names meanings m n same r a kept.0)
      (λ v is. returned_same ρ p q names meanings m n same r (Some v) below (given r a running kept.0 v is) frames_kept)

-- one step of states that are the same
pub c_step_same : (ρ : Renaming) (p q : Program) → KeepsNames ρ → KeepsMeanings ρ p q → (s t : State) → SameState ρ s t
    → SameStep ρ (c_step p s) (c_step q t)
c_step_same ρ p q names meanings s t same =
    subst (λ r. SameStep ρ (c_step p s) (act q t.machine r r.rest t.below)) (sym same.running)
    (subst (λ below. SameStep ρ (c_step p s)
    (act q t.machine (renamed.running ρ s.running) (renamed.running ρ s.running).rest below)) (sym same.below)
    (act_same ρ p q names meanings s.machine t.machine same.machine s.running s.running.rest s.below same.running_kept
    same.running_kept.rest same.below_kept))
