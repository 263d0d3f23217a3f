-- A run of a typed program is never stuck.
use Rattle.c_sound.proofs.Common.{◌≡◌, ℕ, zero, suc, Bool, true, false, ◌&&◌, ◌≢◌, List, [], ◌∷◌, map, length, is_some, Some, None, Option}
use Rattle.c_sound.proofs.Common.{option_map, zip, sym, refl, ap, ◌∙◌, subst, and_parts, false≢true, AllByRecursion, list_all, list_any}
use Rattle.c_sound.proofs.Common.{position_from, range_with_len, all_append, if_found, numbered, Call, Init, Phase, Reply, call_ended}
use Rattle.c_sound.proofs.Common.{is_number, types_of, Value, I32, I64, is_void, proper_types, same_type, same_types, CType, Definition}
use Rattle.c_sound.proofs.Common.{Program, SymbolCall, c_params_of, c_type_of, called_func, defined_for_all, definition_at, fits, func_type}
use Rattle.c_sound.proofs.Common.{init_functions, fresh, of_type, CRun, Ended, Entry, Going, OutOfSteps, Outcome, Over, Pending, Progress}
use Rattle.c_sound.proofs.Common.{Stopped, after, begin_entry, begun, c_start, came_back, entries_of, go_on, over, run_of, told_end, CValue}
use Rattle.c_sound.proofs.Common.{FuncAddress, FuncPointer, Machine, Number, ObjectAddress, Pointer, State, Stop, Stuck, UnitFunc, Vars}
use Rattle.c_sound.proofs.Common.{Back, Next, Step, Stops, begin, c_step, call, next, AllFit, NeverStuck, Begins, Gives, IsVoid, OfType}
use Rattle.c_sound.proofs.Common.{OfTypes, TypedMachine, TypedPhase, TypedProgram, TypedRun, TypedStep, may_end, arith}
use Rattle.w2c_base.specs.Values.{type_of}
use Rattle.c_tree.specs.declared.tree.CType.TheVariants as type
use Rattle.c_tree.specs.Tree as tree
use Rattle.c_sound.proofs.Choices.{by_option}
use Rattle.c_tree.proofs.SameTypes.{type_same, types_same}
use Rattle.c_sound.proofs.Changes.{trail_keeps, units_keep}
use Rattle.c_sound.proofs.Calls.{call_typed}
use Rattle.c_sound.proofs.Statements.{step_typed}

pub record GoesWell (p : Program) (pending : Pending) (s : State) : Type 0 where
  pub now : TypedPhase p pending.phase s
  pub entries : AllByRecursion (Begins p) pending.entries

abbrev Well : Program → Progress → Type 0
Well p (Going pending s) = GoesWell p pending s
Well p (Over run) = run.outcome ≢ Stopped Stuck

-- ---- outcomes

abbrev is_stuck : Outcome → Bool
is_stuck (Stopped Stuck) = true
is_stuck _ = false

ended : Ended ≢ Stopped Stuck
ended e = false≢true (ap is_stuck e)

out_of_steps : OutOfSteps ≢ Stopped Stuck
out_of_steps e = false≢true (ap is_stuck e)

stops_well : (p : Program) (last : CType) (m : Machine) (why : Stop) → TypedStep p last (Stops m why) → Stopped why ≢ Stopped Stuck
stops_well p last m Stuck h e = h
stops_well p last m _ h e = false≢true (ap is_stuck e)

-- ---- what a run gives back

void_gives_none : (p : Program) (t : CType) (v : CValue) → is_void t ≡ true → OfType p t v → ⊥
void_gives_none p t v void h = grind (arith, type_same t type.Void void)

no_pointer : (t : CType) (a : Option ObjectAddress) → list_any (same_type t) (type.Void ∷ type.U32 ∷ type.U64 ∷ []) ≡ true
    → of_type t (Pointer a) ≡ true → ⊥
no_pointer type.Void a e f = false≢true f
no_pointer type.U32 a e f = false≢true f
no_pointer type.U64 a e f = false≢true f
no_pointer _ a e f = false≢true e

no_function : (t : CType) (a : Option FuncAddress) → list_any (same_type t) (type.Void ∷ type.U32 ∷ type.U64 ∷ []) ≡ true
    → of_type t (FuncPointer a) ≡ true → ⊥
no_function type.Void a e f = false≢true f
no_function type.U32 a e f = false≢true f
no_function type.U64 a e f = false≢true f
no_function _ a e f = false≢true e

-- ---- lists

pub all_numbered : {A B : Type 0} (P : A → Type 0) (Q : B → Type 0) (f : ℕ × A → B) (ks : List ℕ) (xs : List A)
    → ((k : ℕ) (x : A) → P x → Q (f (k, x))) → AllByRecursion P xs → AllByRecursion Q (map f (zip ks xs))
all_numbered P Q f [] xs each h = tt
all_numbered P Q f (k ∷ ks) [] each h = tt
all_numbered P Q f (k ∷ ks) (x ∷ xs) each h = (each k x h.0, all_numbered P Q f ks xs each h.1)

number_args : (p : Program) (args : List Value) → OfTypes p (proper_types (c_params_of (types_of args))) (map Number args)
number_args p [] = tt
number_args p (v ∷ args) = go v (others args)
  where
    first : (v : Value) → OfType p (c_type_of (type_of v)) (Number v)
    first (I32 n) = record { is = refl; points = tt }
    first (I64 n) = record { is = refl; points = tt }

    others : (args : List Value) → OfTypes p (map c_type_of (types_of args)) (map Number args)
    others [] = tt
    others (v ∷ args) = (first v, others args)

    go : (v : Value) → OfTypes p (map c_type_of (types_of args)) (map Number args)
        → OfTypes p (proper_types (c_params_of (types_of (v ∷ args)))) (map Number (v ∷ args))
    go (I32 n) behind = (first (I32 n), behind)
    go (I64 n) behind = (first (I64 n), behind)

module _ (p : Program) (program : TypedProgram p) where
  -- ---- entries

  -- a function of a unit begins at once
  abbrev started : ℕ → Definition → Machine → Option Vars → Step
  started u d m o = elim o [
    | None ↦ Stops m Stuck
    | Some vars ↦ next m (record {
      unit = u;
      item = d.item;
      result = d.func.result;
      stmts = d.body.stmts;
      rest = d.body.stmts;
      vars = vars;
    }) []
  ]

  begins : (pending : Pending) (t : CType) (o : Option Definition) (u : ℕ) (m : Machine) (args : List CValue)
      → may_end pending.phase t ≡ true → AllByRecursion (Begins p) pending.entries
      → TypedStep p t (begin o u m args []) → Well p (begun pending (begin o u m args []))
  begins pending t None u m args ends entries h = absurd h
  begins pending t (Some d) u m args ends entries h = grind arith

  entry_well : (m : Machine) (last : Phase) (entries : List Entry) → TypedMachine p m → AllByRecursion (Begins p) entries
      → Well p (begin_entry p m last entries)
  entry_well m last [] machine h = ended
  entry_well m last (e ∷ entries) machine h =
      let pending : Pending = record { phase = e.phase; entries = entries } in
      let b = h.0 in
      subst (λ (f : Option FuncAddress). Well p (elim f [
        | None ↦ Over (over pending m (Stopped Stuck))
        | Some f ↦ begun pending (call p f m (map Number e.args) [])
      ])) (sym b.func)
      (begins pending (b.ty).result (definition_at p b.unit b.name) b.unit m (map Number e.args) b.ends h.1
      (call_typed p program (b.ty).result m machine (UnitFunc b.unit b.name) b.ty (map Number e.args) [] b.func_is b.args refl))

  back_well : (pending : Pending) (t : CType) (m : Machine) (phase : Phase) (value : Option CValue) → TypedMachine p m
      → AllByRecursion (Begins p) pending.entries → may_end phase t ≡ true → Gives p t value
      → Well p (came_back p pending m phase value)
  back_well pending t m (Init k) None machine entries ends gives = entry_well m (Init k) pending.entries machine entries
  back_well pending t m (Init k) (Some v) machine entries ends gives = absurd (void_gives_none p t v ends gives)
  back_well pending t m (Call k) None machine entries ends gives =
      entry_well (told_end m None) (Call k) pending.entries (trail_keeps p m (call_ended m.trail None) machine) entries
  back_well pending t m (Call k) (Some (Number v)) machine entries ends gives =
      entry_well (told_end m (Some v)) (Call k) pending.entries (trail_keeps p m (call_ended m.trail (Some v)) machine) entries
  back_well pending t m (Call k) (Some (Pointer a)) machine entries ends gives = absurd (no_pointer t a ends gives.is)
  back_well pending t m (Call k) (Some (FuncPointer f)) machine entries ends gives = absurd (no_function t f ends gives.is)

  on_well : (pending : Pending) (t : CType) (step : Step) → may_end pending.phase t ≡ true → AllByRecursion (Begins p) pending.entries
      → TypedStep p t step → Well p (go_on p pending step)
  on_well pending t (Next s) ends entries h = record { now = record { last = t; ends = ends; state = h }; entries = entries }
  on_well pending t (Back m value) ends entries h = back_well pending t m pending.phase value h.0 entries ends h.1
  on_well pending t (Stops m why) ends entries h = stops_well p t m why h

  after_well : (n : ℕ) (progress : Progress) → Well p progress → Well p (after p n progress)
  after_well zero progress h = h
  after_well (suc n) (Over run) h = h
  after_well (suc n) (Going pending s) h = after_well n (go_on p pending (c_step p s))
      (on_well pending h.now.last (c_step p s) h.now.ends h.entries (step_typed p program h.now.last s h.now.state))

  outcome_well : (progress : Progress) → Well p progress → (run_of progress).outcome ≢ Stopped Stuck
  outcome_well (Going pending s) h = out_of_steps
  outcome_well (Over run) h = h

  -- ---- what a run begins

  init_begins : (k : ℕ) (f : FuncAddress) → IsVoid p f → Begins p (record { phase = Init k; func = Some f; args = [] })
  init_begins k f is = record {
    unit = is.0;
    name = is.1;
    ty = record { params = type.Void ∷ []; result = type.Void };
    func = ap Some is.2;
    func_is = subst (λ (g : FuncAddress). func_type p g ≡ Some (record { params = type.Void ∷ []; result = type.Void })) is.2 is.3;
    args = tt;
    ends = refl;
  }

  abbrev suits_type : SymbolCall → Option tree.FuncType → Bool
  suits_type c o = elim o [
    | None ↦ false
    | Some ty ↦ same_types ty.params (c_params_of (types_of c.args))
        && list_any (same_type ty.result) (type.Void ∷ type.U32 ∷ type.U64 ∷ [])
        && list_all is_number c.args
  ]

  abbrev called_type : SymbolCall → Option ℕ → Option tree.FuncType
  called_type c o = if_found (option_map (λ u. UnitFunc u c.symbol) o) (func_type p)

  call_begins : (k : ℕ) (c : SymbolCall) → fits p c ≡ true
      → Begins p (record { phase = Call k; func = called_func p c; args = c.args })
  call_begins k c fit = by_option (position_from (λ items. is_some (defined_for_all items c.symbol)) 0 p.units)
      (λ none. absurd (false≢true (sym (ap (λ o. suits_type c (called_type c o)) none) ∙ fit)))
      (λ u there. by_option (func_type p (UnitFunc u c.symbol))
      (λ none. absurd (false≢true (sym (ap (λ o. suits_type c (called_type c o)) there ∙ ap (suits_type c) none) ∙ fit)))
      (λ ty is.
      let suits = sym (ap (λ o. suits_type c (called_type c o)) there ∙ ap (suits_type c) is) ∙ fit in
      let front = and_parts
      (same_types ty.params (c_params_of (types_of c.args)) && list_any (same_type ty.result) (type.Void ∷ type.U32 ∷ type.U64 ∷ []))
      (list_all is_number c.args) suits in
      let parts = and_parts (same_types ty.params (c_params_of (types_of c.args)))
      (list_any (same_type ty.result) (type.Void ∷ type.U32 ∷ type.U64 ∷ [])) front.0 in
      record {
        unit = u;
        name = c.symbol;
        ty = ty;
        func = ap (option_map (λ u. UnitFunc u c.symbol)) there;
        func_is = is;
        args = subst (λ (types : List CType). OfTypes p (proper_types types) (map Number c.args))
            (sym (types_same ty.params (c_params_of (types_of c.args)) parts.0)) (number_args p c.args);
        ends = parts.1;
      }))

  pub entries_begin : (calls : List SymbolCall) → AllFit p calls → AllByRecursion (Begins p) (entries_of p calls)
  entries_begin calls fit = all_append (Begins p)
      (map (λ (f : ℕ × FuncAddress). record { phase = Init f.0; func = Some f.1; args = [] }) (numbered (init_functions p)))
      (map (λ (c : ℕ × SymbolCall). record { phase = Call c.0; func = called_func p c.1; args = c.1.args }) (numbered calls))
      (all_numbered (IsVoid p) (Begins p) (λ (f : ℕ × FuncAddress). record { phase = Init f.0; func = Some f.1; args = [] })
      (range_with_len 0 (length (init_functions p))) (init_functions p) init_begins program.inits)
      (all_numbered (λ (c : SymbolCall). fits p c ≡ true) (Begins p)
      (λ (c : ℕ × SymbolCall). record { phase = Call c.0; func = called_func p c.1; args = c.1.args })
      (range_with_len 0 (length calls)) calls call_begins fit)

  run_well : (replies : List Reply) (n : ℕ) (entries : List Entry) → AllByRecursion (Begins p) entries
      → Well p (after p n (begin_entry p (fresh p replies) (Init 0) entries))
  run_well replies n entries all = after_well n (begin_entry p (fresh p replies) (Init 0) entries)
      (entry_well (fresh p replies) (Init 0) entries (program.start replies) all)

  pub runs_well : NeverStuck p
  runs_well calls replies n fit =
      outcome_well (after p n (c_start p calls replies)) (run_well replies n (entries_of p calls) (entries_begin calls fit))

  pub on_the_way : (replies : List Reply) (n : ℕ) (entries : List Entry) → AllByRecursion (Begins p) entries
      → (pending : Pending) (s : State)
      → after p n (begin_entry p (fresh p replies) (Init 0) entries) ≡ Going pending s → TypedPhase p pending.phase s
  on_the_way replies n entries all pending s e =
      let well : GoesWell p pending s = subst (Well p) e (run_well replies n entries all) in
      well.now

  pub over_well : (replies : List Reply) (n : ℕ) (entries : List Entry) → AllByRecursion (Begins p) entries → (run : CRun)
      → after p n (begin_entry p (fresh p replies) (Init 0) entries) ≡ Over run → run.outcome ≢ Stopped Stuck
  over_well replies n entries all run e = subst (Well p) e (run_well replies n entries all)

  -- ---- one entry

  -- a function of a unit begins at once
  began : (pending : Pending) (t : CType) (o : Option Definition) (u : ℕ) (m : Machine) (args : List CValue)
      → may_end pending.phase t ≡ true → pending.entries ≡ []
      → TypedStep p t (begin o u m args []) → TypedRun p (begun pending (begin o u m args []))
  began pending t None u m args ends none h = absurd h
  began pending t (Some d) u m args ends none h = grind arith

  pub entry_typed : (m : Machine) (last : Phase) (e : Entry) → TypedMachine p m → Begins p e
      → TypedRun p (begin_entry p m last (e ∷ []))
  entry_typed m last e machine b =
      let pending : Pending = record { phase = e.phase; entries = [] } in
      subst (λ (f : Option FuncAddress). TypedRun p (elim f [
        | None ↦ Over (over pending m (Stopped Stuck))
        | Some f ↦ begun pending (call p f m (map Number e.args) [])
      ])) (sym b.func)
      (began pending (b.ty).result (definition_at p b.unit b.name) b.unit m (map Number e.args) b.ends refl
      (call_typed p program (b.ty).result m machine (UnitFunc b.unit b.name) b.ty (map Number e.args) [] b.func_is b.args refl))

  -- it ends with these objects
  ended_typed : (m : Machine) (last : Phase) (entries : List Entry) → entries ≡ [] → TypedMachine p m
      → TypedRun p (begin_entry p m last entries)
  ended_typed m last entries none machine = subst (λ es. TypedRun p (begin_entry p m last es)) (sym none)
      (ended, λ e n same. units_keep p m n same machine)

  back_typed : (pending : Pending) (t : CType) (m : Machine) (phase : Phase) (value : Option CValue) → TypedMachine p m
      → pending.entries ≡ [] → may_end phase t ≡ true → Gives p t value → TypedRun p (came_back p pending m phase value)
  back_typed pending t m (Init k) None machine none ends gives = ended_typed m (Init k) pending.entries none machine
  back_typed pending t m (Init k) (Some v) machine none ends gives = absurd (void_gives_none p t v ends gives)
  back_typed pending t m (Call k) None machine none ends gives =
      ended_typed (told_end m None) (Call k) pending.entries none (trail_keeps p m (call_ended m.trail None) machine)
  back_typed pending t m (Call k) (Some (Number v)) machine none ends gives =
      ended_typed (told_end m (Some v)) (Call k) pending.entries none (trail_keeps p m (call_ended m.trail (Some v)) machine)
  back_typed pending t m (Call k) (Some (Pointer a)) machine none ends gives = absurd (no_pointer t a ends gives.is)
  back_typed pending t m (Call k) (Some (FuncPointer f)) machine none ends gives = absurd (no_function t f ends gives.is)

  not_ended : (why : Stop) → Stopped why ≡ Ended → ⊥
  not_ended why e = grind arith

  on_typed : (pending : Pending) (t : CType) (step : Step) → may_end pending.phase t ≡ true → pending.entries ≡ []
      → TypedStep p t step → TypedRun p (go_on p pending step)
  on_typed pending t (Next s) ends none h = (record { last = t; ends = ends; state = h }, none)
  on_typed pending t (Back m value) ends none h = back_typed pending t m pending.phase value h.0 none ends h.1
  on_typed pending t (Stops m why) ends none h = (stops_well p t m why h, λ e. absurd (not_ended why e))

  pub after_typed : (n : ℕ) (x : Progress) → TypedRun p x → TypedRun p (after p n x)
  after_typed zero x h = h
  after_typed (suc n) (Over run) h = h
  after_typed (suc n) (Going pending s) h = after_typed n (go_on p pending (c_step p s))
      (on_typed pending h.0.last (c_step p s) h.0.ends h.1 (step_typed p program h.0.last s h.0.state))

  pub call_fits : (k : ℕ) (c : SymbolCall) → fits p c ≡ true → Begins p (record { phase = Call k; func = called_func p c; args = c.args })
  call_fits = call_begins

  pub inits_begin : (k : ℕ) (fs : List FuncAddress) → AllByRecursion (IsVoid p) fs
      → AllByRecursion (λ f. Begins p (record { phase = Init k; func = Some f; args = [] })) fs
  inits_begin k [] h = tt
  inits_begin k (f ∷ fs) h = (init_begins k f h.0, inits_begin k fs h.1)

  pub all_inits_begin : (k : ℕ) → AllByRecursion (λ f. Begins p (record { phase = Init k; func = Some f; args = [] })) (init_functions p)
  all_inits_begin k = inits_begin k (init_functions p) program.inits
