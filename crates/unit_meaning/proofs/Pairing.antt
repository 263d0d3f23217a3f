-- The pairing of a set's run with its units' run, from how instantiation and calls are followed.
use Rattle.unit_meaning.proofs.Common.{◌≡◌, ℕ, zero, suc, ◌+◌, ◌*◌, ◌≤◌, true, ◌≢◌, ◌⊎◌, List, [], ◌∷◌, ◌++◌, map, length, drop, replicate}
use Rattle.unit_meaning.proofs.Common.{slice_get, Some, None, Option, sym, refl, ap, ◌∙◌, subst, inl, inr, arith, AllByRecursion, Call}
use Rattle.unit_meaning.proofs.Common.{Init, Phase, Reply, Trail, asks_in, call_ended, values_in, IsNumber, is_result, FuncType, Value}
use Rattle.unit_meaning.proofs.Common.{init_symbol_of, enough, join, stays, Definition, Program, definition_at, fresh, Reaches, CRun, Entry}
use Rattle.unit_meaning.proofs.Common.{IsGoing, Over, Pending, Progress, after, begin_entry, begun, c_run, c_start, go_on, over, told_end}
use Rattle.unit_meaning.proofs.Common.{Stops, begin, first_vars, next, Alike, AllElementsAlike, MemoriesAlike, OutcomesAlike, StoresAlike}
use Rattle.unit_meaning.proofs.Common.{TablesAlike, callable_later, ElementsAgree, MemoriesAgree, StoresAgree, TablesAgree, BodiesFollow}
use Rattle.unit_meaning.proofs.Common.{CallFollows, CallsFollow, EndsAlike, GoesOn, SameStop, StopsAlike, Together, call_spare, called}
use Rattle.unit_meaning.proofs.Common.{given, InitFollows, IsUntouched, UnitsAreInstantiatedAlike, do_tasks, object_types, Forward}
use Rattle.unit_meaning.proofs.Common.{IsAcceptedSet, IsListing, NeverStops, Paired, Pairing, UnitsArePaired, UnitsDoTheSame, UnitsServe}
use Rattle.unit_meaning.proofs.Common.{c_run_of, program_of, symbol_call}
use Rattle.wasm_meaning.specs.LinkedSet as link
use Rattle.wasm_meaning.specs.Store as store
use Rattle.wasm_meaning.specs.Execution as exec
use Rattle.wasm_meaning.specs.Run as wasm
use Rattle.c_meaning.specs.State as state
use Rattle.c_meaning.specs.Run as c
use Rattle.c_meaning.proofs.Longer.{run_longer, run_shorter}
use Rattle.c_meaning.proofs.OnTheWay.{going_is_out}
use Rattle.unit_meaning.proofs.Listed.{WrapsOnce, IsWrapped, ListedCallsAreWrapped, InitsAreInOrder}
use Rattle.unit_meaning.proofs.Program.{units_serve, listed_calls_are_wrapped}
use Rattle.unit_meaning.proofs.Inits.{inits_are_in_order}
use Rattle.unit_meaning.proofs.Untouched.{store_of, units_of}
use Rattle.unit_meaning.proofs.MakesOwn.{tasks_make_own}
use Rattle.unit_meaning.proofs.TypesStay.{entry_units, types_stay}
use Rattle.unit_meaning.proofs.Start.{starts_together, starts_untouched}
use Rattle.unit_meaning.proofs.Plans.{call_plan, call_entries, module_plan, init_entries, behind_module, module_run, plan_is, entries_are}

-- ---- what agrees is alike

memories_alike : (memory : Option store.Memory) (other : Option state.Memory) → MemoriesAgree memory other → MemoriesAlike memory other
memories_alike None None h = tt
memories_alike None (Some other) h = ap (λ m. m.bytes) h
memories_alike (Some memory) None h = absurd h
memories_alike (Some memory) (Some other) h = sym h.bytes

elements_alike : (p : Program) (s : link.LinkedSet) (fs : List (Option link.FuncAddress)) (es : List (Option state.Element))
    → ElementsAgree p s fs es → AllElementsAlike s fs es
elements_alike p s [] [] h = tt
elements_alike p s (None ∷ fs) (None ∷ es) h = (tt, elements_alike p s fs es h)
elements_alike p s (Some f ∷ fs) (Some e ∷ es) h = (h.0.same, elements_alike p s fs es h.1)
elements_alike p s _ _ h = absurd h

tables_alike : (p : Program) (s : link.LinkedSet) (table : Option store.Table) (other : Option state.Table) → TablesAgree p s table other
    → TablesAlike s table other
tables_alike p s None None h = tt
tables_alike p s None (Some other) h = ap (λ t. t.elements) h
tables_alike p s (Some table) None h = absurd h
tables_alike p s (Some table) (Some other) h = elements_alike p s table.elements other.elements h.elements

pub stores_alike : (p : Program) (s : link.LinkedSet) (w : wasm.WasmRun) (q : ℕ) (made : store.Store) (units : List state.Objects)
    → StoresAgree p s q made units → StoresAlike s w q made units
stores_alike p s w q [] [] h = tt
stores_alike p s w q (o ∷ made) (u ∷ units) h = (
  record { memory = memories_alike o.memory _ h.0.memory; table = tables_alike p s o.table _ h.0.table; globals = λ got. h.0.globals },
  stores_alike p s w (suc q) made units h.1,
)
stores_alike p s w q _ _ h = absurd h

-- ---- the pairing from one place, with n steps

-- the run of the units ends alike
pub record EndsBoth (p : Program) (s : link.LinkedSet) (from : Progress) (n : ℕ) (w : wasm.WasmRun) : Type 0 where
  pub run : CRun
  pub statements : ℕ
  pub way : Reaches p statements from (Over run)
  pub few : statements ≤ 400 * n
  pub alike : Alike s w run

abbrev pub PairedFrom : Program → link.LinkedSet → Progress → ℕ → wasm.WasmRun → Type 0
PairedFrom p s from n w = EndsBoth p s from n w ⊎ ((w.outcome ≡ wasm.Stopped exec.OutOfSteps) × GoesOn p from n)

-- behind statements that are paid
later : (p : Program) (from to : Progress) (n left k : ℕ) → Reaches p k from to → n ≤ left + k → GoesOn p to left → GoesOn p from n
later p from to n left k way least o = record
    { to = o.to; goes = o.goes; statements = k + o.statements; way = join p k _ _ _ _ way o.way; least = omega (arith, o.least, least) }

behind : (p : Program) (s : link.LinkedSet) (from to : Progress) (n left k : ℕ) (w : wasm.WasmRun) → Reaches p k from to → n ≤ left + k
    → k + 400 * left ≤ 400 * n → PairedFrom p s to left w → PairedFrom p s from n w
behind p s from to n left k w way least most (inl e) = inl (record
    { run = e.run; statements = k + e.statements; way = join p k _ _ _ _ way e.way; few = omega (arith, e.few, most); alike = e.alike })
behind p s from to n left k w way least most (inr o) = inr (o.0, later p from to n left k way least o.1)

-- a stop
abbrev stopped_run : Pending → exec.Stop → store.Store → Trail → wasm.WasmRun
stopped_run pending why made trail = record { phase = pending.phase; events = trail.events; store = made; outcome = wasm.Stopped why }

ends_alike : (p : Program) (s : link.LinkedSet) (pending : Pending) (spare : ℕ) (start from : Progress) (steps n k : ℕ) (why : exec.Stop)
    (made : store.Store) (trail : Trail) → Reaches p k start from → k + 400 * n + spare ≤ 400 * steps
    → ((reason : state.Stop) → SameStop why reason → OutcomesAlike (wasm.Stopped why) (c.Stopped reason))
    → EndsAlike p s pending spare from n why made trail → PairedFrom p s start steps (stopped_run pending why made trail)
ends_alike p s pending spare start from steps n k why made trail way most alike h = inl (record {
  run = over pending h.machine (c.Stopped h.reason);
  statements = k + h.statements;
  way = join p k h.statements start from _ way h.way;
  few = omega (arith, h.few, most);
  alike = record {
    phase = refl;
    outcome = alike h.reason h.same;
    values = ap (λ (t : Trail). values_in t.events) (sym h.agrees.same_trail);
    asks = ap (λ (t : Trail). asks_in t.events) (sym h.agrees.same_trail);
    objects = stores_alike p s _ 0 made h.machine.units h.agrees.objects;
  };
})

stops : (p : Program) (s : link.LinkedSet) (pending : Pending) (spare : ℕ) (start from : Progress) (steps n k : ℕ) (why : exec.Stop)
    (made : store.Store) (trail : Trail) → Reaches p k start from → steps ≤ n + k → k + 400 * n + spare ≤ 400 * steps
    → StopsAlike p s pending spare from n why made trail → PairedFrom p s start steps (stopped_run pending why made trail)
stops p s pending spare start from steps n k (exec.Trapped kind) made trail way least most h =
    ends_alike p s pending spare start from steps n k (exec.Trapped kind) made trail way most
    (λ reason same. subst (λ (r : state.Stop). OutcomesAlike (wasm.Stopped (exec.Trapped kind)) (c.Stopped r)) (sym same) refl) h
stops p s pending spare start from steps n k exec.Asks made trail way least most h =
    ends_alike p s pending spare start from steps n k exec.Asks made trail way most
    (λ reason same. subst (λ (r : state.Stop). OutcomesAlike (wasm.Stopped exec.Asks) (c.Stopped r)) (sym same) tt) h
stops p s pending spare start from steps n k exec.OutOfSteps made trail way least most h =
    inr (refl, later p start from steps n k way least h)
stops p s pending spare start from steps n k exec.Stuck made trail way least most h = absurd h

-- ---- the beginning of an entry

-- an entry of a unit's function begins as a call does
begun_as_called : (p : Program) (pending : Pending) (d : Option Definition) (u : ℕ) (m : state.Machine) (args : List state.CValue)
    → begun pending (begin d u m args []) ≡ go_on p pending (begin d u m args [])
begun_as_called p pending None u m args = refl
begun_as_called p pending (Some d) u m args = go (first_vars d args)
  where
    go : (vars : Option state.Vars) → begun pending (elim vars [
      | None ↦ Stops m state.Stuck
      | Some vars ↦ next m
          (record { unit = u; item = d.item; result = d.func.result; stmts = d.body.stmts; rest = d.body.stmts; vars = vars }) []
    ]) ≡ go_on p pending (elim vars [
      | None ↦ Stops m state.Stuck
      | Some vars ↦ next m
          (record { unit = u; item = d.item; result = d.func.result; stmts = d.body.stmts; rest = d.body.stmts; vars = vars }) []
    ])
    go None = refl
    go (Some vars) = refl

pub entry_is_called : (p : Program) (m : state.Machine) (last : Phase) (phase : Phase)
    (f : Option state.FuncAddress) (args : List Value) (entries : List Entry) (u : ℕ) (name : state.Name) → f ≡ Some (state.UnitFunc u name)
    → begin_entry p m last (record { phase = phase; func = f; args = args } ∷ entries)
    ≡ called p (record { phase = phase; entries = entries }) (state.UnitFunc u name) m args []
entry_is_called p m last phase f args entries u name is =
    ap (λ (g : Option state.FuncAddress). begin_entry p m last (record { phase = phase; func = g; args = args } ∷ entries)) is
    ∙ begun_as_called p (record { phase = phase; entries = entries }) (definition_at p u name) u m (map state.Number args)

-- ---- calls

-- where the value of a call has come, and its end is told
call_given : (p : Program) (k : ℕ) (entries : List Entry) (m : state.Machine) (value : Option Value)
    → given p (record { phase = Call k; entries = entries }) m value [] ≡ begin_entry p (told_end m value) (Call k) entries
call_given p k entries m None = refl
call_given p k entries m (Some v) = refl

-- both runs tell it alike
told_together : (p : Program) (s : link.LinkedSet) (count : ℕ) (m : state.Machine) (made : store.Store) (trail : Trail)
    (value : Option Value) → Together p s count 0 m made trail → Together p s count 0 (told_end m value) made (call_ended trail value)
told_together p s count m made trail value h = record {
  agrees = record { objects = h.agrees.objects; same_trail = ap (λ (t : Trail). call_ended t value) h.agrees.same_trail };
  ready = record {
    pointers = λ u tree less is. let r = h.ready.pointers u tree less is in
        record { memory = r.memory; table = r.table; globals = r.globals };
    objects = h.ready.objects;
    elements = h.ready.elements;
  };
  depth_is = h.depth_is;
}

-- what is pending while a call runs, and an init function
abbrev call_pending : Program → ℕ → List wasm.ListedCall → Pending
call_pending p k calls = record { phase = Call k; entries = call_entries p (suc k) calls }

abbrev init_pending : link.LinkedSet → ℕ → List link.NamedModule → List wasm.ListedCall → Pending
init_pending s u modules calls = record { phase = Init u; entries = init_entries (suc u) modules (call_entries (program_of s) 0 calls) }

-- the pairing behind calls, wherever both runs agree
abbrev BehindCalls : Program → link.LinkedSet → ℕ → ℕ → List wasm.ListedCall → Type 0
BehindCalls p s count k calls =
    (last : Phase) (n : ℕ) (made : store.Store) (trail : Trail) (m : state.Machine) → Together p s count 0 m made trail
    → PairedFrom p s (begin_entry p m last (call_entries p k calls)) n (wasm.run_tasks s (call_plan k calls) last n made trail)

one_call : (p : Program) (s : link.LinkedSet) (count k : ℕ) (call : wasm.ListedCall) (calls : List wasm.ListedCall)
    (ty : FuncType) (frames : List state.Frame) (start from : Progress) (n back : ℕ) (o : exec.Called) → Reaches p 1 start from → back ≤ 2
    → ((m : state.Machine) (value : Option Value) → is_result ty.result value ≡ true
    → Reaches p back (given p (call_pending p k calls) m value frames) (given p (call_pending p k calls) m value []))
    → CallFollows p s count 0 (call_pending p k calls) frames ty from n o → BehindCalls p s count (suc k) calls
    → PairedFrom p s start (suc n) (wasm.then_run o (record { phase = Call k; place = 0; task = wasm.CallExport call })
    (wasm.run_tasks s (call_plan (suc k) calls) (Call k)))
one_call p s count k call calls ty frames start from n back (exec.Back left value made trail) first few gives h more =
    let on : Reaches p (1 + (h.statements + back)) start
    (begin_entry p (told_end h.machine value) (Call k) (call_entries p (suc k) calls)) =
    rw (call_given p k (call_entries p (suc k) calls) h.machine value) at (join p 1 (h.statements + back) start from _ first
    (join p h.statements back from _ _ h.way (gives h.machine value h.typed))) in
    behind p s start _ (suc n) left (1 + (h.statements + back)) _ on (omega (arith, h.paid.least)) (omega (arith, h.paid.most, few))
    (more (Call k) left made (call_ended trail value) (told_end h.machine value)
    (told_together p s count h.machine made trail value h.together))
one_call p s count k call calls ty frames start from n back (exec.CallStops why made trail) first few gives h more =
    stops p s (call_pending p k calls) call_spare start from (suc n) n 1 why made trail first (omega arith) (omega arith) h

calls_paired : (s : link.LinkedSet) (count : ℕ) → length s.modules ≤ count
    → CallsFollow (program_of s) s count 1024 (exec.call_within s 1024)
    → (k : ℕ) (calls : List wasm.ListedCall) → AllByRecursion (IsWrapped s) calls
    → AllByRecursion (λ (call : wasm.ListedCall). AllByRecursion IsNumber call.args) calls → BehindCalls (program_of s) s count k calls
calls_paired s count all follow k [] wrapped numbers last n made trail m together = inl (record {
  run = over (record { phase = last; entries = [] }) m c.Ended;
  statements = 0;
  way = stays (program_of s) _;
  few = omega arith;
  alike = record {
    phase = refl;
    outcome = tt;
    values = ap (λ (t : Trail). values_in t.events) (sym together.agrees.same_trail);
    asks = ap (λ (t : Trail). asks_in t.events) (sym together.agrees.same_trail);
    objects = stores_alike (program_of s) s _ 0 made m.units together.agrees.objects;
  };
})
calls_paired s count all follow k (call ∷ calls) wrapped numbers last zero made trail m together =
    let p : Program = program_of s in
    let w : IsWrapped s call = wrapped.0 in
    let pending : Pending = call_pending p k calls in
    let begins = entry_is_called p m last (Call k) _ call.args (call_entries p (suc k) calls) w.unit
    (symbol_call call).symbol w.called_is in
    inr (
      refl,
      record {
        to = begin_entry p m last (call_entries p k (call ∷ calls));
        goes = subst IsGoing (sym begins) ((w.wraps pending m []).calls.on_the_way 0 (omega arith));
        statements = 0;
        way = stays p _;
        least = omega arith;
      },
    )
calls_paired s count all follow k (call ∷ calls) wrapped numbers last (suc n) made trail m together =
    let p : Program = program_of s in
    let w : IsWrapped s call = wrapped.0 in
    let pending : Pending = call_pending p k calls in
    let begins = entry_is_called p m last (Call k) _ call.args (call_entries p (suc k) calls) w.unit
    (symbol_call call).symbol w.called_is in
    let once : WrapsOnce p w.ty (state.UnitFunc w.unit (symbol_call call).symbol) w.inner pending m call.args [] = w.wraps pending m [] in
    let followed = follow w.function w.inner w.ty call.args n 0 made trail m pending (once.frames ++ []) w.ty_is
    (callable_later s (length s.modules) count w.function all w.callable) w.stands w.fit numbers.0 together refl in
    let t : wasm.Planned = record { phase = Call k; place = 0; task = wasm.CallExport call } in
    let go : ℕ → store.Store → Trail → wasm.WasmRun = wasm.run_tasks s (call_plan (suc k) calls) (Call k) in
    rw begins (rw w.function_is (one_call p s count k call calls w.ty (once.frames ++ []) _ _ n once.back
    (exec.call_within s 1024 w.function call.args n made trail) once.calls once.few once.gives followed
    (calls_paired s count all follow (suc k) calls wrapped.1 numbers.1)))

-- ---- modules

-- lists of the same types
same_at : {A B : Type 0} (f : A → B) (xs ys : List A) (i : ℕ) (x : A) → map f ys ≡ map f xs → slice_get xs i ≡ Some x
    → (y : A) × (slice_get ys i ≡ Some y) × (f y ≡ f x)
same_at f (x' ∷ xs) (y ∷ ys) zero x e found =
    let is : x' ≡ x = cc in
    let head : f y ≡ f x' = cc in
    (y, refl, head ∙ ap f is)
same_at f (x' ∷ xs) (y ∷ ys) (suc i) x e found = let tail : map f ys ≡ map f xs = cc in same_at f xs ys i x tail found
same_at f _ _ i x e found = absurd (cc)

-- modules from number u on, of which nothing is made
abbrev pub AreUntouched : link.LinkedSet → ℕ → state.Machine → store.Store → Type 0
AreUntouched s u machine made = (v : ℕ) (m : link.NamedModule) → u ≤ v → slice_get s.modules v ≡ Some m → IsUntouched v m machine made

untouched_behind : (s : link.LinkedSet) (u : ℕ) (machine after : state.Machine) (made made' : store.Store)
    → ((v : ℕ) → v ≢ u → slice_get made v ≡ Some store.no_objects → slice_get made' v ≡ Some store.no_objects)
    → map object_types after.units ≡ map object_types machine.units → AreUntouched s u machine made → AreUntouched s (suc u) after made'
untouched_behind s u machine after made made' store_kept types_kept before v m le is =
    let old : IsUntouched v m machine made = before v m (omega arith) is in
    let there = same_at object_types machine.units after.units v old.now types_kept old.unit in
    record {
      objects = store_kept v (λ e. absurd (omega (arith, e, le))) old.objects;
      now = there.0;
      unit = there.1;
      same_types = there.2 ∙ old.same_types;
    }

-- the pairing behind modules
abbrev BehindModules : link.LinkedSet → ℕ → List link.NamedModule → List wasm.ListedCall → Type 0
BehindModules s u modules calls =
    (last : Phase) (n : ℕ) (made : store.Store) (trail : Trail) (m : state.Machine)
    → Together (program_of s) s u 0 m made trail → AreUntouched s u m made → PairedFrom (program_of s) s (begin_entry (program_of s) m last
    (init_entries u modules (call_entries (program_of s) 0 calls))) n
    (wasm.run_tasks s (module_plan u modules (call_plan 0 calls)) last n made trail)

one_module : (s : link.LinkedSet) (u : ℕ) (modules : List link.NamedModule) (calls : List wasm.ListedCall)
    (from : Progress) (n : ℕ) (o : exec.Called) → InitFollows (program_of s) s u (init_pending s u modules calls) [] from n o
    → ((k : ℕ) (machine : state.Machine) → Reaches (program_of s) k from
    (begin_entry (program_of s) machine (Init u) (init_entries (suc u) modules (call_entries (program_of s) 0 calls)))
    → AreUntouched s (suc u) machine (store_of o)) → BehindModules s (suc u) modules calls
    → PairedFrom (program_of s) s from n (behind_module o u (wasm.run_tasks s (module_plan (suc u) modules (call_plan 0 calls)) (Init u)))
one_module s u modules calls from n (exec.Back left value made trail) h untouched more =
    behind (program_of s) s from _ n left h.statements _ h.way h.paid.least (omega (arith, h.paid.most))
    (more (Init u) left made trail h.machine h.together (untouched h.statements h.machine h.way))
one_module s u modules calls from n (exec.CallStops why made trail) h untouched more =
    stops (program_of s) s (init_pending s u modules calls) 0 from
    from n n 0 why made trail (stays (program_of s) from) (omega arith) (omega arith) h

-- what is behind an item of a list
drop_at : {A : Type 0} (xs : List A) (i : ℕ) (x : A) (behind : List A) → drop i xs ≡ x ∷ behind
    → (slice_get xs i ≡ Some x) × (drop (suc i) xs ≡ behind)
drop_at [] zero x behind e = absurd (cc)
drop_at [] (suc i) x behind e = absurd (cc)
drop_at (y ∷ xs) zero x behind e =
    let head : y ≡ x = cc in
    let tail : xs ≡ behind = cc in
    (ap Some head, tail)
drop_at (y ∷ xs) (suc i) x behind e = drop_at xs i x behind e

drop_all : {A : Type 0} (xs : List A) (i : ℕ) → drop i xs ≡ [] → length xs ≤ i
drop_all [] i e = omega arith
drop_all (x ∷ xs) zero e = absurd (cc)
drop_all (x ∷ xs) (suc i) e = let h = drop_all xs i e in omega (arith, h)

modules_paired : UnitsAreInstantiatedAlike → BodiesFollow → UnitsServe → ListedCallsAreWrapped
    → (s : link.LinkedSet) → IsAcceptedSet s → (calls : List wasm.ListedCall) → AllByRecursion (IsWrapped s) calls
    → AllByRecursion (λ (call : wasm.ListedCall). AllByRecursion IsNumber call.args) calls
    → (u : ℕ) (modules : List link.NamedModule) → drop u s.modules ≡ modules → BehindModules s u modules calls
modules_paired instantiated bodies serve wrapped s accepted calls are numbers u [] rest last n made trail m together untouched =
    calls_paired s u (drop_all s.modules u rest) (bodies (program_of s) s (serve s accepted) u 1024 (omega arith)) 0 calls are numbers last
    n made trail m together
modules_paired instantiated bodies serve wrapped s accepted calls are numbers u
    (first ∷ modules) rest last n made trail m together untouched =
    let p : Program = program_of s in
    let at = drop_at s.modules u first modules rest in
    let entries : List Entry = init_entries (suc u) modules (call_entries p 0 calls) in
    let pending : Pending = record { phase = Init u; entries = entries } in
    let name : state.Name = init_symbol_of first.name in
    let o : exec.Called = do_tasks s u (wasm.tasks_of first.tree) n made trail in
    let begins = entry_is_called p m last (Init u) _ [] entries u name refl in
    let follows = instantiated s accepted u first at.0 n made trail m pending [] together (untouched u first (omega arith) at.0) in
    let kept : (k : ℕ) (machine : state.Machine) → Reaches p k (called p pending (state.UnitFunc u name) m [] [])
    (begin_entry p machine (Init u) entries) → AreUntouched s (suc u) machine (store_of o)
    = λ k machine way. untouched_behind s u m machine made (store_of o)
    (λ v differ. tasks_make_own s u v (wasm.tasks_of first.tree) n made trail differ) (sym (entry_units p machine (Init u) entries)
    ∙ ap (λ (x : Progress). map object_types (units_of x)) (sym way.there)
    ∙ types_stay p k (called p pending (state.UnitFunc u name) m [] []) ∙ ap (λ (x : Progress). map object_types (units_of x)) (sym begins)
    ∙ entry_units p m last (init_entries u (first ∷ modules) (call_entries p 0 calls)))
    untouched in
    rw begins (subst (PairedFrom p s (called p pending (state.UnitFunc u name) m [] []) n)
    (sym (module_run s u first.tree (module_plan (suc u) modules (call_plan 0 calls)) last n made trail))
    (one_module s u modules calls (called p pending (state.UnitFunc u name) m [] []) n o follows kept
    (modules_paired instantiated bodies serve wrapped s accepted calls are numbers (suc u) modules at.1)))

-- ---- the whole

all_wrapped : (s : link.LinkedSet) → IsAcceptedSet s → ListedCallsAreWrapped → (calls : List wasm.ListedCall)
    → AllByRecursion (wasm.Fits s) calls → AllByRecursion (IsWrapped s) calls
all_wrapped s accepted wrapped [] fit = tt
all_wrapped s accepted wrapped (call ∷ calls) fit = (wrapped s accepted call fit.0, all_wrapped s accepted wrapped calls fit.1)

-- arguments are numbers
all_numbers : (s : link.LinkedSet) (calls : List wasm.ListedCall) → AllByRecursion (wasm.Fits s) calls
    → AllByRecursion (λ (call : wasm.ListedCall). AllByRecursion IsNumber call.args) calls
all_numbers s [] fit = tt
all_numbers s (call ∷ calls) fit = (fit.0.5, all_numbers s calls fit.1)

-- both runs from their beginning
runs_paired : UnitsAreInstantiatedAlike → BodiesFollow → UnitsServe → ListedCallsAreWrapped → InitsAreInOrder
    → (s : link.LinkedSet) → IsAcceptedSet s → (calls : List wasm.ListedCall) (replies : List Reply) (n : ℕ) → IsListing s calls
    → PairedFrom (program_of s) s (c_start (program_of s) (map symbol_call calls) replies) n (wasm.wasm_run s calls n replies)
runs_paired instantiated bodies serve wrapped inits s accepted calls replies n listing =
    let p : Program = program_of s in
    let made : store.Store = replicate (length s.modules) store.no_objects in
    let trail : Trail = record { replies = replies; events = [] } in
    let paired = modules_paired instantiated bodies serve wrapped s accepted calls
    (all_wrapped s accepted wrapped calls listing) (all_numbers s calls listing) 0 s.modules refl
    (Init 0) n made trail (fresh p replies) (starts_together s replies) (λ v m le is. starts_untouched s replies v m is) in
    rw (entries_are p s.modules calls (inits s accepted)) (rw (plan_is s calls) paired)

out_with : (p : Program) (s : link.LinkedSet) (calls : List wasm.ListedCall) (replies : List Reply) (n : ℕ)
    → GoesOn p (c_start p (map symbol_call calls) replies) n → (c_run p (map symbol_call calls) n replies).outcome ≡ c.OutOfSteps
out_with p s calls replies n h =
    run_shorter p (map symbol_call calls) replies n h.statements h.least
    (going_is_out p (map symbol_call calls) replies h.statements (subst IsGoing (sym h.way.there) h.goes))

pub units_are_paired : UnitsAreInstantiatedAlike → BodiesFollow → UnitsServe → ListedCallsAreWrapped → InitsAreInOrder → UnitsArePaired
units_are_paired instantiated bodies serve wrapped inits s accepted calls replies n listing =
    go (runs_paired instantiated bodies serve wrapped inits s accepted calls replies n listing)
  where
    go : PairedFrom (program_of s) s (c_start (program_of s) (map symbol_call calls) replies) n (wasm.wasm_run s calls n replies)
        → Paired s calls replies n
    go (inl e) = inl (subst (Alike s (wasm.wasm_run s calls n replies))
        (sym (enough (program_of s) (map symbol_call calls) replies e.statements (400 * n + 400) e.run e.way
        (omega (arith, e.few)))) e.alike)
    go (inr o) = inr (o.0, out_with (program_of s) s calls replies n o.1)

-- ---- both directions, and that no run is undefined or stuck

no_undefined : (o : wasm.Outcome) (kind : ℕ) (place : state.Place) → OutcomesAlike o (c.Stopped (state.Undefined kind place)) → ⊥
no_undefined (wasm.Stopped (exec.Trapped k)) kind place h = h
no_undefined _ kind place h = h

no_stuck : (o : wasm.Outcome) → OutcomesAlike o (c.Stopped state.Stuck) → ⊥
no_stuck (wasm.Stopped (exec.Trapped k)) h = h
no_stuck _ h = h

no_stuck_module : (o : c.Outcome) → OutcomesAlike (wasm.Stopped exec.Stuck) o → ⊥
no_stuck_module c.Ended h = h
no_stuck_module _ h = h

forward : (s : link.LinkedSet) → Pairing s → Forward (program_of s) s
forward s paired calls replies n listing over = go (paired calls replies n listing)
  where
    go : Paired s calls replies n → (m : ℕ) × (m ≤ 400 * n + 400)
        × Alike s (wasm.wasm_run s calls n replies) (c_run_of (program_of s) calls m replies)
    go (inl alike) = (400 * n + 400, omega arith, alike)
    go (inr out) = absurd (over out.0)

-- the pair of a unit's run that is over
pair_of : (s : link.LinkedSet) → Pairing s → (calls : List wasm.ListedCall) (replies : List Reply) (m : ℕ) → IsListing s calls
    → (c_run_of (program_of s) calls m replies).outcome ≢ c.OutOfSteps
    → Alike s (wasm.wasm_run s calls m replies) (c_run_of (program_of s) calls m replies)
pair_of s paired calls replies m listing over = go (paired calls replies m listing)
  where
    go : Paired s calls replies m → Alike s (wasm.wasm_run s calls m replies) (c_run_of (program_of s) calls m replies)
    go (inl alike) = subst (Alike s (wasm.wasm_run s calls m replies))
        (run_longer (program_of s) (map symbol_call calls) replies m (400 * m + 400) (omega arith) over) alike
    go (inr out) = absurd (over out.1)

never_stops : (s : link.LinkedSet) → Pairing s → NeverStops (program_of s) s
never_stops s paired = record {
  never_undefined = λ calls replies m kind place listing stopped.
      let alike = pair_of s paired calls replies m listing
      (λ e. let wrong : c.Stopped (state.Undefined kind place) ≡ c.OutOfSteps = sym stopped ∙ e in grind arith) in
      no_undefined _ kind place (subst (OutcomesAlike (wasm.wasm_run s calls m replies).outcome) stopped alike.outcome);
  never_stuck = λ calls replies m listing stopped.
      let alike = pair_of s paired calls replies m listing
      (λ e. let wrong : c.Stopped state.Stuck ≡ c.OutOfSteps = sym stopped ∙ e in grind arith) in
      no_stuck _ (subst (OutcomesAlike (wasm.wasm_run s calls m replies).outcome) stopped alike.outcome);
  modules_never_stuck = λ calls replies n listing stopped. module_never_stuck calls replies n stopped (paired calls replies n listing);
}
  where
    module_never_stuck : (calls : List wasm.ListedCall) (replies : List Reply) (n : ℕ)
        → (wasm.wasm_run s calls n replies).outcome ≡ wasm.Stopped exec.Stuck → Paired s calls replies n → ⊥
    module_never_stuck calls replies n stopped (inl alike) =
        no_stuck_module (c_run_of (program_of s) calls (400 * n + 400) replies).outcome (rw stopped at alike.outcome)
    module_never_stuck calls replies n stopped (inr out) = let wrong : wasm.Stopped exec.Stuck ≡ wasm.Stopped exec.OutOfSteps = sym stopped
        ∙ out.0 in grind arith

pub paired_units_do_the_same : UnitsArePaired → UnitsDoTheSame
paired_units_do_the_same paired s accepted = record {
  forward = forward s (paired s accepted);
  backward = λ calls replies m listing over. (m, omega arith, pair_of s (paired s accepted) calls replies m listing over);
  never_stops = never_stops s (paired s accepted);
}

-- The theorem of units, from how init functions and bodies are followed.
pub units_do_the_same : UnitsAreInstantiatedAlike → BodiesFollow → UnitsDoTheSame
units_do_the_same instantiated bodies = paired_units_do_the_same
    (units_are_paired instantiated bodies units_serve listed_calls_are_wrapped inits_are_in_order)
