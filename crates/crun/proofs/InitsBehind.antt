-- The init functions in turn, as the run of them.
use Rattle.crun.proofs.Common.{◌≡◌, ℕ, ◌+◌, ◌-◌, ◌<◌, ◌≤◌, List, [], ◌∷◌, ◌++◌, map, length, take, drop, slice_get, slice_index_or, Some}
use Rattle.crun.proofs.Common.{None, Option, option_map, sym, refl, ap, ◌∙◌, subst, append_assoc, append-nil, arith, take-append-drop}
use Rattle.crun.proofs.Common.{take_all, length-map, map-append, slice_get-get_or, slice_get-map, numbered_at, numbered_many, all_at}
use Rattle.crun.proofs.Common.{take_next, numbered, Ask, Call, Event, Init, Reply, asks_in, Value, unit_of, Program, SymbolCall}
use Rattle.crun.proofs.Common.{init_functions, fresh, Entry, Going, Pending, Progress, after, begin_entry, begun, c_run, entries_of}
use Rattle.crun.proofs.Common.{FuncAddress, Number, State, UnitFunc, call, all_inits_begin, Begins, TypedProgram, Naming, item_name}
use Rattle.crun.proofs.Common.{asks_on, ask_of, event_in, events_in, replies_in, Asks, trail_before, trail_behind, HostModule, Asked}
use Rattle.crun.proofs.Common.{UnitItem, address_in, naming_of, Came, FunctionCame, FunctionCamePart, IsReady, SameProgram, entry_in}
use Rattle.crun.proofs.Common.{machine_at, naming_in, program_in, units_at, AreBegun, BehindAt, IsFirst, IsOutcome, last_value, trail_of}
use Rattle.crun.proofs.Common.{Engine, Outcome}
use Rattle.crun.specs.declared.outcome.Outcome.TheVariants as outcome
use Rattle.crun.proofs.Functions.{alone_in, init_gives_none, same_program, void_ends}
use Rattle.crun.proofs.History.{
  all_ended,
  asks_told,
  entry_of,
  init_ended,
  init_entry,
  no_values_told,
  out_of_steps,
  still_going,
  trapped,
  undefined,
}

-- the function that runs first with a number
pub init_at : (p : Program) (names : Naming) (inits : List UnitItem) → map (address_in names) inits ≡ init_functions p → (k : ℕ)
    → k < length inits
    → slice_get (init_functions p) k ≡ Some (address_in names (slice_index_or inits k (0, 0)))
init_at p names inits are k within = ap (λ fs. slice_get fs k) (sym are) ∙ slice_get-map (address_in names) inits k
    ∙ ap (option_map (address_in names)) (slice_get-get_or inits k (0, 0) within)

pub inits_count : (p : Program) (names : Naming) (inits : List UnitItem) → map (address_in names) inits ≡ init_functions p
    → length inits ≡ length (init_functions p)
inits_count p names inits are = sym (length-map inits (address_in names)) ∙ ap length are

-- where one of them did not end it was begun
pub some_begun : (o : Outcome) (begun all : ℕ) → ((value : Option Value) → o ≡ outcome.Ended value → ⊥) → 1 ≤ begun → AreBegun o begun all
some_begun (outcome.Ended value) begun all never some = absurd (never value refl)
some_begun _ begun all never some = some

-- a list around one of its items
around : {A : Type 0} (xs : List A) (k : ℕ) (x : A) → slice_get xs k ≡ Some x → xs ≡ take k xs ++ x ∷ drop (k + 1) xs
around xs k x at = sym (take-append-drop (k + 1) xs) ∙ ap (λ front. front ++ drop (k + 1) xs) (take_next xs k x at)
    ∙ append_assoc (take k xs) (x ∷ []) (drop (k + 1) xs)

module _ {H : Type 0} (m : HostModule H) (old : Engine H) where
  abbrev p : Program
  p = program_in m old

  abbrev pub init_entries : List Entry
  init_entries = map init_entry (numbered (init_functions p))

  only_inits : entries_of p [] ≡ init_entries
  only_inits = append-nil init_entries

  -- so many init functions have ended
  pub record RanInits (now : Engine H) (k : ℕ) : Type 0 where
    pub asks : List Asked
    pub asked : Asks m old.hosts.list.items old.hosts.journal asks now.hosts.list.items now.hosts.journal
    pub behind : BehindAt p now.depth (units_at now) now.hosts.journal (old.left - now.left) (take k init_entries) (Init (k - 1))
        (events_in now.hosts.journal)
    pub ready : IsReady m now
    pub same : SameProgram m old now
    pub fewer : now.left ≤ old.left

  pub same_on : {a b : Engine H} → SameProgram m old a → SameProgram m a b → SameProgram m old b
  same_on first more = record {
    linked = more.linked ∙ first.linked;
    units = more.units ∙ first.units;
    types = more.types ∙ first.types;
    symbols = more.symbols ∙ first.symbols;
    not_made = more.not_made ∙ first.not_made;
    hosts = more.hosts ∙ first.hosts;
  }

  -- none has run
  pub none_ran : IsReady m old → IsFirst m old → RanInits old 0
  none_ran ready first = record {
    asks = [];
    asked = record { written = sym (append-nil old.hosts.journal); answered = refl };
    behind = record {
      asks = asks_told old.hosts.journal;
      reaches = λ later more.
          let none : old.left - old.left ≡ 0 = omega arith in
          ap (λ n. after p n (begin_entry p (fresh p (replies_in old.hosts.journal ++ later)) (Init 0) more)) none
          ∙ ap (λ j. begin_entry p (fresh p (replies_in j ++ later)) (Init 0) more) first.journal
          ∙ ap (λ machine. begin_entry p machine (Init 0) more) (sym (first.objects later))
          ∙ ap (λ j. begin_entry p (machine_at old (trail_of later (events_in j))) (Init 0) more) (sym first.journal);
    };
    ready = ready;
    same = record { linked = refl; units = refl; types = refl; symbols = refl; not_made = refl; hosts = refl };
    fewer = omega arith;
  }

  -- one more, which came to an outcome
  module _ (now next : Engine H) (k : ℕ) (ran : RanInits now k) (unit item : ℕ)
      (at : slice_get (init_functions p) k ≡ Some (UnitFunc unit (item_name (naming_in old) unit item)))
      (asks : List Asked) (asked : Asks m now.hosts.list.items now.hosts.journal asks next.hosts.list.items next.hosts.journal)
      (less : next.left ≤ now.left) where
    abbrev f : FuncAddress
    f = UnitFunc unit (item_name (naming_in old) unit item)

    abbrev x : Entry
    x = init_entry (k, f)

    entry_at : slice_get init_entries k ≡ Some x
    entry_at = slice_get-map init_entry (numbered (init_functions p)) k
        ∙ ap (option_map init_entry) (numbered_at (init_functions p) k f at)

    -- the address is the function's
    address : UnitFunc unit (item_name (naming_in now) unit item) ≡ f
    address = ap (λ l. UnitFunc unit (item_name (naming_of (map unit_of l.0)) unit item)) ran.same.linked

    abbrev so_far : List Event
    so_far = events_in now.hosts.journal

    abbrev waits : List Entry → Pending
    waits more = record { phase = Init k; entries = more }

    abbrev BeginsIn : Program → FuncAddress → List Entry → List Reply → Progress
    BeginsIn q g more later = begun (waits more) (call q g (machine_at now (trail_before asks later so_far)) (map Number []) [])

    abbrev OutIn : Program → FuncAddress → Outcome → ℕ → List Entry → List Reply → Type 0
    OutIn q g o n more later = Came q (waits more) (machine_at next) (trail_behind asks later so_far) o
        (after q n (BeginsIn q g more later))

    abbrev Out : Outcome → ℕ → Type 0
    Out o n = (more : List Entry) (later : List Reply) → OutIn p f o n more later

    pub out_of : (o : Outcome) (n : ℕ) → FunctionCame m now unit item [] asks o n next → Out o n
    out_of o n came more later =
        subst (λ q. OutIn q f o n more later) (same_program m old now ran.same)
        (subst (λ g. OutIn (program_in m now) g o n more later) address (came (waits more) later so_far))

    -- it begins by the rules, and so it comes back without a value
    begins_there : Begins p (record { phase = Init k; func = Some f; args = [] })
    begins_there = all_at (λ f. Begins p (record { phase = Init k; func = Some f; args = [] })) (init_functions p)
        k f (all_inits_begin p ran_program k) at
      where
        ran_program : TypedProgram p
        ran_program = subst TypedProgram (same_program m old now ran.same) ran.ready.started.program

    begins_now : Begins (program_in m now) (entry_in now unit item [] (Init k))
    begins_now = subst (λ q. Begins q (entry_in now unit item [] (Init k))) (sym (same_program m old now ran.same))
        (subst (λ g. Begins p (record { phase = Init k; func = Some g; args = [] })) (sym address) begins_there)

    pub begins_as_call : Begins (program_in m now) (entry_in now unit item [] (Call 0))
    begins_as_call = let b = begins_now in record {
      unit = b.unit;
      name = b.name;
      ty = b.ty;
      func = b.func;
      func_is = b.func_is;
      args = b.args;
      ends = void_ends (b.ty).result b.ends;
    }

    pub gives_none : (value : Option Value) (n : ℕ) → FunctionCame m now unit item [] asks (outcome.Ended value) n next → value ≡ None
    gives_none value n came = init_gives_none m now unit item [] ran.ready k begins_now n (trail_before asks [] so_far)
        (trail_behind asks [] so_far)
        (machine_at next) value (came (alone_in (Init k)) [] so_far)

    pub both_asked : Asks m old.hosts.list.items old.hosts.journal (ran.asks ++ asks) next.hosts.list.items next.hosts.journal
    both_asked = asks_on m old.hosts.list.items old.hosts.journal ran.asks now.hosts.list.items now.hosts.journal asks next.hosts.list.items
        next.hosts.journal ran.asked asked

    counted : (old.left - now.left) + (now.left - next.left) ≡ old.left - next.left
    counted = let fewer = ran.fewer in omega (arith, fewer, less)

    within : (old.left - now.left) + (now.left - next.left) ≤ old.left
    within = let fewer = ran.fewer in omega (arith, fewer, less)

    -- what was told is what the journal says
    told : so_far ++ events_in asks ≡ events_in next.hosts.journal
    told = sym (map-append event_in now.hosts.journal asks) ∙ ap events_in (sym asked.written)

    pub one_ran : Out (outcome.Ended None) (now.left - next.left) → IsReady m next → SameProgram m now next → RanInits next (k + 1)
    one_ran out ready same = record {
      asks = ran.asks ++ asks;
      asked = both_asked;
      behind = later_phase (subst (Behind next.hosts.journal (old.left - next.left) (take (k + 1) init_entries)) told
          (subst (λ j. Behind j (old.left - next.left) (take (k + 1) init_entries) (so_far ++ events_in asks)) (sym asked.written)
          (subst (λ n. Behind (now.hosts.journal ++ asks) n (take (k + 1) init_entries) (so_far ++ events_in asks)) counted
          (subst (λ es. Behind (now.hosts.journal ++ asks) ((old.left - now.left) + (now.left - next.left)) es (so_far ++ events_in asks))
          (sym (take_next init_entries k x entry_at))
          (init_ended p now.depth (units_at now) now.hosts.journal (old.left - now.left) (take k init_entries) (Init (k - 1)) so_far
          ran.behind x f
          refl next.depth (units_at next) asks (now.left - next.left) k refl out)))));
      ready = ready;
      same = same_on ran.same same;
      fewer = let fewer = ran.fewer in omega (arith, fewer, less);
    }
      where
        Behind : List Asked → ℕ → List Entry → List Event → Type 0
        Behind journal n entries told = BehindAt p next.depth (units_at next) journal n entries (Init k) told

        later_phase : Behind next.hosts.journal (old.left - next.left) (take (k + 1) init_entries) (events_in next.hosts.journal)
            → BehindAt p next.depth (units_at next) next.hosts.journal (old.left - next.left) (take (k + 1) init_entries) (Init (k + 1 - 1))
            (events_in next.hosts.journal)
        later_phase h =
            let same : k ≡ k + 1 - 1 = omega arith in
            subst (λ j. BehindAt p next.depth (units_at next) next.hosts.journal (old.left - next.left) (take (k + 1) init_entries) (Init j)
            (events_in next.hosts.journal)) same h

    -- the one that did not end, or is on its way, whichever calls are listed
    module _ (calls : List SymbolCall) where
      abbrev rest : List Entry
      rest = drop (k + 1) init_entries ++ map (entry_of p) (numbered calls)

      are : entries_of p calls ≡ take k init_entries ++ x ∷ rest
      are = ap (λ es. es ++ map (entry_of p) (numbered calls)) (around init_entries k x entry_at)
          ∙ append_assoc (take k init_entries) (x ∷ drop (k + 1) init_entries) (map (entry_of p) (numbered calls))

      abbrev Here : Outcome → List Asked → List Event → Type 0
      Here o journal told = IsOutcome o (Init k) journal told (units_at next) (c_run p calls old.left (replies_in journal))

      here : (o : Outcome) → Here o (now.hosts.journal ++ asks) (so_far ++ events_in asks)
          → Here o next.hosts.journal (events_in next.hosts.journal)
      here o is = subst (Here o next.hosts.journal) told (subst (λ j. Here o j (so_far ++ events_in asks)) (sym asked.written) is)

      pub last_came : (o : Outcome) → (o ≡ outcome.OutOfSteps → next.left ≡ 0) → ((value : _) → o ≡ outcome.Ended value → ⊥)
          → Out o (now.left - next.left) → Here o next.hosts.journal (events_in next.hosts.journal)
      last_came (outcome.Ended value) spent never out = absurd (never value refl)
      last_came (outcome.Trapped kind) spent never out = here (outcome.Trapped kind)
          (trapped p now.depth (units_at now) now.hosts.journal (old.left - now.left) (take k init_entries) (Init (k - 1)) so_far
          ran.behind x f
          refl next.depth (units_at next) asks (now.left - next.left) calls rest are old.left within kind out)
      last_came (outcome.Undefined u) spent never out = here (outcome.Undefined u)
          (undefined p now.depth (units_at now) now.hosts.journal (old.left - now.left) (take k init_entries) (Init (k - 1)) so_far
          ran.behind x f
          refl next.depth (units_at next) asks (now.left - next.left) calls rest are old.left within u out)
      last_came outcome.OutOfSteps spent never out =
          let none : next.left ≡ 0 = spent refl in
          let all : (old.left - now.left) + (now.left - next.left) ≡ old.left = omega (arith, ran.fewer, less, none) in
          here outcome.OutOfSteps
          (out_of_steps p now.depth (units_at now) now.hosts.journal (old.left - now.left) (take k init_entries) (Init (k - 1)) so_far
          ran.behind x f
          refl next.depth (units_at next) asks (now.left - next.left) calls rest are old.left within all out)

      -- want of memory in it
      pub last_part : FunctionCamePart m now unit item [] asks now.left
          → (more : List Ask) × (asks_in (c_run p calls old.left (replies_in next.hosts.journal)).events
          ≡ map ask_of next.hosts.journal ++ more)
      last_part part =
          let came = subst (λ q. PartIn q f) (same_program m old now ran.same)
          (subst (PartIn (program_in m now)) address (part (waits rest) [] so_far)) in
          let most : came.0 ≤ now.left = came.1 in
          let enough : (old.left - now.left) + came.0 ≤ old.left = omega (arith, ran.fewer, most) in
          subst (λ j. (more : List Ask) × (asks_in (c_run p calls old.left (replies_in j)).events ≡ map ask_of j ++ more))
          (sym asked.written)
          (still_going p now.depth (units_at now) now.hosts.journal (old.left - now.left) (take k init_entries) (Init (k - 1)) so_far
          ran.behind x f
          refl now.depth (units_at now) asks came.0 calls rest are old.left enough (waits rest) came.2 came.3 came.4)
        where
          PartIn : Program → FuncAddress → Type 0
          PartIn q g = (n : ℕ) × (n ≤ now.left) × (s : State) × (after q n (BeginsIn q g rest []) ≡ Going (waits rest) s)
              × (s.machine.trail ≡ trail_behind asks [] so_far)

  -- all have ended
  module _ (now : Engine H) (k : ℕ) (ran : RanInits now k) (all : length (init_functions p) ≤ k) where
    entries_are : take k init_entries ≡ entries_of p []
    entries_are = take_all k init_entries (subst (λ n. n ≤ k) (sym count) all) ∙ sym only_inits
      where
        count : length init_entries ≡ length (init_functions p)
        count = length-map (numbered (init_functions p)) init_entry ∙ numbered_many 0 (init_functions p)

    pub all_behind : BehindAt p now.depth (units_at now) now.hosts.journal (old.left - now.left) (entries_of p []) (Init (k - 1))
        (events_in now.hosts.journal)
    all_behind = rw entries_are at ran.behind

    pub all_came : IsOutcome (outcome.Ended None) (Init (k - 1)) now.hosts.journal (events_in now.hosts.journal) (units_at now)
        (c_run p [] old.left (replies_in now.hosts.journal))
    all_came = all_ended p now.depth (units_at now) now.hosts.journal (old.left - now.left) [] (Init (k - 1))
        (events_in now.hosts.journal) None
        all_behind (ap last_value (no_values_told now.hosts.journal)) old.left (omega arith)
