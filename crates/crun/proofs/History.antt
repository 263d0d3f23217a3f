-- How a session's run goes on behind the functions that have ended.
use Rattle.crun.proofs.Common.{◌≡◌, ℕ, suc, ◌+◌, ◌-◌, ◌≤◌, List, [], ◌∷◌, ◌++◌, map, length, Some, None, Option, option_map, zip, sym, refl}
use Rattle.crun.proofs.Common.{ap, ◌∙◌, subst, append_assoc, append-nil, arith, map-append, map_push, range_with_len, asks_behind}
use Rattle.crun.proofs.Common.{values_behind, numbered_push, numbered, Ask, Call, CallEnded, Event, Init, Phase, Reply, Trail, asks_in}
use Rattle.crun.proofs.Common.{values_in, Value, Program, SymbolCall, called_func, init_functions, fresh, CRun, Ended, Entry, Going}
use Rattle.crun.proofs.Common.{OutOfSteps, Over, Pending, Progress, after, begin_entry, begun, c_run, c_start, came_back, entries_of, over}
use Rattle.crun.proofs.Common.{run_of, FuncAddress, Number, Objects, State, call, ask_of, events_in, replies_in, reply_in, trail_before}
use Rattle.crun.proofs.Common.{trail_behind, Asked, Came, machine_with, BehindAt, IsOutcome, last_value, trail_of, Outcome}
use Rattle.c_meaning.proofs.Longer.{after_over, after_sum}
use Rattle.c_sound.proofs.Tells.{run_tells}
use Rattle.crun.specs.declared.outcome.Outcome.TheVariants as outcome

numbered_around : {A : Type 0} (k : ℕ) (xs : List A) (x : A) (ys : List A) → (rest : List (ℕ × A))
    × (zip (range_with_len k (length (xs ++ x ∷ ys))) (xs ++ x ∷ ys) ≡ zip (range_with_len k (length xs)) xs ++ (k + length xs, x) ∷ rest)
numbered_around k [] x ys =
    let e : k ≡ k + 0 = omega arith in
    let rest = zip (range_with_len (k + 1) (length ys)) ys in
    (rest, ap (λ n. (n, x) ∷ rest) e)
numbered_around k (y ∷ xs) x ys =
    let more = numbered_around (k + 1) xs x ys in
    let e : k + 1 + length xs ≡ k + suc (length xs) = omega arith in
    (more.0, ap (λ l. (k, y) ∷ l) (more.1 ∙ ap (λ n. zip (range_with_len (k + 1) (length xs)) xs ++ (n, x) ∷ more.0) e))

abbrev pub entry_of : Program → ℕ × SymbolCall → Entry
entry_of p c = record { phase = Call c.0; func = called_func p c.1; args = c.1.args }

abbrev pub init_entry : ℕ × FuncAddress → Entry
init_entry f = record { phase = Init f.0; func = Some f.1; args = [] }

-- the entry of one call more
pub entries_push : (p : Program) (calls : List SymbolCall) (c : SymbolCall)
    → entries_of p (calls ++ c ∷ []) ≡ entries_of p calls ++ entry_of p (length calls, c) ∷ []
entries_push p calls c =
    let inits : List Entry = map init_entry (numbered (init_functions p)) in
    let listed = map (entry_of p) (numbered calls) in
    let one : map (entry_of p) (numbered (calls ++ c ∷ [])) ≡ listed ++ entry_of p (length calls, c) ∷ [] =
    ap (map (entry_of p)) (numbered_push calls c) ∙ map_push (entry_of p) (numbered calls) (length calls, c) in
    ap (λ l. inits ++ l) one ∙ sym (append_assoc inits listed (entry_of p (length calls, c) ∷ []))

-- the entries around one call
pub entries_around : (p : Program) (calls : List SymbolCall) (c : SymbolCall) (more : List SymbolCall)
    → (rest : List Entry) × (entries_of p (calls ++ c ∷ more) ≡ entries_of p calls ++ entry_of p (length calls, c) ∷ rest)
entries_around p calls c more =
    let inits : List Entry = map init_entry (numbered (init_functions p)) in
    let around = numbered_around 0 calls c more in
    let rest = map (entry_of p) around.0 in
    let count : 0 + length calls ≡ length calls = omega arith in (
      rest,
      ap (λ l. inits ++ map (entry_of p) l) around.1
          ∙ ap (λ n. inits ++ map (entry_of p) (numbered calls ++ (n, c) ∷ around.0)) count
          ∙ ap (λ l. inits ++ l) (map-append (entry_of p) (numbered calls) ((length calls, c) ∷ around.0))
          ∙ sym (append_assoc inits (map (entry_of p) (numbered calls)) (entry_of p (length calls, c) ∷ rest)),
    )

-- ---- what asks tell

pub asks_told : (asks : List Asked) → asks_in (events_in asks) ≡ map ask_of asks
asks_told [] = refl
asks_told (a ∷ asks) = ap (λ rest. ask_of a ∷ rest) (asks_told asks)

pub no_values_told : (asks : List Asked) → values_in (events_in asks) ≡ []
no_values_told [] = refl
no_values_told (a ∷ asks) = no_values_told asks

pub asks_more : (told : List Event) (journal asks : List Asked) → asks_in told ≡ map ask_of journal
    → asks_in (told ++ events_in asks) ≡ map ask_of (journal ++ asks)
asks_more told journal asks is =
    asks_behind told (events_in asks) ∙ ap (λ xs. xs ++ asks_in (events_in asks)) is ∙ ap (λ xs. map ask_of journal ++ xs) (asks_told asks)
    ∙ sym (map-append ask_of journal asks)

pub values_more : (told : List Event) (asks : List Asked) → values_in (told ++ events_in asks) ≡ values_in told
values_more told asks =
    values_behind told (events_in asks) ∙ ap (λ vs. values_in told ++ vs) (no_values_told asks) ∙ append-nil (values_in told)

last_of : (vs : List (Option Value)) (v : Option Value) → last_value (vs ++ v ∷ []) ≡ v
last_of [] v = refl
last_of (w ∷ []) v = refl
last_of (w ∷ u ∷ vs) v = last_of (u ∷ vs) v

-- ---- want of memory: the asks so far stand in front of the run's

pub part_told : (p : Program) (n steps : ℕ) (start : Progress) (pending : Pending) (s : State) (journal : List Asked)
    → after p n start ≡ Going pending s → asks_in s.machine.trail.events ≡ map ask_of journal → n ≤ steps
    → (more : List Ask) × (asks_in (run_of (after p steps start)).events ≡ map ask_of journal ++ more)
part_told p n steps start pending s journal stands is within =
    let rest = run_tells p (steps - n) (Going pending s) in
    let count : steps ≡ n + (steps - n) = omega (arith, within) in (
      asks_in rest.0,
      ap (λ i. asks_in (run_of (after p i start)).events) count
          ∙ ap (λ x. asks_in (run_of x).events) (after_sum p n (steps - n) start ∙ ap (after p (steps - n)) stands)
          ∙ ap asks_in rest.1 ∙ asks_behind s.machine.trail.events rest.0 ∙ ap (λ xs. xs ++ asks_in rest.0) is,
    )

-- ---- one entry more

module _ (p : Program) (depth : ℕ) (units : List Objects) (journal : List Asked) (n : ℕ) (entries : List Entry) (last : Phase)
    (told : List Event)
    (behind : BehindAt p depth units journal n entries last told) (x : Entry) (f : FuncAddress) (func_is : x.func ≡ Some f)
    (depth' : ℕ) (units' : List Objects) (asks : List Asked) (k : ℕ) where
  -- where the function begins, with what is pending
  abbrev pub begins : List Entry → List Reply → Progress
  begins more later =
      begun (record { phase = x.phase; entries = more })
      (call p f (machine_with depth units (trail_before asks later told)) (map Number x.args) [])

  abbrev pub CameOut : Outcome → Type 0
  CameOut o = (more : List Entry) (later : List Reply)
      → Came p (record { phase = x.phase; entries = more }) (machine_with depth' units') (trail_behind asks later told) o
      (after p k (begins more later))

  -- the whole run so far
  abbrev start : List Reply → List Entry → Progress
  start later es = begin_entry p (fresh p (replies_in (journal ++ asks) ++ later)) (Init 0) es

  whole : (more : List Entry) (later : List Reply) → after p (n + k) (start later (entries ++ x ∷ more)) ≡ after p k (begins more later)
  whole more later =
      after_sum p n k (start later (entries ++ x ∷ more))
      ∙ ap (λ rs. after p k (after p n (begin_entry p (fresh p rs) (Init 0) (entries ++ x ∷ more)))) replies
      ∙ ap (after p k) (behind.reaches (replies_in asks ++ later) (x ∷ more))
      ∙ ap (λ o. after p k (begin_entry p (machine_with depth units (trail_before asks later told)) last
      (record { phase = x.phase; func = o; args = x.args } ∷ more))) func_is
    where
      replies : replies_in (journal ++ asks) ++ later ≡ replies_in journal ++ (replies_in asks ++ later)
      replies = ap (λ rs. rs ++ later) (map-append reply_in journal asks) ∙ append_assoc (replies_in journal) (replies_in asks) later

  shifted : (more : List Entry) → (entries ++ x ∷ []) ++ more ≡ entries ++ x ∷ more
  shifted more = append_assoc entries (x ∷ []) more

  -- an init function that gave nothing
  pub init_ended : (number : ℕ) → x.phase ≡ Init number → CameOut (outcome.Ended None)
      → BehindAt p depth' units' (journal ++ asks) (n + k) (entries ++ x ∷ []) x.phase (told ++ events_in asks)
  init_ended number phase_is came = record {
    asks = asks_more told journal asks behind.asks;
    reaches = λ later more.
        ap (λ es. after p (n + k) (start later es)) (shifted more) ∙ whole more later ∙ came more later
        ∙ ap (λ ph. came_back p (record { phase = x.phase; entries = more }) (machine_with depth' units' (trail_behind asks later told))
        ph None) phase_is
        ∙ ap (λ ph. begin_entry p (machine_with depth' units' (trail_behind asks later told)) ph more) (sym phase_is);
  }

  -- a call that ended
  pub call_ended : (number : ℕ) (value : Option Value) → x.phase ≡ Call number → CameOut (outcome.Ended value)
      → BehindAt p depth' units' (journal ++ asks) (n + k) (entries ++ x ∷ []) x.phase ((told ++ events_in asks) ++ CallEnded value ∷ [])
  call_ended number value phase_is came = record {
    asks = asks_behind (told ++ events_in asks) (CallEnded value ∷ []) ∙ append-nil (asks_in (told ++ events_in asks))
        ∙ asks_more told journal asks behind.asks;
    reaches = λ later more.
        ap (λ es. after p (n + k) (start later es)) (shifted more) ∙ whole more later ∙ came more later
        ∙ ap (λ ph. came_back p (record { phase = x.phase; entries = more }) (machine_with depth' units' (trail_behind asks later told)) ph
        (option_map Number value)) phase_is
        ∙ comes value later more
        ∙ ap (λ ph. begin_entry p (machine_with depth' units' (trail_of later ((told ++ events_in asks) ++ CallEnded value ∷ []))) ph
        more) (sym phase_is);
  }
    where
      comes : (value : Option Value) (later : List Reply) (more : List Entry)
          → came_back p (record { phase = x.phase; entries = more }) (machine_with depth' units' (trail_behind asks later told))
          (Call number) (option_map Number value)
          ≡ begin_entry p (machine_with depth' units' (trail_of later ((told ++ events_in asks) ++ CallEnded value ∷ []))) (Call number)
          more
      comes None later more = refl
      comes (Some v) later more = refl

  -- an entry that did not end: the run of every list of calls with these entries is this
  module _ (calls : List SymbolCall) (rest : List Entry) (are : entries_of p calls ≡ entries ++ x ∷ rest) (steps : ℕ)
      (within : n + k ≤ steps) where
    abbrev the_run : CRun
    the_run = c_run p calls steps (replies_in (journal ++ asks))

    at_start : c_start p calls (replies_in (journal ++ asks)) ≡ start [] (entries ++ x ∷ rest)
    at_start = ap (λ es. begin_entry p (fresh p (replies_in (journal ++ asks))) (Init 0) es) are
        ∙ ap (λ rs. begin_entry p (fresh p rs) (Init 0) (entries ++ x ∷ rest)) (sym (append-nil (replies_in (journal ++ asks))))

    there : after p (n + k) (c_start p calls (replies_in (journal ++ asks))) ≡ after p k (begins rest [])
    there = ap (after p (n + k)) at_start ∙ whole rest []

    over_run : (run : CRun) → after p k (begins rest []) ≡ Over run → the_run ≡ run
    over_run run is =
        let count : steps ≡ (n + k) + (steps - (n + k)) = omega (arith, within) in
        ap run_of (ap (λ i. after p i (c_start p calls (replies_in (journal ++ asks)))) count
        ∙ after_sum p (n + k) (steps - (n + k)) (c_start p calls (replies_in (journal ++ asks)))
        ∙ ap (after p (steps - (n + k))) (there ∙ is) ∙ after_over p (steps - (n + k)) run)

    abbrev Comes : Outcome → CRun → Type 0
    Comes why run = IsOutcome why x.phase (journal ++ asks) (told ++ events_in asks) units' run

    came_so : (why : Outcome) → (run : CRun) → the_run ≡ run → Comes why run → Comes why the_run
    came_so why run is end = subst (Comes why) (sym is) end

    asks_are : asks_in (told ++ events_in asks) ≡ map ask_of (journal ++ asks)
    asks_are = asks_more told journal asks behind.asks

    pub trapped : (kind : _) → CameOut (outcome.Trapped kind) → Comes (outcome.Trapped kind) the_run
    trapped kind came = came_so (outcome.Trapped kind) _ (over_run _ (came rest []))
        (record { end = refl; phase_is = refl; events = refl; asks = asks_are; objects = refl })

    pub undefined : (u : _) → CameOut (outcome.Undefined u) → Comes (outcome.Undefined u) the_run
    undefined u came = came_so (outcome.Undefined u) _ (over_run _ (came rest []))
        (record { end = refl; phase_is = refl; events = refl; asks = asks_are; objects = refl })

    pub out_of_steps : n + k ≡ steps → CameOut outcome.OutOfSteps → Comes outcome.OutOfSteps the_run
    out_of_steps count came = go (came rest [])
      where
        go : Came p (record { phase = x.phase; entries = rest }) (machine_with depth' units') (trail_behind asks [] told) outcome.OutOfSteps
            (after p k (begins rest [])) → Comes outcome.OutOfSteps the_run
        go (s, stands, machine_is) =
            let whole_run : the_run ≡ over (record { phase = x.phase; entries = rest }) s.machine OutOfSteps =
            ap run_of (ap (λ i. after p i (c_start p calls (replies_in (journal ++ asks)))) (sym count) ∙ there ∙ stands) in
            let so : the_run ≡ over (record { phase = x.phase; entries = rest }) (machine_with depth' units' (trail_behind asks [] told))
            OutOfSteps =
            whole_run ∙ ap (λ machine. over (record { phase = x.phase; entries = rest }) machine OutOfSteps) machine_is in
            came_so outcome.OutOfSteps _ so (record { end = refl; phase_is = refl; events = refl; asks = asks_are; objects = refl })

    -- an entry that is on its way: the asks so far are a beginning of the run's
    pub still_going : (pending : Pending) (s : State) → after p k (begins rest []) ≡ Going pending s
        → s.machine.trail ≡ trail_behind asks [] told
        → (more : List Ask) × (asks_in the_run.events ≡ map ask_of (journal ++ asks) ++ more)
    still_going pending s stands tells =
        part_told p (n + k) steps (c_start p calls (replies_in (journal ++ asks))) pending s (journal ++ asks) (there ∙ stands)
        (ap (λ (t : Trail). asks_in t.events) tells ∙ asks_are) within

-- ---- behind all entries

-- the run of the calls whose entries have all ended
pub all_ended : (p : Program) (depth : ℕ) (units : List Objects) (journal : List Asked) (n : ℕ) (calls : List SymbolCall) (last : Phase)
    (told : List Event) (value : Option Value) → BehindAt p depth units journal n (entries_of p calls) last told
    → last_value (values_in told) ≡ value → (steps : ℕ) → n ≤ steps
    → IsOutcome (outcome.Ended value) last journal told units (c_run p calls steps (replies_in journal))
all_ended p depth units journal n calls last told value behind is steps within =
    subst (IsOutcome (outcome.Ended value) last journal told units) (sym run_is)
    (record { end = (refl, is); phase_is = refl; events = refl; asks = behind.asks; objects = refl })
  where
    at_start : c_start p calls (replies_in journal) ≡ begin_entry p (fresh p (replies_in journal ++ [])) (Init 0) (entries_of p calls ++ [])
    at_start = ap (λ es. begin_entry p (fresh p (replies_in journal)) (Init 0) es) (sym (append-nil (entries_of p calls)))
        ∙ ap (λ rs. begin_entry p (fresh p rs) (Init 0) (entries_of p calls ++ [])) (sym (append-nil (replies_in journal)))

    run_is : c_run p calls steps (replies_in journal)
        ≡ over (record { phase = last; entries = [] }) (machine_with depth units (trail_of [] told)) Ended
    run_is =
        let count : steps ≡ n + (steps - n) = omega (arith, within) in
        ap run_of (ap (λ i. after p i (c_start p calls (replies_in journal))) count
        ∙ after_sum p n (steps - n) (c_start p calls (replies_in journal))
        ∙ ap (after p (steps - n)) (ap (after p n) at_start ∙ behind.reaches [] []) ∙ after_over p (steps - n)
        (over (record { phase = last; entries = [] }) (machine_with depth units (trail_of [] told)) Ended))

-- the value of a call that ended
pub value_last : (told : List Event) (asks : List Asked) (value : Option Value)
    → last_value (values_in ((told ++ events_in asks) ++ CallEnded value ∷ [])) ≡ value
value_last told asks value = ap last_value (values_behind (told ++ events_in asks) (CallEnded value ∷ []))
    ∙ last_of (values_in (told ++ events_in asks)) value
