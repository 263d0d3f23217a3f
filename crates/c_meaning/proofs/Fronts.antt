-- A run over a list of calls beside the run over its front: they are the same until the front has
-- ended, and from there on the longer one goes on with the calls behind it.
use Rattle.c_meaning.proofs.Common.{◌≡◌, ℕ, zero, suc, ◌+◌, ◌≢◌, ◌⊎◌, List, [], ◌∷◌, ◌++◌, map, length, Some, None, Option, zip, sym, refl}
use Rattle.c_meaning.proofs.Common.{ap, ◌∙◌, subst, inl, inr, append_assoc, append-nil, arith, AllByRecursion, range_with_len}
use Rattle.c_meaning.proofs.Common.{values_behind, numbered, Call, CallEnded, Event, Init, Phase, Reply, values_in, Value, Program}
use Rattle.c_meaning.proofs.Common.{SymbolCall, called_func, init_functions, fresh, CRun, Ended, Entry, Going, OutOfSteps, Over, Pending}
use Rattle.c_meaning.proofs.Common.{Progress, Stopped, after, begin_entry, begun, c_run, c_start, came_back, entries_of, go_on, over}
use Rattle.c_meaning.proofs.Common.{run_of, told_end, CValue, FuncAddress, FuncPointer, Machine, Number, Objects, Pointer, Stop, Stuck}
use Rattle.c_meaning.proofs.Common.{Back, Next, Step, Stops, c_step, call}
use Rattle.std.proofs.lemmas.List.{map-append}
use Rattle.c_meaning.proofs.Longer.{after_sum}
use Rattle.c_meaning.proofs.StepsKeep.{KeptByObjects, KeptByAsks, KeptByEnds, OfMachine, trail_kept, entry_keeps, after_keeps}
use Rattle.c_meaning.proofs.Told.{machine_of, asked_same, call_same, step_same}

-- the same with more entries behind
abbrev longer : List Entry → Pending → Pending
longer more pending = record { phase = pending.phase; entries = pending.entries ++ more }

-- a run that ended, and the longer one, which goes on from there with so many statements
pub record EndedAt (p : Program) (more : List Entry) (run : CRun) (y : Progress) : Type 0 where
  pub machine : Machine
  pub last : Phase
  pub left : ℕ
  pub run_is : run ≡ over (record { phase = last; entries = [] }) machine Ended
  pub goes_on : y ≡ after p left (begin_entry p machine last more)

-- where the longer run stands while the shorter one stands here
abbrev pub Follows : Program → List Entry → Progress → Progress → Type 0
Follows p more (Going pending s) y = y ≡ Going (longer more pending) s
Follows p more (Over run) y = ((run.outcome ≢ Ended) × (y ≡ Over run)) ⊎ EndedAt p more run y

stopped_apart : (why : Stop) → Stopped why ≡ Ended → ⊥
stopped_apart why e = cc

out_apart : OutOfSteps ≡ Ended → ⊥
out_apart e = cc

module _ (p : Program) (more : List Entry) where
  follows_begun : (pending : Pending) (st : Step) → Follows p more (begun pending st) (begun (longer more pending) st)
  follows_begun pending (Next s) = refl
  follows_begun pending (Back m value) = inl (stopped_apart Stuck, refl)
  follows_begun pending (Stops m why) = inl (stopped_apart why, refl)

  pub follows_entry : (m : Machine) (last : Phase) (es : List Entry)
      → Follows p more (begin_entry p m last es) (begin_entry p m last (es ++ more))
  follows_entry m last [] = inr (record { machine = m; last = last; left = 0; run_is = refl; goes_on = refl })
  follows_entry m last (e ∷ es) = go e.func
    where
      pending : Pending
      pending = record { phase = e.phase; entries = es }

      go : (f : Option FuncAddress)
          → Follows p more (elim f [
            | None ↦ Over (over pending m (Stopped Stuck))
            | Some f ↦ begun pending
                (call p f m (map Number e.args) [])
          ])
          (elim f [
            | None ↦ Over (over (longer more pending) m (Stopped Stuck))
            | Some f ↦ begun (longer more pending)
                (call p f m (map Number e.args) [])
          ])
      go None = inl (stopped_apart Stuck, refl)
      go (Some f) = follows_begun pending (call p f m (map Number e.args) [])

  follows_back : (pending : Pending) (m : Machine) (phase : Phase) (value : Option CValue)
      → Follows p more (came_back p pending m phase value) (came_back p (longer more pending) m phase value)
  follows_back pending m (Init k) None = follows_entry m (Init k) pending.entries
  follows_back pending m (Call k) None = follows_entry (told_end m None) (Call k) pending.entries
  follows_back pending m (Call k) (Some (Number v)) = follows_entry (told_end m (Some v)) (Call k) pending.entries
  follows_back pending m (Call k) (Some (Pointer to)) = inl (stopped_apart Stuck, refl)
  follows_back pending m (Call k) (Some (FuncPointer to)) = inl (stopped_apart Stuck, refl)
  follows_back pending m (Init k) (Some v) = inl (stopped_apart Stuck, refl)

  follows_on : (pending : Pending) (st : Step) → Follows p more (go_on p pending st) (go_on p (longer more pending) st)
  follows_on pending (Next s) = refl
  follows_on pending (Back m value) = follows_back pending m pending.phase value
  follows_on pending (Stops m why) = inl (stopped_apart why, refl)

  pub follows_after : (n : ℕ) (x y : Progress) → Follows p more x y → Follows p more (after p n x) (after p n y)
  follows_after zero x y at = at
  follows_after (suc n) (Going pending s) y at =
      subst (λ q. Follows p more (after p (suc n) (Going pending s)) (after p (suc n) q)) (sym at)
      (follows_after n (go_on p pending (c_step p s)) (go_on p (longer more pending) (c_step p s)) (follows_on pending (c_step p s)))
  follows_after (suc n) (Over run) y (inl (apart, is)) = inl (apart, ap (after p (suc n)) is)
  follows_after (suc n) (Over run) y (inr at) = inr (record {
    machine = at.machine;
    last = at.last;
    left = at.left + suc n;
    run_is = at.run_is;
    goes_on = ap (after p (suc n)) at.goes_on ∙ sym (after_sum p at.left (suc n) (begin_entry p at.machine at.last more));
  })

  pub stopped_same : (x y : Progress) → Follows p more x y → (run_of x).outcome ≢ Ended → run_of y ≡ run_of x
  stopped_same (Going pending s) y at apart = ap run_of at
  stopped_same (Over run) y (inl (apart, is)) not_ended = ap run_of is
  stopped_same (Over run) y (inr at) not_ended = absurd (not_ended (ap (λ (r : CRun). r.outcome) at.run_is))

  pub ended_goes_on : (x y : Progress) → Follows p more x y → (run_of x).outcome ≡ Ended → EndedAt p more (run_of x) y
  ended_goes_on (Going pending s) y at ended = absurd (out_apart ended)
  ended_goes_on (Over run) y (inl (apart, is)) ended = absurd (apart ended)
  ended_goes_on (Over run) y (inr at) ended = at

-- entries of a longer list of calls

pub zip_from : {A : Type 0} (k : ℕ) (xs ys : List A) → zip (range_with_len k (length (xs ++ ys))) (xs ++ ys) ≡ zip
    (range_with_len k (length xs)) xs ++ zip (range_with_len (k + length xs) (length ys)) ys
zip_from k [] ys = let e : k ≡ k + 0 = omega arith in ap (λ n. zip (range_with_len n (length ys)) ys) e
zip_from k (x ∷ xs) ys =
    let e : k + 1 + length xs ≡ k + suc (length xs) = omega arith in
    ap (λ l. (k, x) ∷ l) (zip_from (k + 1) xs ys ∙ ap (λ n. zip (range_with_len (k + 1) (length xs)) xs ++ zip
    (range_with_len n (length ys)) ys) e)

abbrev entry_of : Program → ℕ × SymbolCall → Entry
entry_of p c = record { phase = Call c.0; func = called_func p c.1; args = c.1.args }

-- the entries of calls behind so many others
abbrev pub entries_behind : Program → ℕ → List SymbolCall → List Entry
entries_behind p k more = map (entry_of p) (zip (range_with_len k (length more)) more)

pub entries_longer : (p : Program) (calls more : List SymbolCall)
    → entries_of p (calls ++ more) ≡ entries_of p calls ++ entries_behind p (length calls) more
entries_longer p calls more =
    let inits : List Entry = map (λ (f : ℕ × FuncAddress). record { phase = Init f.0; func = Some f.1; args = [] })
    (numbered (init_functions p)) in
    let e : 0 + length calls ≡ length calls = omega arith in
    let both : numbered (calls ++ more) ≡ numbered calls ++ zip (range_with_len (length calls) (length more)) more = zip_from 0 calls
    more ∙ ap (λ n. numbered calls ++ zip (range_with_len n (length more)) more) e in
    ap (λ l. inits ++ map (entry_of p) l) both
    ∙ ap (λ l. inits ++ l) (map-append (entry_of p) (numbered calls) (zip (range_with_len (length calls) (length more)) more))
    ∙ sym (append_assoc inits (map (entry_of p) (numbered calls)) (entries_behind p (length calls) more))

pub start_follows : (p : Program) (calls more : List SymbolCall) (n : ℕ) (replies : List Reply)
    → Follows p (entries_behind p (length calls) more) (after p n (c_start p calls replies)) (after p n (c_start p (calls ++ more) replies))
start_follows p calls more n replies =
    let rest = entries_behind p (length calls) more in
    follows_after p rest n (c_start p calls replies) (c_start p (calls ++ more) replies)
    (subst (λ es. Follows p rest (c_start p calls replies) (begin_entry p (fresh p replies) (Init 0) es))
    (sym (entries_longer p calls more))
    (follows_entry p rest (fresh p replies) (Init 0) (entries_of p calls)))

-- values

-- a call's end is one value more
one_told : (m : Machine) (v : Option Value) → values_in (told_end m v).trail.events ≡ values_in m.trail.events ++ v ∷ []
one_told m v = values_behind m.trail.events (CallEnded v ∷ [])

-- they begin with these
abbrev BeginsWith : List (Option Value) → List (Option Value) → Type 0
BeginsWith front values = (rest : List (Option Value)) × (values ≡ front ++ rest)

one_behind : (front values : List (Option Value)) (v : Option Value) → BeginsWith front values → BeginsWith front (values ++ v ∷ [])
one_behind front values v (rest, is) = (rest ++ v ∷ [], ap (λ l. l ++ v ∷ []) is ∙ append_assoc front rest (v ∷ []))

-- so what has begun with them goes on so, whatever is told
abbrev BeginWith : List (Option Value) → List Event → List Objects → Type 0
BeginWith front events units = BeginsWith front (values_in events)

begins_kept : (p : Program) (front : List (Option Value))
    → KeptByObjects (OfMachine (BeginWith front)) × KeptByAsks p (OfMachine (BeginWith front)) × KeptByEnds (OfMachine (BeginWith front))
begins_kept p front = (
  trail_kept (λ t. BeginsWith front (values_in t.events)),
  λ m a reply replies is begins. subst (BeginsWith front) (sym (asked_same m a reply replies)) begins,
  λ m v begins. subst (BeginsWith front) (sym (one_told m v)) (one_behind front (values_in m.trail.events) v begins),
)

-- one entry of a call alone: where the run ends it has one value more, and else none
abbrev IsOne : List (Option Value) → Progress → Type 0
IsOne front (Going pending s) = (pending.entries ≡ []) × (values_in s.machine.trail.events ≡ front) × ((k : ℕ) × (pending.phase ≡ Call k))
IsOne front (Over run) = ((run.outcome ≡ Ended) × ((v : Option Value) × (values_in run.events ≡ front ++ v ∷ [])))
    ⊎ ((run.outcome ≢ Ended) × (values_in run.events ≡ front))

abbrev one_pending : ℕ → Pending
one_pending k = record { phase = Call k; entries = [] }

one_begun : (k : ℕ) (front : List (Option Value)) (st : Step) → values_in (machine_of st).trail.events ≡ front
    → IsOne front (begun (one_pending k) st)
one_begun k front (Next s) same = (refl, same, (k, refl))
one_begun k front (Back m value) same = inr (stopped_apart Stuck, same)
one_begun k front (Stops m why) same = inr (stopped_apart why, same)

one_back : (p : Program) (k : ℕ) (front : List (Option Value)) (m : Machine) (value : Option CValue) → values_in m.trail.events ≡ front
    → IsOne front (came_back p (one_pending k) m (Call k) value)
one_back p k front m None same = inl (refl, (None, one_told m None ∙ ap (λ l. l ++ None ∷ []) same))
one_back p k front m (Some (Number v)) same = inl (refl, (Some v, one_told m (Some v) ∙ ap (λ l. l ++ Some v ∷ []) same))
one_back p k front m (Some (Pointer to)) same = inr (stopped_apart Stuck, same)
one_back p k front m (Some (FuncPointer to)) same = inr (stopped_apart Stuck, same)

one_on : (p : Program) (k : ℕ) (front : List (Option Value)) (st : Step) → values_in (machine_of st).trail.events ≡ front
    → IsOne front (go_on p (one_pending k) st)
one_on p k front (Next s) same = (refl, same, (k, refl))
one_on p k front (Back m value) same = one_back p k front m value same
one_on p k front (Stops m why) same = inr (stopped_apart why, same)

one_after : (p : Program) (front : List (Option Value)) (n : ℕ) (x : Progress) → IsOne front x → IsOne front (after p n x)
one_after p front zero x one = one
one_after p front (suc n) (Over run) one = one
one_after p front (suc n) (Going pending s) (none, is, (k, calls)) =
    let same : one_pending k ≡ pending = (λ i. record { phase = sym calls i; entries = sym none i }) in
    one_after p front n (go_on p pending (c_step p s))
    (subst (λ q. IsOne front (go_on p q (c_step p s))) same (one_on p k front (c_step p s) (step_same p s ∙ is)))

one_entry : (p : Program) (m : Machine) (last : Phase) (k : ℕ) (c : SymbolCall)
    → IsOne (values_in m.trail.events) (begin_entry p m last (entry_of p (k, c) ∷ []))
one_entry p m last k c = go (called_func p c)
  where
    go : (f : Option FuncAddress) → IsOne (values_in m.trail.events)
        (elim f [
          | None ↦ Over (over (one_pending k) m (Stopped Stuck))
          | Some f ↦ begun (one_pending k)
              (call p f m (map Number c.args) [])
        ])
    go None = inr (stopped_apart Stuck, refl)
    go (Some f) = one_begun k (values_in m.trail.events) (call p f m (map Number c.args) []) (call_same p f m (map Number c.args) [])

-- one value behind these where the run ends, and else these alone
abbrev GivesOne : List (Option Value) → CRun → Type 0
GivesOne front run = (run.outcome ≡ Ended → (v : Option Value) × (values_in run.events ≡ front ++ v ∷ [])) × (run.outcome ≢ Ended
    → values_in run.events ≡ front)

one_run : (front : List (Option Value)) (x : Progress) → IsOne front x → GivesOne front (run_of x)
one_run front (Going pending s) one = (λ ended. absurd (out_apart ended), λ apart. one.1)
one_run front (Over run) (inl (ended, value)) = (λ e. value, λ apart. absurd (apart ended))
one_run front (Over run) (inr (apart, same)) = (λ e. absurd (apart e), λ a. same)

-- init functions alone give no values

abbrev AreInits : List Entry → Type 0
AreInits es = AllByRecursion (λ (e : Entry). (k : ℕ) × (e.phase ≡ Init k)) es

abbrev HasNoValues : Progress → Type 0
HasNoValues (Going pending s) = (values_in s.machine.trail.events ≡ []) × AreInits pending.entries × ((k : ℕ) × (pending.phase ≡ Init k))
HasNoValues (Over run) = values_in run.events ≡ []

abbrev init_pending : ℕ → List Entry → Pending
init_pending k es = record { phase = Init k; entries = es }

none_begun : (k : ℕ) (es : List Entry) (st : Step) → AreInits es → values_in (machine_of st).trail.events ≡ []
    → HasNoValues (begun (init_pending k es) st)
none_begun k es (Next s) inits none = (none, inits, (k, refl))
none_begun k es _ inits none = none

none_entry : (p : Program) (m : Machine) (last : Phase) (es : List Entry) → AreInits es → values_in m.trail.events ≡ []
    → HasNoValues (begin_entry p m last es)
none_entry p m last [] inits none = none
none_entry p m last (e ∷ es) ((k, is), inits) none = go e.func
  where
    pending : Phase → Pending
    pending phase = record { phase = phase; entries = es }

    go : (f : Option FuncAddress) → HasNoValues (elim f [
      | None ↦ Over (over (pending e.phase) m (Stopped Stuck))
      | Some f ↦ begun
          (pending e.phase) (call p f m (map Number e.args) [])
    ])
    go None = none
    go (Some f) = subst (λ phase. HasNoValues (begun (pending phase) (call p f m (map Number e.args) []))) (sym is)
        (none_begun k es (call p f m (map Number e.args) []) inits (call_same p f m (map Number e.args) [] ∙ none))

none_on : (p : Program) (k : ℕ) (es : List Entry) (st : Step) → AreInits es → values_in (machine_of st).trail.events ≡ []
    → HasNoValues (go_on p (init_pending k es) st)
none_on p k es (Next s) inits none = (none, inits, (k, refl))
none_on p k es (Back m None) inits none = none_entry p m (Init k) es inits none
none_on p k es (Back m (Some v)) inits none = none
none_on p k es (Stops m why) inits none = none

none_after : (p : Program) (n : ℕ) (x : Progress) → HasNoValues x → HasNoValues (after p n x)
none_after p zero x none = none
none_after p (suc n) (Over run) none = none
none_after p (suc n) (Going pending s) (is, inits, (k, phase)) =
    let same : init_pending k pending.entries ≡ pending = (λ i. record { phase = sym phase i; entries = pending.entries }) in
    none_after p n (go_on p pending (c_step p s))
    (subst (λ q. HasNoValues (go_on p q (c_step p s))) same (none_on p k pending.entries (c_step p s) inits (step_same p s ∙ is)))

inits_of : (fs : List (ℕ × FuncAddress)) → AreInits (map (λ (f : ℕ × FuncAddress). record
    { phase = Init f.0; func = Some f.1; args = [] }) fs ++ [])
inits_of [] = tt
inits_of (f ∷ fs) = ((f.0, refl), inits_of fs)

none_run : (x : Progress) → HasNoValues x → values_in (run_of x).events ≡ []
none_run (Going pending s) none = none.0
none_run (Over run) none = none

-- ---- what follows for runs

-- the init functions alone give no values
pub inits_give_none : (p : Program) (n : ℕ) (replies : List Reply) → values_in (c_run p [] n replies).events ≡ []
inits_give_none p n replies = none_run _ (none_after p n (c_start p [] replies)
    (none_entry p (fresh p replies) (Init 0) (entries_of p []) (inits_of (numbered (init_functions p))) refl))

-- a run that does not end is the run of any longer list
pub stops_the_same : (p : Program) (calls more : List SymbolCall) (n : ℕ) (replies : List Reply)
    → (c_run p calls n replies).outcome ≢ Ended → c_run p (calls ++ more) n replies ≡ c_run p calls n replies
stops_the_same p calls more n replies apart = stopped_same p (entries_behind p (length calls) more) _ _
    (start_follows p calls more n replies) apart

-- what goes on behind values keeps them in front
goes_on_with : (p : Program) (m : Machine) (last : Phase) (left : ℕ) (more : List Entry)
    → BeginsWith (values_in m.trail.events) (values_in (run_of (after p left (begin_entry p m last more))).events)
goes_on_with p m last left more =
    let front : List (Option Value) = values_in m.trail.events in
    let from = begins_kept p front in
    after_keeps p (BeginWith front) from.0 from.1 from.2 left (begin_entry p m last more)
    (entry_keeps p (BeginWith front) from.0 from.1 from.2 m last more ([], sym (append-nil front)))

stay_by : (p : Program) (more : List Entry) (run : CRun) (y : Progress) → EndedAt p more run y
    → BeginsWith (values_in run.events) (values_in (run_of y).events)
stay_by p more run y at =
    let goes = goes_on_with p at.machine at.last at.left more in
    (goes.0, ap (λ x. values_in (run_of x).events) at.goes_on ∙ goes.1 ∙ ap (λ (r : CRun). values_in r.events ++ goes.0) (sym at.run_is))

-- the values of a run that ends stand in front of those of any longer list
pub values_stay : (p : Program) (calls more : List SymbolCall) (n : ℕ) (replies : List Reply) → (c_run p calls n replies).outcome ≡ Ended
    → (rest : List (Option Value)) × (values_in (c_run p (calls ++ more) n replies).events ≡ values_in
    (c_run p calls n replies).events ++ rest)
values_stay p calls more n replies ended =
    let rest = entries_behind p (length calls) more in
    let x = after p n (c_start p calls replies) in
    let y = after p n (c_start p (calls ++ more) replies) in
    stay_by p rest (run_of x) y (ended_goes_on p rest x y (start_follows p calls more n replies) ended)

one_by : (p : Program) (k : ℕ) (c : SymbolCall) (run : CRun) (y : Progress) → EndedAt p (entry_of p (k, c) ∷ []) run y
    → GivesOne (values_in run.events) (run_of y)
one_by p k c run y at =
    let x = begin_entry p at.machine at.last (entry_of p (k, c) ∷ []) in
    let values : List (Option Value) = values_in at.machine.trail.events in
    let one : GivesOne values (run_of (after p at.left x)) = one_run values (after p at.left x)
    (one_after p values at.left x (one_entry p at.machine at.last k c)) in
    let there : GivesOne values (run_of y) = subst (λ z. GivesOne values (run_of z)) (sym at.goes_on) one in
    subst (λ front. GivesOne front (run_of y)) (ap (λ (r : CRun). values_in r.events) (sym at.run_is)) there

-- behind a run that ends, a call more gives one value where it ends, and else none
pub one_value : (p : Program) (calls : List SymbolCall) (c : SymbolCall) (n : ℕ) (replies : List Reply)
    → (c_run p calls n replies).outcome ≡ Ended
    → ((c_run p (calls ++ c ∷ []) n replies).outcome ≡ Ended → (v : Option Value)
    × (values_in (c_run p (calls ++ c ∷ []) n replies).events ≡ values_in (c_run p calls n replies).events ++ v ∷ []))
    × ((c_run p (calls ++ c ∷ []) n replies).outcome ≢ Ended → values_in (c_run p (calls ++ c ∷ []) n replies).events ≡ values_in
    (c_run p calls n replies).events)
one_value p calls c n replies ended =
    let rest = entries_behind p (length calls) (c ∷ []) in
    let x = after p n (c_start p calls replies) in
    let y = after p n (c_start p (calls ++ c ∷ []) replies) in
    one_by p (length calls) c (run_of x) y (ended_goes_on p rest x y (start_follows p calls (c ∷ []) n replies) ended)
