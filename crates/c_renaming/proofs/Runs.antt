-- Runs are the same on both sides.
use Rattle.c_renaming.proofs.Common.{◌≡◌, ℕ, zero, suc, ◌+◌, List, [], ◌∷◌, ◌++◌, map, length, Some, None, Option, option_map, zip, sym, ap}
use Rattle.c_renaming.proofs.Common.{refl, ◌∙◌, subst, map-append, range_with_len, numbered, Call, Init, Phase, Reply, call_ended, Value}
use Rattle.c_renaming.proofs.Common.{Program, SymbolCall, called_func, init_functions, fresh, with_trail, Ended, Entry, Going, OutOfSteps}
use Rattle.c_renaming.proofs.Common.{Outcome, Over, Pending, Progress, Stopped, after, begin_entry, begun, c_run, c_start, came_back, go_on}
use Rattle.c_renaming.proofs.Common.{entries_of, over, run_of, told_end, CValue, FuncAddress, FuncPointer, Machine, Number, Pointer, Stuck}
use Rattle.c_renaming.proofs.Common.{Back, Next, Step, Stops, c_step, call, Each, Holds, KeptFunc, KeptValue, KeepsBegins, KeepsMeanings}
use Rattle.c_renaming.proofs.Common.{KeepsNames, Renames, Renaming, address, SameMachine, SameRun, SameState, SameStep}
use Rattle.c_renaming.specs.Renamed as renamed
use Rattle.c_renaming.proofs.Changes.{same_trail}
use Rattle.c_renaming.proofs.Steps.{call_same, c_step_same}

-- ---- entries and what is pending

abbrev entry : Renaming → Entry → Entry
entry ρ e = record { phase = e.phase; func = option_map (address ρ) e.func; args = e.args }

abbrev KeptEntries : Renaming → List Entry → Type 0
KeptEntries ρ entries = Each (λ e. Holds (KeptFunc ρ) e.func) entries

abbrev pending' : Renaming → Pending → Pending
pending' ρ pending = record { phase = pending.phase; entries = map (entry ρ) pending.entries }

abbrev pub SameProgress : Renaming → Progress → Progress → Type 0
SameProgress ρ (Going pending s) (Going other t) = (other ≡ pending' ρ pending) × KeptEntries ρ pending.entries × SameState ρ s t
SameProgress ρ (Over run) (Over other) = SameRun ρ run other
SameProgress ρ _ _ = ⊥

map-number : (ρ : Renaming) (args : List Value) → map (renamed.value ρ) (map Number args) ≡ map Number args
map-number ρ [] = refl
map-number ρ (v ∷ args) = ap (λ l. Number v ∷ l) (map-number ρ args)

numbers-kept : (ρ : Renaming) (args : List Value) → Each (KeptValue ρ) (map Number args)
numbers-kept ρ [] = tt
numbers-kept ρ (v ∷ args) = (tt, numbers-kept ρ args)

module _ (ρ : Renaming) (p q : Program) (names : KeepsNames ρ) (meanings : KeepsMeanings ρ p q) where
  over_same : (pending : Pending) (m n : Machine) (o o' : Outcome) → SameMachine ρ m n → o' ≡ renamed.outcome ρ o
      → SameRun ρ (over pending m o) (over (pending' ρ pending) n o')
  over_same pending m n o o' same is = record {
    phase = refl;
    events = λ i. (same.trail i).events;
    outcome = is;
    objects = record { vars = same.objects.vars; memories = same.objects.memories; tables = same.objects.tables };
  }

  begun_same : (pending : Pending) (st st' : Step) → KeptEntries ρ pending.entries → SameStep ρ st st'
      → SameProgress ρ (begun pending st) (begun (pending' ρ pending) st')
  begun_same pending (Next s) (Next t) kept same = (refl, kept, same)
  begun_same pending (Back m v) (Back n w) kept same = over_same pending m n (Stopped Stuck) (Stopped Stuck) same.0 refl
  begun_same pending (Stops m why) (Stops n other) kept same = over_same pending m n (Stopped why) (Stopped other) same.0
      (ap Stopped same.1)
  begun_same pending _ _ kept same = absurd same

  begin_entry_same : (m n : Machine) (last : Phase) (entries : List Entry) → SameMachine ρ m n → KeptEntries ρ entries
      → SameProgress ρ (begin_entry p m last entries) (begin_entry q n last (map (entry ρ) entries))
  begin_entry_same m n last [] same kept = over_same (record { phase = last; entries = [] }) m n Ended Ended same refl
  begin_entry_same m n last (e ∷ entries) same kept = go e.func kept.0
    where
      pending : Pending
      pending = record { phase = e.phase; entries = entries }

      go : (f : Option FuncAddress) → Holds (KeptFunc ρ) f
          → SameProgress ρ (elim f [
            | None ↦ Over (over pending m (Stopped Stuck))
            | Some f ↦ begun pending
                (call p f m (map Number e.args) [])
          ])
          (elim (option_map (address ρ) f) [
            | None ↦ Over (over (pending' ρ pending) n (Stopped Stuck))
            | Some f ↦ begun (pending' ρ pending)
                (call q f n (map Number e.args) [])
          ])
      go None holds = over_same pending m n (Stopped Stuck) (Stopped Stuck) same refl
      go (Some f) holds = begun_same pending (call p f m (map Number e.args) []) (call q (address ρ f) n (map Number e.args) []) kept.1
          (subst (λ args. SameStep ρ (call p f m (map Number e.args) []) (call q (address ρ f) n args [])) (map-number ρ e.args)
          (call_same ρ p q names meanings m n same f (map Number e.args) [] holds (numbers-kept ρ e.args) tt))

  -- the end of a call is told
  told_same : (m n : Machine) → SameMachine ρ m n → (value : Option Value) → SameMachine ρ (told_end m value) (told_end n value)
  told_same m n same value = subst (λ trail. SameMachine ρ (told_end m value) (with_trail n (call_ended trail value)))
      (sym same.trail) (same_trail ρ names m n same (call_ended m.trail value))

  came_back_same : (pending : Pending) (m n : Machine) (phase : Phase) (v : Option CValue) → SameMachine ρ m n
      → KeptEntries ρ pending.entries
      → SameProgress ρ (came_back p pending m phase v) (came_back q (pending' ρ pending) n phase (option_map (renamed.value ρ) v))
  came_back_same pending m n (Init k) None same kept = begin_entry_same m n (Init k) pending.entries same kept
  came_back_same pending m n (Call k) None same kept = begin_entry_same (told_end m None) (told_end n None) (Call k)
      pending.entries (told_same m n same None) kept
  came_back_same pending m n (Call k) (Some (Number v)) same kept = begin_entry_same (told_end m (Some v)) (told_end n (Some v))
      (Call k) pending.entries (told_same m n same (Some v)) kept
  came_back_same pending m n (Call k) (Some (Pointer to)) same kept = over_same pending m n (Stopped Stuck) (Stopped Stuck) same refl
  came_back_same pending m n (Call k) (Some (FuncPointer to)) same kept = over_same pending m n (Stopped Stuck) (Stopped Stuck) same refl
  came_back_same pending m n (Init k) (Some v) same kept = over_same pending m n (Stopped Stuck) (Stopped Stuck) same refl

  go_on_same : (pending : Pending) (st st' : Step) → KeptEntries ρ pending.entries → SameStep ρ st st'
      → SameProgress ρ (go_on p pending st) (go_on q (pending' ρ pending) st')
  go_on_same pending (Next s) (Next t) kept same = (refl, kept, same)
  go_on_same pending (Back m v) (Back n w) kept same =
      subst (λ w. SameProgress ρ (came_back p pending m pending.phase v) (came_back q (pending' ρ pending) n pending.phase w)) (sym same.1)
      (came_back_same pending m n pending.phase v same.0 kept)
  go_on_same pending (Stops m why) (Stops n other) kept same = over_same pending m n (Stopped why) (Stopped other) same.0
      (ap Stopped same.1)
  go_on_same pending _ _ kept same = absurd same

  pub after_same : (k : ℕ) (x y : Progress) → SameProgress ρ x y → SameProgress ρ (after p k x) (after q k y)
  after_same zero x y same = same
  after_same (suc k) (Going pending s) (Going other t) same =
      subst (λ other. SameProgress ρ (after p (suc k) (Going pending s)) (after q (suc k) (Going other t))) (sym same.0)
      (after_same k (go_on p pending (c_step p s)) (go_on q (pending' ρ pending) (c_step q t))
      (go_on_same pending (c_step p s) (c_step q t) same.1 (c_step_same ρ p q names meanings s t same.2)))
  after_same (suc k) (Over run) (Over other) same = same
  after_same (suc k) (Going pending s) (Over other) same = absurd same
  after_same (suc k) (Over run) (Going other t) same = absurd same

  run_of_same : (x y : Progress) → SameProgress ρ x y → SameRun ρ (run_of x) (run_of y)
  run_of_same (Going pending s) (Going other t) same =
      subst (λ other. SameRun ρ (over pending s.machine OutOfSteps) (over other t.machine OutOfSteps)) (sym same.0)
      (over_same pending s.machine t.machine OutOfSteps OutOfSteps same.2.machine refl)
  run_of_same (Over run) (Over other) same = same
  run_of_same (Going pending s) (Over other) same = absurd same
  run_of_same (Over run) (Going other t) same = absurd same

-- ---- how runs begin

abbrev init_entry : ℕ × FuncAddress → Entry
init_entry f = record { phase = Init f.0; func = Some f.1; args = [] }

abbrev call_entry : Program → ℕ × SymbolCall → Entry
call_entry p c = record { phase = Call c.0; func = called_func p c.1; args = c.1.args }

init_entries : (ρ : Renaming) (k : ℕ) (fs : List FuncAddress)
    → map init_entry (zip (range_with_len k (length (map (address ρ) fs))) (map (address ρ) fs))
    ≡ map (entry ρ) (map init_entry (zip (range_with_len k (length fs)) fs))
init_entries ρ k [] = refl
init_entries ρ k (f ∷ fs) = ap (λ l. init_entry (k, address ρ f) ∷ l) (init_entries ρ (k + 1) fs)

init_entries_kept : (ρ : Renaming) (k : ℕ) (fs : List FuncAddress) → Each (KeptFunc ρ) fs
    → KeptEntries ρ (map init_entry (zip (range_with_len k (length fs)) fs))
init_entries_kept ρ k [] kept = tt
init_entries_kept ρ k (f ∷ fs) kept = (kept.0, init_entries_kept ρ (k + 1) fs kept.1)

append_kept : (ρ : Renaming) (xs ys : List Entry) → KeptEntries ρ xs → KeptEntries ρ ys → KeptEntries ρ (xs ++ ys)
append_kept ρ [] ys first second = second
append_kept ρ (x ∷ xs) ys first second = (first.0, append_kept ρ xs ys first.1 second)

module _ (ρ : Renaming) (p q : Program) (begins : KeepsBegins ρ p q) where
  call_entries : (cs : List (ℕ × SymbolCall)) → map (call_entry q) cs ≡ map (entry ρ) (map (call_entry p) cs)
  call_entries [] = refl
  call_entries (c ∷ cs) = λ i. record { phase = Call c.0; func = begins.calls c.1 i; args = c.1.args } ∷ call_entries cs i

  call_entries_kept : (cs : List (ℕ × SymbolCall)) → KeptEntries ρ (map (call_entry p) cs)
  call_entries_kept [] = tt
  call_entries_kept (c ∷ cs) = (begins.calls_kept c.1, call_entries_kept cs)

  entries_same : (calls : List SymbolCall) → entries_of q calls ≡ map (entry ρ) (entries_of p calls)
  entries_same calls =
      ap (λ fs. map init_entry (numbered fs) ++ map (call_entry q) (numbered calls)) begins.inits
      ∙ ap (λ l. l ++ map (call_entry q) (numbered calls)) (init_entries ρ 0 (init_functions p))
      ∙ ap (λ l. map (entry ρ) (map init_entry (numbered (init_functions p))) ++ l) (call_entries (numbered calls))
      ∙ sym (map-append (entry ρ) (map init_entry (numbered (init_functions p))) (map (call_entry p) (numbered calls)))

  entries_kept : (calls : List SymbolCall) → KeptEntries ρ (entries_of p calls)
  entries_kept calls = append_kept ρ (map init_entry (numbered (init_functions p))) (map (call_entry p) (numbered calls))
      (init_entries_kept ρ 0 (init_functions p) begins.inits_kept) (call_entries_kept (numbered calls))

pub start_same : (ρ : Renaming) (p q : Program) → Renames ρ p q → (calls : List SymbolCall) (replies : List Reply)
    → SameProgress ρ (c_start p calls replies) (c_start q calls replies)
start_same ρ p q is calls replies =
    subst (λ es. SameProgress ρ (c_start p calls replies) (begin_entry q (fresh q replies) (Init 0) es))
    (sym (entries_same ρ p q is.begins calls))
    (begin_entry_same ρ p q is.names is.meanings (fresh p replies) (fresh q replies) (Init 0) (entries_of p calls)
    (is.begins.machines replies) (entries_kept ρ p q is.begins calls))

pub runs_same : (ρ : Renaming) (p q : Program) → Renames ρ p q → (calls : List SymbolCall) (m : ℕ) (replies : List Reply)
    → SameRun ρ (c_run p calls m replies) (c_run q calls m replies)
runs_same ρ p q is calls m replies =
    run_of_same ρ p q is.names is.meanings (after p m (c_start p calls replies)) (after q m (c_start q calls replies))
    (after_same ρ p q is.names is.meanings m (c_start p calls replies) (c_start q calls replies) (start_same ρ p q is calls replies))
