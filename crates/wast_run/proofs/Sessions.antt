-- What the outcome of an init function or a call makes of where a session without hosts stands.
use Rattle.wast_run.proofs.Common.{◌≡◌, ℕ, ◌+◌, ◌<◌, ◌≤◌, List, [], ◌∷◌, ◌++◌, map, length, get_or, take, drop, IfSome, slice_get, Some}
use Rattle.wast_run.proofs.Common.{None, Option, sym, refl, ap, ◌∙◌, subst, append_assoc, arith, Bor, length-map, InCall, values_in}
use Rattle.wast_run.proofs.Common.{unit_of, Item, SymbolCall, CRun, c_run, Call, StopsAt, alone, run_of, symbol_of, symbols_in, symbols_of}
use Rattle.w2c_base.specs.Run.{Event, Init, CallEnded}
use Rattle.w2c_base.proofs.Events.{values_behind}
use Rattle.c_link.specs.declared.host_symbol.HostSymbol.{HostSymbol}
use Rattle.c_hosts.specs.declared.host.HostModule.{Ghosts as HostModule}
use Rattle.c_hosts.specs.Asking.{hosts_of}
use Rattle.c_hosts.specs.declared.journal.Asked.{Asked}
use Rattle.c_hosts.specs.Journals.{events_in, replies_in}
use Rattle.c_hosts.specs.Running.{Asks}
use Rattle.crun.specs.declared.outcome.Outcome.{Outcome}
use Rattle.crun.specs.declared.outcome.Outcome.TheVariants as outcome
use Rattle.crun.specs.declared.outcome.Standing.TheVariants as standing
use Rattle.crun.specs.Sessions.{objects_of, program_of, standing_of, told_by, IsEnd, IsLast, IsOutcome, Stands, State}
use Rattle.wast_run.proofs.Lists.{front_count, front_split}
use Rattle.wast_run.specs.Ran.{stop_in, CameTo, IsBehind, IsOutcomeOf, RunsTheSame}

abbrev pub seen : Bor Call → SymbolCall
seen call = symbol_of call.now

-- ---- outcomes

pub ready_of_end : (o : Outcome) → stop_in o ≡ None → standing_of o ≡ standing.Ready
ready_of_end (outcome.Ended value) e = refl
ready_of_end _ e = absurd cc

-- any calls may be listed behind one that did not end
pub last_of_stop : (o stop : Outcome) → stop_in o ≡ Some stop → (rest : List SymbolCall) → IsLast o rest
last_of_stop (outcome.Ended value) stop e rest = absurd cc
last_of_stop _ stop e rest = tt

pub stop_is : (o stop : Outcome) → stop_in o ≡ Some stop → o ≡ stop
stop_is (outcome.Ended value) stop e = absurd cc
stop_is _ stop e = cc

-- nothing is listed behind the last call
pub last_of_none : (o : Outcome) → IsLast o []
last_of_none (outcome.Ended value) = refl
last_of_none _ = tt

-- an outcome that is given where it is no end
pub if_stop : (r : Option Outcome) (o : Outcome) (P : Outcome → Type 0) → r ≡ stop_in o
    → ((stop : Outcome) → stop_in o ≡ Some stop → P stop) → IfSome r P
if_stop None o P is some = tt
if_stop (Some stop) o P is some = some stop (sym is)

pub stops_later : (o : Outcome) (a b : ℕ) (run : CRun) → a ≤ b → StopsAt o a run → StopsAt o b run
stops_later o a b run less stops = record { stop = stops.stop; is = stops.is; before = λ k is. omega (arith, less, stops.before k is) }

-- the outcome of a call, whose end is told behind what was told before
pub outcome_of_call : (o : Outcome) (told : List Event) (run : CRun) → IsEnd o run → run.events ≡ told_by told [] o → IsOutcomeOf o run
outcome_of_call (outcome.Ended value) told run end is = record {
  end = end.0;
  others = values_in (told ++ []);
  last = ap values_in is ∙ values_behind (told ++ []) (CallEnded value ∷ []);
}
outcome_of_call _ told run end is = end

-- the same of one that is no end
pub outcome_of_stop : (o stop : Outcome) (run : CRun) → stop_in o ≡ Some stop → IsEnd o run → IsOutcomeOf o run
outcome_of_stop (outcome.Ended value) stop run e end = absurd cc
outcome_of_stop _ stop run e end = end

-- it is that of a call before the one with this number
pub stops_in_call : (o stop : Outcome) (k count : ℕ) {run : CRun} {n : ℕ} → k < count → stop_in o ≡ Some stop → n ≡ k
    → CameTo o (InCall n) run → StopsAt stop count run
stops_in_call o stop k count {run} {n} less e n_is came = subst (λ y. StopsAt y count run) (stop_is o stop e) (record {
  stop = e ∙ ap Some (sym (stop_is o stop e));
  is = came.is;
  before = λ j at. subst (λ x. x < count) (sym n_is ∙ same_call (sym came.at ∙ at)) less;
})
  where
    same_call : {a b : ℕ} → InCall a ≡ InCall b → a ≡ b
    same_call at = cc

-- ---- hosts that are none are asked nothing

none_there : {H : Type 0} (k : ℕ) (h : H) → slice_get [] k ≡ Some h → ⊥
none_there k h is = cc

no_ask : {H : Type 0} (m : HostModule H) (asks : List Asked) (after : List H) (journal : List Asked)
    → Asks m [] [] asks after journal → (after ≡ []) × (journal ≡ [])
no_ask m [] after journal asked = (asked.answered, asked.written)
no_ask m (a ∷ asks) after journal asked = absurd (none_there a.host asked.answered.1.old asked.answered.1.old_is)

pub nothing_asked : {H : Type 0} (m : HostModule H) (before after : List H) (old new asks : List Asked) → before ≡ [] → old ≡ []
    → Asks m before old asks after new → (after ≡ []) × (new ≡ [])
nothing_asked {H} m before after old new asks no_hosts none_asked asked =
    no_ask m asks after new (subst (λ js. Asks m [] js asks after new) none_asked (rw no_hosts at asked))

-- ---- the program stays

pub runs_further : {H : Type 0} (m : HostModule H) (a b c : State H) → RunsTheSame m a b → RunsTheSame m b c → RunsTheSame m a c
runs_further m a b c first second = record {
  linked = second.linked ∙ first.linked;
  hosts = second.hosts ∙ first.hosts;
  program = second.program ∙ first.program;
  steps = second.steps ∙ first.steps;
}

-- what holds of the runs of the program holds of those at the start
pub of_first : {H : Type 0} (m : HostModule H) (a b : State H) → RunsTheSame m a b → (P : CRun → Type 0) → (calls : List SymbolCall)
    → P (run_of m b calls) → P (run_of m a calls)
of_first m a b same P calls = subst P (λ i. c_run (same.program i) calls (same.steps i) [])

-- ---- a call

module _ {H : Type 0} (m : HostModule H) (before s : State H) (x c : SymbolCall) (seen : x ≡ c)
    (asked : (asks : List Asked) × Asks m before.hosts before.journal asks s.hosts s.journal)
    (done : List SymbolCall) (behind : IsBehind m before done) (o : Outcome) where
  quiet : (s.hosts ≡ []) × (s.journal ≡ [])
  quiet = nothing_asked m before.hosts s.hosts before.journal s.journal asked.0 behind.no_hosts behind.none_asked asked.1

  unwritten : s.journal ≡ before.journal ++ []
  unwritten = quiet.1 ∙ ap (λ js. js ++ []) (sym behind.none_asked)

  pub call_came : ((calls rest : List SymbolCall) (told : List Event) (asks : List Asked) → Stands m before calls told
      → s.journal ≡ before.journal ++ asks → IsLast o rest
      → IsOutcome o (InCall (length calls)) s.journal (told_by told asks o) (objects_of s)
      (c_run (program_of m before) (calls ++ x ∷ rest) before.steps (replies_in s.journal)))
      → (rest : List SymbolCall) → IsLast o rest
      → CameTo o (InCall (length done)) (run_of m before (done ++ c ∷ rest))
  call_came ran rest last =
      let is = ran done rest behind.told [] behind.stands unwritten last in
      subst (λ y. CameTo o (InCall (length done)) (run_of m before (done ++ y ∷ rest))) seen
      (subst (λ js. CameTo o (InCall (length done)) (c_run (program_of m before) (done ++ x ∷ rest) before.steps (replies_in js))) quiet.1
      (record { is = outcome_of_call o behind.told _ is.end is.events; at = is.phase_is }))

  pub call_behind : (s.standing ≡ standing.Ready → (calls : List SymbolCall) (told : List Event) (asks : List Asked)
      → Stands m before calls told → s.journal ≡ before.journal ++ asks → Stands m s (calls ++ x ∷ []) (told_by told asks o))
      → s.standing ≡ standing_of o → stop_in o ≡ None → IsBehind m s (done ++ c ∷ [])
  call_behind stands standing_is ended = record {
    no_hosts = quiet.0;
    none_asked = quiet.1;
    told = told_by behind.told [] o;
    stands = rw seen at (stands (standing_is ∙ ready_of_end o ended) done behind.told [] behind.stands unwritten);
  }

-- ---- the init functions

module _ {H : Type 0} (m : HostModule H) (before s : State H) (no_hosts : before.hosts ≡ []) (none_asked : before.journal ≡ [])
    (asked : (asks : List Asked) × Asks m before.hosts before.journal asks s.hosts s.journal) (o : Outcome) where
  quiet_inits : (s.hosts ≡ []) × (s.journal ≡ [])
  quiet_inits = nothing_asked m before.hosts s.hosts before.journal s.journal asked.0 no_hosts none_asked asked.1

  pub inits_behind : (s.standing ≡ standing.Ready → Stands m s [] (events_in s.journal)) → s.standing ≡ standing_of o → stop_in o ≡ None
      → IsBehind m s []
  inits_behind stands standing_is ended = record {
    no_hosts = quiet_inits.0;
    none_asked = quiet_inits.1;
    told = events_in s.journal;
    stands = stands (standing_is ∙ ready_of_end o ended);
  }

  pub inits_stop : (k : ℕ) → ((rest : List SymbolCall) → IsLast o rest
      → IsOutcome o (Init k) s.journal (events_in s.journal) (objects_of s)
      (c_run (program_of m before) rest before.steps (replies_in s.journal)))
      → (stop : Outcome) → stop_in o ≡ Some stop → (rest : List SymbolCall)
      → StopsAt stop 0 (run_of m before rest)
  inits_stop k ran stop e rest = subst (λ y. StopsAt y 0 (run_of m before rest)) (stop_is o stop e) (record {
    stop = e ∙ ap Some (sym (stop_is o stop e));
    is = outcome_of_stop o stop _ e here.end;
    before = λ j at. absurd (in_init j (sym here.phase_is ∙ at));
  })
    where
      here : IsOutcome o (Init k) [] (events_in s.journal) (objects_of s) (run_of m before rest)
      here = subst (λ js. IsOutcome o (Init k) js (events_in s.journal) (objects_of s)
          (c_run (program_of m before) rest before.steps (replies_in js))) quiet_inits.1 (ran rest (last_of_stop o stop e rest))

      in_init : (j : ℕ) → Init k ≡ InCall j → ⊥
      in_init j is = absurd cc

-- ---- calls that were kept, and the last one

module _ {H : Type 0} (m : HostModule H) (start now : State H) (same : RunsTheSame m start now) where
  -- one of them did not end
  pub kept_stop : (kept : List (Bor Call)) (k : ℕ) (item : Bor Call) → k < length kept → item ≡ get_or kept k item
      → (o stop : Outcome) → stop_in o ≡ Some stop → IsBehind m now (symbols_in (take k kept))
      → ((done rest : List SymbolCall) → IsBehind m now done → IsLast o rest
      → CameTo o (InCall (length done)) (run_of m now (done ++ symbol_of item.now ∷ rest)))
      → (rest : List SymbolCall) → StopsAt stop (length kept) (run_of m start (symbols_in kept ++ rest))
  kept_stop kept k item less at o stop e behind came rest =
      of_first m start now same (StopsAt stop (length kept)) (symbols_in kept ++ rest)
      (rw calls_are at (stops_in_call o stop k (length kept) less e (front_count seen kept k item item less at) here))
    where
      more : List SymbolCall
      more = symbols_in (drop (k + 1) kept)

      calls_are : symbols_in (take k kept) ++ symbol_of item.now ∷ (more ++ rest) ≡ symbols_in kept ++ rest
      calls_are = sym (append_assoc (symbols_in (take k kept)) (symbol_of item.now ∷ more) rest)
          ∙ ap (λ cs. cs ++ rest) (front_split seen kept k item item less at)

      here : CameTo o (InCall (length (symbols_in (take k kept))))
          (run_of m now (symbols_in (take k kept) ++ symbol_of item.now ∷ (more ++ rest)))
      here = came (symbols_in (take k kept)) (more ++ rest) behind (last_of_stop o stop e (more ++ rest))

  -- the last call
  pub last_came : (kept : List (Bor Call)) (last : Call) (o : Outcome) → IsBehind m now (symbols_in kept)
      → ((done rest : List SymbolCall) → IsBehind m now done → IsLast o rest
      → CameTo o (InCall (length done)) (run_of m now (done ++ symbol_of last ∷ rest)))
      → CameTo o (InCall (length kept)) (run_of m start (symbols_of kept last))
  last_came kept last o behind came =
      of_first m start now same (CameTo o (InCall (length kept))) (symbols_of kept last)
      (rw (length-map kept seen) at (came (symbols_in kept) [] behind (last_of_none o)))

-- a session without hosts runs the units alone
pub program_is : {H : Type 0} (m : HostModule H) (s : State H) (linked : List (List Item) × List HostSymbol) → s.linked ≡ linked
    → s.hosts ≡ [] → program_of m s ≡ alone (map unit_of linked.0)
program_is m s linked is no_hosts = (λ i. record { units = map unit_of (is i).0; hosts = hosts_of m (no_hosts i) })

-- where no symbols are offered there are no hosts
pub no_hosts_left : {H : Type 0} (m : HostModule H) (hosts before : List H) → hosts_of m hosts ≡ hosts_of m before → before ≡ []
    → hosts ≡ []
no_hosts_left m [] before same none = refl
no_hosts_left m (h ∷ hosts) before same none = let nothing : hosts_of m (h ∷ hosts) ≡ [] = same ∙ ap (hosts_of m) none in absurd cc
