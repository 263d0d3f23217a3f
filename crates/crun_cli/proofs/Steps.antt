-- What the calls of a session and the lines that were written of them make of where a run stands.
use Rattle.crun_cli.proofs.Common.{◌≡◌, ℕ, List, [], ◌∷◌, ◌++◌, map, length, drop, IfSome, Some, None, Option, sym, ap, ◌∙◌, Ask, Call}
use Rattle.crun_cli.proofs.Common.{Event, Init, asks_in, extended, SaysPart, SymbolCall, c_run, hosts_of, ask_of, events_in, replies_in}
use Rattle.crun_cli.proofs.Common.{Asks, HostModule, Asked, IsLast, IsOutcome, Stands, State, objects_of, program_of, standing_of, told_by}
use Rattle.crun_cli.proofs.Common.{Outcome, lines_behind, status_of_outcome, event_lines, last_line, subst}
use Rattle.crun.specs.declared.outcome.Standing.TheVariants as standing
use Rattle.crun_cli.specs.Playing.{HasPlayed, IsBehind, IsLeft, IsSince, IsStored}
use Rattle.crun_cli.proofs.Behind.{call_behind, call_left, call_played, call_wanting, goes_on, inits_are, inits_wanting, is_ended, is_left}
use Rattle.crun_cli.proofs.Behind.{since_next, since_start, stops, IsEnded}
use Rattle.crun_cli.proofs.Lines.{asks_are_asked, came_out}

pub ready_of_end : (o : Outcome) → IsEnded o → standing_of o ≡ standing.Ready
ready_of_end o (value, is) = ap standing_of is

-- ---- a call

module _ {H : Type 0} (m : HostModule H) (before s : State H) (x c : SymbolCall) (seen : x ≡ c)
    (linked : s.linked ≡ before.linked) (steps : s.steps ≡ before.steps) (same : hosts_of m s.hosts ≡ hosts_of m before.hosts)
    (asked : (asks : List Asked) × Asks m before.hosts before.journal asks s.hosts s.journal) (index from : ℕ)
    (from_is : from ≡ length before.journal)
    (e : State H) (done : List SymbolCall) (old now : Option (List ℕ)) (count : length done ≡ index)
    (behind : IsBehind m e before done old now) where
  since : IsSince m e s
  since = since_next m e before s asked.0 behind.since linked steps same asked.1

  -- memory was wanting
  pub call_wants : ((calls rest : List SymbolCall) (told : List Event) → Stands m before calls told → (more : List Ask)
      × (asks_in (c_run (program_of m before) (calls ++ x ∷ rest) before.steps (replies_in s.journal)).events
      ≡ map ask_of s.journal ++ more))
      → (more : List SymbolCall) → IsLeft m e s (done ++ c ∷ more) old now
  call_wants wanting more =
      let found = wanting done more behind.told behind.stands in
      call_wanting m e before s done c old now behind since asked.0 asked.1.written more (rw seen at found)

  module _ (o : Outcome)
      (ran : (calls rest : List SymbolCall) (told : List Event) (asks : List Asked) → Stands m before calls told → s.journal
      ≡ before.journal ++ asks
      → IsLast o rest → IsOutcome o (Call (length calls)) s.journal (told_by told asks o) (objects_of s)
      (c_run (program_of m before) (calls ++ x ∷ rest) before.steps (replies_in s.journal)))
      (stands : s.standing ≡ standing.Ready → (calls : List SymbolCall) (told : List Event) (asks : List Asked) → Stands m before calls told
      → s.journal ≡ before.journal ++ asks → Stands m s (calls ++ x ∷ []) (told_by told asks o))
      (standing_is : s.standing ≡ standing_of o) (stored : IsStored s) (new : Option (List ℕ)) where
    abbrev text : List ℕ
    text = lines_behind (hosts_of m s.hosts) (drop from s.journal) (Call index) o

    here : (rest : List SymbolCall) → IsLast o rest
        → IsOutcome o (Call (length done)) s.journal (told_by behind.told asked.0 o) (objects_of s)
        (c_run (program_of m before) (done ++ c ∷ rest) before.steps (replies_in s.journal))
    here rest last = rw seen at (ran done rest behind.told asked.0 behind.stands asked.1.written last)

    stand : IsEnded o → Stands m s (done ++ c ∷ []) (told_by behind.told asked.0 o)
    stand is = rw seen at (stands (standing_is ∙ ready_of_end o is) done behind.told asked.0 behind.stands asked.1.written)

    text_is : text ≡ lines_behind (hosts_of m s.hosts) (drop (length before.journal) s.journal) (Call (length done)) o
    text_is = (λ i. lines_behind (hosts_of m s.hosts) (drop (from_is i) s.journal) (Call (sym count i)) o)

    pub call_goes_on : status_of_outcome o ≡ None → new ≡ extended now text → IsBehind m e s (done ++ c ∷ []) old new
    call_goes_on none printed =
        call_behind m e before s done c old now behind since asked.0 asked.1.written o new here none stored (stand (is_ended o none))
        (printed ∙ ap (extended now) text_is)

    pub call_stops : (status : ℕ) → status_of_outcome o ≡ Some status → new ≡ extended now text
        → (more : List SymbolCall) → HasPlayed m e s (done ++ c ∷ more) old new status
    call_stops status some printed more =
        call_played m e before s done c old now behind since asked.0 asked.1.written o new here status some stored
        (printed ∙ ap (extended now) text_is) more

    pub call_is_left : SaysPart now new text → (more : List SymbolCall) → IsLeft m e s (done ++ c ∷ more) old new
    call_is_left part more =
        call_left m e before s done c old now behind since asked.0 asked.1.written o new here stand (rw text_is at part) more

-- the status, as an answer where there is one
pub played_if_some : (r : Option ℕ) (o : Outcome) (P : ℕ → Type 0) → r ≡ status_of_outcome o
    → ((status : ℕ) → status_of_outcome o ≡ Some status → P status)
    → IfSome r P
played_if_some None o P is some = tt
played_if_some (Some status) o P is some = some status (sym is)

-- ---- the init functions

module _ {H : Type 0} (m : HostModule H) (e s : State H) (none : e.journal ≡ [])
    (linked : s.linked ≡ e.linked) (steps : s.steps ≡ e.steps) (same : hosts_of m s.hosts ≡ hosts_of m e.hosts)
    (asked : (asks : List Asked) × Asks m e.hosts e.journal asks s.hosts s.journal) (old : Option (List ℕ)) where
  since_inits : IsSince m e s
  since_inits = since_next m e e s asked.0 (since_start m e none) linked steps same asked.1

  pub inits_want : ((rest : List SymbolCall) → (more : List Ask)
      × (asks_in (c_run (program_of m e) rest e.steps (replies_in s.journal)).events ≡ map ask_of s.journal ++ more))
      → (calls : List SymbolCall) → IsLeft m e s calls old old
  inits_want wanting calls = inits_wanting m e s since_inits old calls (wanting calls)

  module _ (o : Outcome) (k j : ℕ) (number : j ≡ k)
      (ran : (rest : List SymbolCall) → IsLast o rest
      → IsOutcome o (Init k) s.journal (events_in s.journal) (objects_of s) (c_run (program_of m e) rest e.steps (replies_in s.journal)))
      (stands : s.standing ≡ standing.Ready → Stands m s [] (events_in s.journal))
      (standing_is : s.standing ≡ standing_of o) (stored : IsStored s) (new : Option (List ℕ)) where
    stand_inits : IsEnded o → Stands m s [] (events_in s.journal)
    stand_inits is = stands (standing_is ∙ ready_of_end o is)

    abbrev inits_text : List ℕ
    inits_text = lines_behind (hosts_of m s.hosts) (drop 0 s.journal) (Init j) o

    texts_are : inits_text ≡ event_lines (hosts_of m e.hosts) 0 (events_in s.journal) ++ last_line (Init k) (came_out o)
    texts_are = ap (λ n. lines_behind (hosts_of m s.hosts) (drop 0 s.journal) (Init n) o) number ∙ inits_are m e s o k since_inits

    pub inits_go_on : status_of_outcome o ≡ None → new ≡ extended old inits_text → IsBehind m e s [] old new
    inits_go_on none printed = goes_on m e s since_inits old new o (Init k) (events_in s.journal) [] (asks_are_asked s.journal) ran
        none stored (stand_inits (is_ended o none)) (printed ∙ ap (extended old) texts_are)

    pub inits_stop : (status : ℕ) → status_of_outcome o ≡ Some status → new ≡ extended old inits_text
        → (calls : List SymbolCall) → HasPlayed m e s calls old new status
    inits_stop status some printed calls = stops m e s since_inits old new o (Init k) (events_in s.journal) []
        (asks_are_asked s.journal) ran status some stored (printed ∙ ap (extended old) texts_are) calls

    pub inits_are_left : SaysPart old new inits_text → (calls : List SymbolCall) → IsLeft m e s calls old new
    inits_are_left part calls = is_left m e s since_inits old new o (Init k) (events_in s.journal) [] (asks_are_asked s.journal) ran
        stand_inits (subst (SaysPart old new) texts_are part) calls
