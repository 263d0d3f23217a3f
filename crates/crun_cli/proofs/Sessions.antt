-- What a session has told stands in front of what every longer run tells.
use Rattle.crun_cli.proofs.Common.{◌≡◌, ℕ, ◌+◌, ◌-◌, List, [], ◌∷◌, ◌++◌, map, length, is_some, Some, None, Option, option_map, sym, refl}
use Rattle.crun_cli.proofs.Common.{ap, ◌∙◌, append-nil, arith, position_from, Call, Event, Init, Phase, Reply, Program, SymbolCall}
use Rattle.crun_cli.proofs.Common.{defined_for_all, definition_at, CRun, Ended, Entry, Over, Pending, Progress, Stopped, after, begin_entry}
use Rattle.crun_cli.proofs.Common.{begun, c_run, entries_of, over, run_of, Machine, Number, Stuck, UnitFunc, replies_in, HostModule}
use Rattle.crun_cli.proofs.Common.{machine_with, Stands, State, objects_of, program_of, trail_of}
use Rattle.c_meaning.specs.Machine.{fresh}
use Rattle.c_meaning.specs.Step.{Step, Next, begin, call}
use Rattle.c_meaning.proofs.Fronts.{entries_behind, entries_longer}
use Rattle.c_meaning.proofs.Longer.{after_over, after_sum}
use Rattle.c_meaning.proofs.Told.{machine_of}
use Rattle.c_sound.specs.Events.{events_of}
use Rattle.c_sound.proofs.Tells.{run_tells}
use Rattle.c_sound.proofs.Trails.{begin_keeps}

-- ---- where a call begins nothing more is told

begun_same : (pending : Pending) (o : Step) → events_of (begun pending o) ≡ (machine_of o).trail.events
begun_same pending (Next s) = refl
begun_same pending _ = refl

entry_same : (p : Program) (m : Machine) (last : Phase) (k : ℕ) (more : List SymbolCall)
    → events_of (begin_entry p m last (entries_behind p k more)) ≡ m.trail.events
entry_same p m last k [] = refl
entry_same p m last k (c ∷ more) = go (position_from (λ items. is_some (defined_for_all items c.symbol)) 0 p.units)
  where
    pending : Pending
    pending = record { phase = Call k; entries = entries_behind p (k + 1) more }

    go : (u : Option ℕ) → events_of (elim (option_map (λ u. UnitFunc u c.symbol) u) [
      | None ↦ Over (over pending m (Stopped Stuck))
      | Some f ↦ begun pending (call p f m (map Number c.args) [])
    ]) ≡ m.trail.events
    go None = refl
    go (Some u) =
        begun_same pending (begin (definition_at p u c.symbol) u m (map Number c.args) [])
        ∙ ap (λ t. t.events) (begin_keeps (definition_at p u c.symbol) u m (map Number c.args) [])

-- ---- the runs of a session

module _ {H : Type 0} (m : HostModule H) (s : State H) (calls : List SymbolCall) (told : List Event) (stands : Stands m s calls told) where
  abbrev p : Program
  p = program_of m s

  abbrev machine : List Reply → Machine
  machine later = machine_with s.depth (objects_of s) (trail_of later told)

  -- with more calls, and more replies
  longer : (more : List SymbolCall) (later : List Reply) → c_run p (calls ++ more) s.steps (replies_in s.journal ++ later)
      ≡ run_of (after p s.left (begin_entry p (machine later) stands.last (entries_behind p (length calls) more)))
  longer more later =
      let start : List Entry → Progress = begin_entry p (fresh p (replies_in s.journal ++ later)) (Init 0) in
      let count : s.steps ≡ (s.steps - s.left) + s.left = omega (arith, stands.fewer) in
      ap run_of (ap (λ es. after p s.steps (start es)) (entries_longer p calls more)
      ∙ ap (λ n. after p n (start (entries_of p calls ++ entries_behind p (length calls) more))) count
      ∙ after_sum p (s.steps - s.left) s.left (start (entries_of p calls ++ entries_behind p (length calls) more))
      ∙ ap (after p s.left) (stands.behind.reaches later (entries_behind p (length calls) more)))

  -- this was told in front
  pub told_in_front : (more : List SymbolCall) (later : List Reply)
      → (rest : List Event) × ((c_run p (calls ++ more) s.steps (replies_in s.journal ++ later)).events ≡ told ++ rest)
  told_in_front more later =
      let x : Progress = begin_entry p (machine later) stands.last (entries_behind p (length calls) more) in
      let tells = run_tells p s.left x in (
        tells.0,
        ap (λ (r : CRun). r.events) (longer more later) ∙ tells.1
            ∙ ap (λ l. l ++ tells.0) (entry_same p (machine later) stands.last (length calls) more),
      )

  -- the run of these calls has ended
  pub has_ended : c_run p calls s.steps (replies_in s.journal)
      ≡ over (record { phase = stands.last; entries = [] }) (machine []) Ended
  has_ended =
      ap (λ cs. c_run p cs s.steps (replies_in s.journal)) (sym (append-nil calls))
      ∙ ap (λ rs. c_run p (calls ++ []) s.steps rs) (sym (append-nil (replies_in s.journal)))
      ∙ longer [] []
      ∙ ap run_of (after_over p s.left (over (record { phase = stands.last; entries = [] }) (machine []) Ended))
