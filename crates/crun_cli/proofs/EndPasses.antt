-- What passes through the files where a step ends with a status or a stop: behind what was read, and for the words that asked for it.
use Rattle.crun_cli.proofs.Common.{◌≡◌, ℕ, List, [], ◌∷◌, Some, None, Option, refl, subst, both_passed, passed_so, Passes, Name, hosts_of}
use Rattle.crun_cli.proofs.Common.{HostModule, replaying, ReplayHost, RunLine, line_of, merges, runs, trims, AllRead, GivesInputs, Reason}
use Rattle.crun_cli.proofs.Common.{IsMerged, IsTrimmedText, PassesUnits, stopped_by, symbols_of, PassesRun, PassesWords, GivesReplays}
use Rattle.crun_cli.proofs.Common.{WritesOfTexts, ended_by}
use Rattle.std.specs.Prelude.{Result}
use Rattle.w2c_io.specs.Events.{Event}
use Rattle.crun_words.specs.CommandLine.{MergeLine, TrimLine}
use Rattle.crun_job.specs.declared.stop.Stop.{Stop}
use Rattle.crun_cli.proofs.Passing.{handed_passed, line_passed, replayed_both, ReadsBoth}

-- a run over files that are all read
module _ {H : Type 0} (m : HostModule H) (hosts : List H) (line : RunLine) (old new : Option (List ℕ)) (end : Result ℕ Stop)
    (texts : List (List ℕ)) (text : List ℕ) (start middle behind : List Event) (units : List Name) (same : units ≡ line.units)
    (gives : Passes start middle (GivesInputs units line.calls (AllRead texts text))) where
  abbrev Written : {G : Type 0} → HostModule G → List G → List Event → Type 0
  Written n gs events = WritesOfTexts n gs line texts text old new (ended_by end) (stopped_by {A = ℕ} end) events

  abbrev Passed : List Event → Type 0
  Passed events = PassesRun m hosts line old new (ended_by end) (stopped_by {A = ℕ} end) events

  abbrev Given : List Event → Type 0
  Given events = GivesInputs line.units line.calls (AllRead texts text) events

  given : Passes start middle Given
  given = subst (λ us. Passes start middle (GivesInputs us line.calls (AllRead texts text))) same gives

  pub run_handed : line.replayed ≡ None → Passes middle behind (Written m hosts) → Passes start behind Passed
  run_handed none = both_passed start middle behind Given (Written m hosts) Passed
      (λ first last gave. handed_passed m hosts line old new (ended_by end) (stopped_by {A = ℕ} end) texts text first gave none last) given

  pub run_replayed : (read : List Event) (name : Name) → line.replayed ≡ Some name → (replays : List ReplayHost)
      → Passes middle read (GivesReplays name replays) → Passes read behind (Written replaying replays) → Passes start behind Passed
  run_replayed read name named replays replay =
      both_passed start read behind (ReadsBoth line texts text name replays) (Written replaying replays) Passed
      (replayed_both m hosts line old new (ended_by end) (stopped_by {A = ℕ} end) texts text name named replays)
      (both_passed start middle read Given (GivesReplays name replays) (ReadsBoth line texts text name replays)
      (λ first last gave replayed. (first, last, refl, gave, replayed)) given replay)

-- a line of words
module _ {H : Type 0} (m : HostModule H) (hosts : List H) (words : List Name) (old : Option (List ℕ)) (start behind : List Event) where
  pub words_run : (new : Option (List ℕ)) (end : Result ℕ Stop) (line : RunLine) → line_of words ≡ Some (runs line)
      → Passes start behind (PassesRun m hosts line old new (ended_by end) (stopped_by {A = ℕ} end))
      → Passes start behind (PassesWords m hosts words old new (ended_by end) (stopped_by {A = ℕ} end))
  words_run new end line is = passed_so start behind (PassesRun m hosts line old new (ended_by end) (stopped_by {A = ℕ} end))
      (PassesWords m hosts words old new (ended_by end) (stopped_by {A = ℕ} end))
      (line_passed m hosts words old new (ended_by end) (stopped_by {A = ℕ} end) (runs line) is)

  -- a unit is asked for, and the stream gains nothing
  module _ (Ends : ℕ → Type 0) (Stopped : Reason → Type 0) where
    pub words_merge : (line : MergeLine) → line_of words ≡ Some (merges line) → (given : List H) → given ≡ hosts
        → Passes start behind (PassesUnits line.units (IsMerged line (symbols_of (hosts_of m given))) Ends Stopped)
        → Passes start behind (PassesWords m hosts words old old Ends Stopped)
    words_merge line is given same passed =
        passed_so start behind (PassesUnits line.units (IsMerged line (symbols_of (hosts_of m hosts))) Ends Stopped)
        (PassesWords m hosts words old old Ends Stopped)
        (λ events passes. line_passed m hosts words old old Ends Stopped (merges line) is events (refl, passes)) (rw same at passed)

    pub words_trim : (line : TrimLine) → line_of words ≡ Some (trims line)
        → Passes start behind (PassesUnits (line.unit ∷ []) (IsTrimmedText line) Ends Stopped)
        → Passes start behind (PassesWords m hosts words old old Ends Stopped)
    words_trim line is = passed_so start behind (PassesUnits (line.unit ∷ []) (IsTrimmedText line) Ends Stopped)
        (PassesWords m hosts words old old Ends Stopped)
        (λ events passes. line_passed m hosts words old old Ends Stopped (trims line) is events (refl, passes))
