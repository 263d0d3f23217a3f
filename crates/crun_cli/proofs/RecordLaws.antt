-- A run whose journal is written: from what its steps say to what the line asks for.
use Rattle.crun_cli.proofs.Common.{◌≡◌, ℕ, Bool, ◌⊎◌, List, Some, None, Option, refl, subst, inl, inr, Name, Told, holding, IsBegun, Ended}
use Rattle.crun_cli.proofs.Common.{SymbolCall, OutOfSteps, Stopped, Trapped, Undefined, hosts_of, HostModule, Asked, recorded, Recorded}
use Rattle.crun_cli.proofs.Common.{journal_text, AreDistinct, JournalFile, RunLine, IsTextsJob, Run, CallsLine, Reason, Refused, StopsTexts}
use Rattle.crun_cli.proofs.Common.{WantOfMemory, HasPlayed, HasPlayedPart, IsJournaled, IsRunStatus, journal_of, symbols_of, IsUntouched}
use Rattle.crun_cli.proofs.Common.{Outside, HasRecorded, IsBlank, IsBlankFor, IsFilled, IsNamed, IsText, IsWritten, IsWrittenPart, HasPart}
use Rattle.crun_cli.proofs.Common.{HasRun, HasStatus, IsTextsPart, IsTextsRun, StopsRun}
use Rattle.c_tree.specs.Tree as tree
use Rattle.c_meaning.specs.Run.{Outcome}

-- ---- the status

status_of_run : (o : Outcome) (status : ℕ) → HasStatus o status → IsRunStatus status
status_of_run Ended status is = inl is
status_of_run OutOfSteps status is = inr (inr (inl is))
status_of_run (Stopped (Trapped kind)) status is = inr (inl is)
status_of_run (Stopped (Undefined kind place)) status is = inr (inr (inr is))
status_of_run _ status is = absurd is

pub ran_status : {H : Type 0} {m : HostModule H} {hosts : List H} {units : List (List tree.Item)} {calls : List SymbolCall} {steps : ℕ}
    {shown : Bool} {old new : Option (List ℕ)} {status : ℕ} → HasRun m hosts units calls steps shown old new status → IsRunStatus status
ran_status {status} ran = status_of_run _ status ran.has_status

-- ---- the file of the journal, by the name that the line gives for it

module _ {H : Type 0} (m : HostModule H) (hosts : List H) where
  pub is_blank : (name : Option Name) (file : Option JournalFile) → IsBlankFor m hosts name file → IsBlank m hosts file
  is_blank None (Some file) blank = absurd cc
  is_blank (Some name) (Some file) blank = blank
  is_blank _ _ blank = tt

  pub is_named : (name : Option Name) (file filled : Option JournalFile) (asks : List Asked) → IsBlankFor m hosts name file
      → IsFilled m hosts asks file filled → IsNamed name filled
  is_named (Some name) None filled asks blank is = absurd blank
  is_named (Some name) (Some file) None asks blank is = absurd is
  is_named _ _ _ asks blank is = tt

  is_journaled : (name : Option Name) (file filled : Option JournalFile) (asks : List Asked) (old new : Told)
      → AreDistinct (hosts_of m hosts) → IsBlankFor m hosts name file → IsFilled m hosts asks file filled → IsWritten name filled old new
      → IsJournaled name (journal_of m hosts asks) old new
  is_journaled None file filled asks old new distinct blank is written = written
  is_journaled (Some name) None filled asks old new distinct blank is written = absurd blank
  is_journaled (Some name) (Some file) None asks old new distinct blank is written = absurd is
  is_journaled (Some name) (Some file) (Some filled) asks old new distinct blank is written =
      let both = subst (λ (j : Recorded). (new ≡ holding old name (journal_text j)) × IsText j) is written in
      (both.0, both.1 distinct)

  is_part : (name : Option Name) (file filled : Option JournalFile) (asks : List Asked) (old new : Told)
      → IsFilled m hosts asks file filled → IsBlankFor m hosts name file → IsWrittenPart name filled old new
      → (written : Name) × (name ≡ Some written) × IsBegun old new written (journal_text (journal_of m hosts asks))
  is_part None file filled asks old new is blank part = absurd part
  is_part (Some name) None filled asks old new is blank part = absurd blank
  is_part (Some name) (Some file) None asks old new is blank part = absurd is
  is_part (Some name) (Some file) (Some filled) asks old new is blank part =
      (name, refl, subst (λ (j : Recorded). IsBegun old new name (journal_text j)) is part)

-- no file changes but the one that is named
pub kept_part : (name : Option Name) (file : Option JournalFile) (old new : Told) → IsWrittenPart name file old new
    → (new ≡ old) ⊎ ((other : Name) × (text : List ℕ) × (name ≡ Some other) × (new ≡ holding old other text))
kept_part (Some name) (Some file) old new (inl same) = inl same
kept_part (Some name) (Some file) old new (inr (text, prefix, is)) = inr (name, text, refl, is)
kept_part _ _ old new part = absurd part

pub kept_whole : (name : Option Name) (file : Option JournalFile) (old new : Told) → IsWritten name file old new
    → (new ≡ old) ⊎ ((other : Name) × (text : List ℕ) × (name ≡ Some other) × (new ≡ holding old other text))
kept_whole None file old new same = inl same
kept_whole (Some name) None old new is = absurd is
kept_whole (Some name) (Some file) old new (is, text) = inr (name, journal_text (recorded file), refl, is)

-- ---- the run that the texts come to

module _ {H : Type 0} (m : HostModule H) (hosts : List H) (line : RunLine) (texts : List (List ℕ)) (text : List ℕ) (old new : Outside) where
  -- the task was made for hosts that are these
  module _ (units : List (List tree.Item)) (calls : List SymbolCall) (steps : ℕ) (shown : Bool) (made : List H) (same : made ≡ hosts)
      (given : IsTextsJob line (symbols_of (hosts_of m made)) texts text (Run units calls steps shown)) where
    job : IsTextsJob line (symbols_of (hosts_of m hosts)) texts text (Run units calls steps shown)
    job = subst (λ hs. IsTextsJob line (symbols_of (hosts_of m hs)) texts text (Run units calls steps shown)) same given

    -- with the line's number of statements, and the state where the line shows it
    of_line : (P : ℕ → Bool → Type 0) → P steps shown → P line.steps line.shows_state
    of_line P of = subst (P line.steps) job.3 (subst (λ n. P n shown) job.2 of)

    texts_run : (P : List (List tree.Item) → List SymbolCall → Type 0) → P units calls → IsTextsRun m hosts line texts text P
    texts_run P of = (units, calls, (job.0, job.1, refl, refl), of)

    pub lines_part : HasPart m hosts units calls steps shown old.out.told new.out.told → new.files.told ≡ old.files.told
        → IsTextsPart m hosts line texts text old new
    lines_part part same = texts_run (λ us cs. HasPlayedPart m hosts line us cs old new)
        (inl (of_line (λ n b. HasPart m hosts units calls n b old.out.told new.out.told) part, same))

    module _ (status : ℕ) (file filled : Option JournalFile)
        (ran : HasRecorded m hosts units calls steps shown old.out.told new.out.told status file filled)
        (begun : List H) (begun_same : begun ≡ hosts) (begun_blank : IsBlankFor m begun line.journal file) where
      blank : IsBlankFor m hosts line.journal file
      blank = subst (λ hs. IsBlankFor m hs line.journal file) begun_same begun_blank

      recorded_run : HasRecorded m hosts units calls line.steps line.shows_state old.out.told new.out.told status file filled
      recorded_run = of_line (λ n b. HasRecorded m hosts units calls n b old.out.told new.out.told status file filled) ran

      pub whole_run : AreDistinct (hosts_of m hosts) → IsWritten line.journal filled old.files.told new.files.told
          → IsTextsRun m hosts line texts text (λ us cs. HasPlayed m hosts line us cs old new status)
      whole_run distinct written = texts_run (λ us cs. HasPlayed m hosts line us cs old new status) (record {
        run = recorded_run.run;
        written = is_journaled m hosts line.journal file filled recorded_run.run.asks old.files.told new.files.told distinct blank
            recorded_run.filled_is written;
      })

      pub journal_part : IsWrittenPart line.journal filled old.files.told new.files.told → IsTextsPart m hosts line texts text old new
      journal_part part =
          let run = recorded_run.run in
          let (name, named, begun) = is_part m hosts line.journal file filled run.asks old.files.told new.files.told recorded_run.filled_is
          blank part in
          texts_run (λ us cs. HasPlayedPart m hosts line us cs old new)
          (inr (record { status = status; run = run; name = name; named = named; begun = begun }))

  -- the texts come to no task
  pub texts_stop : IsUntouched old new → (why : Reason) (made : List H) → made ≡ hosts
      → StopsTexts line (symbols_of (hosts_of m made)) texts text why → StopsRun m hosts line texts text old new why
  texts_stop untouched why made same given =
      by why (subst (λ hs. StopsTexts line (symbols_of (hosts_of m hs)) texts text why) same given)
    where
      by : (why : Reason) → StopsTexts line (symbols_of (hosts_of m hosts)) texts text why → StopsRun m hosts line texts text old new why
      by (Refused file cause) stop = (stop, untouched)
      by (CallsLine number) stop = (stop, untouched)
      by WantOfMemory stop = inl untouched
      by _ stop = absurd stop
