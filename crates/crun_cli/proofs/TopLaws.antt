-- What the top call says, from why its work stopped or what it came to.
use Rattle.crun_cli.proofs.Common.{◌≡◌, ℕ, ◌≤◌, ◌⊎◌, List, Some, None, Option, MatchOption, sym, refl, ap, ◌∙◌, subst, inl, inr, arith}
use Rattle.crun_cli.proofs.Common.{Rose, Contents, Name, Tells, SymbolCall, hosts_of, HostModule, RunLine, line_of, runs, AllRead, Held}
use Rattle.crun_cli.proofs.Common.{IsJournalReading, JournalReading, IsTextsJob, Job, Run, Stops, Write, Reason, Refused, Unread, Unwritten}
use Rattle.crun_cli.proofs.Common.{Usage, WantOfMemory, status_of, RunsAgain, Begun, BegunIfAny, By_refusal, By_run, By_unit, Finished}
use Rattle.crun_cli.proofs.Common.{HasAnswer, HasPlayed, IsAnswered, IsJobWith, IsRunStatus, IsUnread, IsUnwritten, Refuses, StopsWork}
use Rattle.crun_cli.proofs.Common.{IsToRead, IsUnitFile, IsLineJob, IsReplayJob, IsRunJob, symbols_of, IsUntouched, Outside}
use Rattle.c_tree.specs.Tree as tree
use Rattle.crun_cli.proofs.AgainLaws.{runs_again}
use Rattle.crun_cli.proofs.OneJob.{one_job}
use Rattle.crun_cli.proofs.Passing.{with_so}

abbrev IsStatus : ℕ → Reason → Type 0
IsStatus status why = (status ≡ status_of why) ⊎ (status ≡ 5)

stop_range : (why : Reason) → (2 ≤ status_of why) × (status_of why ≤ 6)
stop_range Usage = (omega arith, omega arith)
stop_range _ = (omega arith, omega arith)

-- it is no status of a run
pub stop_apart : (status : ℕ) (why : Reason) → IsStatus status why → IsRunStatus status → ⊥
stop_apart status why is run = let range = stop_range why in omega (arith, is, run, range.0, range.1)

pub stop_bound : (status : ℕ) (why : Reason) → IsStatus status why → status ≤ 8
stop_bound status why is = let range = stop_range why in omega (arith, is, range.1)

-- a status of a run is none of the others
module _ (status : ℕ) (run : IsRunStatus status) where
  pub no_refusal : (status ≡ 2) ⊎ (status ≡ 6) → ⊥
  no_refusal came = omega (arith, run, came)

  pub no_early_stop : (status ≡ 2) ⊎ (status ≡ 3) ⊎ (status ≡ 6) → ⊥
  no_early_stop came = omega (arith, run, came)

  pub no_fault : (status ≡ 3) ⊎ (status ≡ 4) ⊎ (status ≡ 5) → ⊥
  no_fault came = omega (arith, run, came)

  pub run_bound : status ≤ 8
  run_bound = omega (arith, run)

-- the reason of a status that has one
pub of_status_3 : (why : Reason) → status_of why ≡ 3 → (file : Name) × (why ≡ Unread file)
of_status_3 (Unread file) is = (file, refl)
of_status_3 _ is = absurd (omega (arith, is))

pub of_status_4 : (why : Reason) → status_of why ≡ 4 → why ≡ Unwritten
of_status_4 Unwritten is = refl
of_status_4 _ is = absurd (omega (arith, is))

-- a line of the run form asks for no unit
pub written_by_no_run : {H : Type 0} (hm : HostModule H) (hosts : List H) (words : List Name) (m : Contents) (line : RunLine)
    (output : Name) (unit : List tree.Item) → line_of words ≡ Some (runs line) → IsJobWith hm hosts words m (Write output unit) → ⊥
written_by_no_run hm hosts words m line output unit is job = of_line (rw is at job)
  where
    of_texts : (texts : List (List ℕ)) (text : List ℕ) (o : Option Name)
        → MatchOption o (IsTextsJob line (symbols_of (hosts_of hm hosts)) texts text (Write output unit))
        (λ name. (reading : JournalReading) × IsJournalReading m name reading
        × IsReplayJob line name texts text reading (Write output unit)) → ⊥
    of_texts texts text None of = of
    of_texts texts text (Some name) (Held t, is, inl (j, is_j, of)) = of
    of_texts texts text (Some name) (Held t, is, inr (k, refused, of)) = cc
    of_texts texts text (Some name) (_, is, of) = cc

    of_line : IsRunJob line (hosts_of hm hosts) m (Write output unit) → ⊥
    of_line (AllRead texts text, is, of) = of_texts texts text line.replayed of
    of_line (_, is, of) = cc

module _ {H : Type 0} (hm : HostModule H) (hosts : List H) (words : List Name) where
  abbrev Asks : Contents → Job → Type 0
  Asks m job = IsJobWith hm hosts words m job

  abbrev Answered : Contents → ℕ → Type 0
  Answered m status = IsAnswered hm hosts words m status

  same_job : (m : Contents) (a b : Job) → Asks m a → Asks m b → a ≡ b
  same_job m a b first second = one_job words (hosts_of hm hosts) m a b first second

  -- a job that is refused is no run, and writes no unit
  no_run : (m : Contents) (units : List (List tree.Item)) (calls : List SymbolCall) (steps : ℕ) (shown : _) (why : Reason)
      → Asks m (Run units calls steps shown) → Asks m (Stops why) → ⊥
  no_run m units calls steps shown why job refused =
      (let apart : Run units calls steps shown ≡ Stops why = same_job m (Run units calls steps shown) (Stops why) job refused in cc)

  no_unit : (m : Contents) (output : Name) (unit : List tree.Item) (why : Reason) → Asks m (Write output unit) → Asks m (Stops why) → ⊥
  no_unit m output unit why job refused =
      (let apart : Write output unit ≡ Stops why = same_job m (Write output unit) (Stops why) job refused in cc)

  -- the job of words without a reading
  pub usage_job : (m : Contents) → line_of words ≡ None → Asks m (Stops Usage)
  usage_job m none =
      subst (λ o. MatchOption o (Stops Usage ≡ Stops Usage) (λ l. IsLineJob (hosts_of hm hosts) m l (Stops Usage))) (sym none) refl

  -- ---- the work is done

  pub done_complete : (m : Contents) (old new : Outside) (status : ℕ) → Finished hm hosts words m old new status
      → (status ≡ 5) ⊎ Answered m status
  done_complete m old new status (inl (line, units, calls, is, job, with)) =
      let answers = with_so hm hosts line.replayed (IsJournalReading m) (λ K k ks. HasPlayed k ks line units calls old new status)
      (λ K k ks. HasAnswer K k ks line units calls status)
      (λ K k ks played. (played.run.asks, played.run.after, played.run.answered, played.run.told, played.run.has_status)) with in
      inr (By_run (line, units, calls, is, job, answers))
  done_complete m old new status (inr (zero, wrote)) = inr (By_unit wrote.output wrote.unit wrote.job zero)

  -- a run whose journal was written is replayed
  pub done_again : (m left : Contents) (old new : Outside) (status : ℕ) → old.files.told ≡ Some m → new.files.told ≡ Some left
      → Finished hm hosts words m old new status → RunsAgain hm words m left old new status
  done_again m left old new status told told' (inl ran) = runs_again hm hosts words m left old new status told told' ran
  done_again m left old new status told told' (inr (zero, wrote)) = λ line again words' m' hosts' text is is' same r.
      absurd (written_by_no_run hm hosts words m line wrote.output wrote.unit is wrote.job)

  -- what is done or begun is no job that is refused
  pub done_apart : (m : Contents) (old new : Outside) (status : ℕ) (why : Reason) → Finished hm hosts words m old new status
      → Asks m (Stops why) → ⊥
  done_apart m old new status why (inl (line, units, calls, is, job, with)) refused =
      no_run m units calls line.steps line.shows_state why job refused
  done_apart m old new status why (inr (zero, wrote)) refused = no_unit m wrote.output wrote.unit why wrote.job refused

  pub begun_apart : (m : Contents) (old new : Outside) (why : Reason) → Begun hm hosts words m old new → Asks m (Stops why) → ⊥
  begun_apart m old new why (inl (line, units, calls, is, job, with)) refused =
      no_run m units calls line.steps line.shows_state why job refused
  begun_apart m old new why (inr wrote) refused = no_unit m wrote.output wrote.unit why wrote.job refused

  -- a job that is refused decides, whatever answers
  pub decided : (m : Contents) (status : ℕ) (why : Reason) → Answered m status → Asks m (Stops why) → status ≡ status_of why
  decided m status why (By_refusal first job is) refused =
      let both : Stops first ≡ Stops why = same_job m (Stops first) (Stops why) job refused in
      let same : first ≡ why = cc in
      is ∙ ap status_of same
  decided m status why (By_unit output unit job is) refused = absurd (no_unit m output unit why job refused)
  decided m status why (By_run (line, units, calls, is, job, with)) refused = absurd
      (no_run m units calls line.steps line.shows_state why job refused)

  -- ---- the work stops

  module _ (old new : Outside) where
    abbrev Stopped : Reason → Type 0
    Stopped why = StopsWork hm hosts words old new why

    unread_answer : (m : Contents) (file : Name) (status : ℕ) → IsUnread hm hosts words old new file → status ≡ 3
        → old.files.told ≡ Some m → (Rose old.files.read_faults new.files.read_faults → ⊥) → Answered m status
    unread_answer m file status unread is tells read = elim unread.cause [
      | inl faulted ↦ absurd (read faulted.rose)
      | inr (contents, is_told, job) ↦
          let same : contents ≡ m = (let both = sym is_told ∙ tells in cc) in
          By_refusal (Unread file) (subst (λ c. Asks c (Stops (Unread file))) same job) is
    ]

    unwritten_apart : (Rose old.files.write_faults new.files.write_faults → ⊥) → (Rose old.out.faults new.out.faults → ⊥)
        → IsUnwritten words old new → ⊥
    unwritten_apart files out (inl rose) = out rose
    unwritten_apart files out (inr (file, named, faulted)) = files faulted.rose

    -- a refusal is the first, and of words without a reading it is a bad command line
    refused_job : (why : Reason) → Refuses hm hosts words old.files.told why → Tells old.files.told (λ m. Asks m (Stops why))
    refused_job Usage none = λ m tells. usage_job m none
    refused_job (Unread file) refuses = absurd refuses
    refused_job Unwritten refuses = absurd refuses
    refused_job WantOfMemory refuses = absurd refuses
    refused_job _ refuses = refuses.1

    module _ (why : Reason) (status : ℕ) (stop : Stopped why) (is : IsStatus status why) where
      -- the answer is that to the job, where no reading fails, unless something is not written or memory was wanting
      answer : (m : Contents) → old.files.told ≡ Some m → (Rose old.files.read_faults new.files.read_faults → ⊥)
          → Stopped Unwritten ⊎ (status ≡ 5) ⊎ Answered m status
      answer m tells read = elim is [ inl same ↦ by why stop same | inr five ↦ inr (inl five) ]
        where
          by : (why : Reason) → Stopped why → status ≡ status_of why → Stopped Unwritten ⊎ (status ≡ 5) ⊎ Answered m status
          by Unwritten stop is = inl stop
          by WantOfMemory stop is = inr (inl is)
          by (Unread file) stop is = inr (inr (unread_answer m file status stop.0 is tells read))
          by other stop is = inr (inr (By_refusal other (refused_job other stop.0 m tells) is))

      pub stop_complete : Tells old.files.told (λ m. (Rose old.files.read_faults new.files.read_faults → ⊥)
          → (Rose old.files.write_faults new.files.write_faults → ⊥) → (Rose old.out.faults new.out.faults → ⊥)
          → (status ≡ 5) ⊎ Answered m status)
      stop_complete m tells read write out =
          elim (answer m tells read) [ inl unwritten ↦ absurd (unwritten_apart write out unwritten.0) | inr came ↦ came ]

      -- a job that is refused is answered so, where no file failed
      pub stop_always : Tells old.files.told (λ m. (Rose old.files.read_faults new.files.read_faults → ⊥)
          → (first : Reason) → Asks m (Stops first) → (status ≡ status_of first) ⊎ (status ≡ 5))
      stop_always m tells read first refused = elim (answer m tells read) [
        | inl unwritten ↦ absurd (begun_apart m old new first (unwritten.2 m tells) refused)
        | inr (inl five) ↦ inr five
        | inr (inr of) ↦ inl (decided m status first of refused)
      ]

      pub stop_usage : line_of words ≡ None → (status ≡ 2) ⊎ (status ≡ 5)
      stop_usage none = by why stop is
        where
          by : (why : Reason) → Stopped why → IsStatus status why → (status ≡ 2) ⊎ (status ≡ 5)
          by (Refused file cause) stop is = absurd (subst (IsUnitFile file) none stop.0.0)
          by (Unread file) stop is = absurd (subst (IsToRead file) none stop.0.to_read)
          by Unwritten stop is = absurd (stop.1 none)
          by WantOfMemory stop (inl five) = inr five
          by WantOfMemory stop (inr five) = inr five
          by _ stop is = is

      pub stop_untouched : (status ≡ 2) ⊎ (status ≡ 3) ⊎ (status ≡ 6) → IsUntouched old new
      stop_untouched came = by why stop is
        where
          by : (why : Reason) → Stopped why → IsStatus status why → IsUntouched old new
          by Unwritten stop is = absurd (omega (arith, is, came))
          by WantOfMemory stop is = absurd (omega (arith, is, came))
          by _ stop is = stop.1

      -- ---- the line says so

      module _ (Says : Reason → Type 0) (says : Says why ⊎ (status ≡ 5)) where
        -- a status that is not want of memory's is the reason's, and its line was said
        said : (status ≡ 5 → ⊥) → (status_of why ≡ status) × Says why
        said apart = by is says
          where
            by : IsStatus status why → Says why ⊎ (status ≡ 5) → (status_of why ≡ status) × Says why
            by (inl same) (inl line) = (sym same, line)
            by (inl same) (inr five) = absurd (apart five)
            by (inr five) line = absurd (apart five)

        pub refused_line : (status ≡ 2) ⊎ (status ≡ 6)
            → (first : Reason) × (status_of first ≡ status) × Refuses hm hosts words old.files.told first × Says first
        refused_line came = let (of, line) = said (λ five. omega (arith, five, came)) in by why stop of line
          where
            by : (why : Reason) → Stopped why → status_of why ≡ status → Says why
                → (first : Reason) × (status_of first ≡ status) × Refuses hm hosts words old.files.told first × Says first
            by (Unread file) stop of line = absurd (omega (arith, of, came))
            by Unwritten stop of line = absurd (omega (arith, of, came))
            by WantOfMemory stop of line = absurd (omega (arith, of, came))
            by other stop of line = (other, of, stop.0, line)

        -- a file is not read
        pub read_fault : status ≡ 3 → (file : Name) × IsUnread hm hosts words old new file × Says (Unread file)
        read_fault three = let (of, line) = said (λ five. omega (arith, five, three)) in by why stop of line
          where
            by : (why : Reason) → Stopped why → status_of why ≡ status → Says why
                → (file : Name) × IsUnread hm hosts words old new file × Says (Unread file)
            by (Unread file) stop of line = (file, stop.0, line)
            by _ stop of line = absurd (omega (arith, of, three))

        pub write_fault : status ≡ 4
            → IsUnwritten words old new × Tells old.files.told (λ m. Begun hm hosts words m old new) × Says Unwritten
        write_fault four = let (of, line) = said (λ five. omega (arith, five, four)) in by why stop of line
          where
            by : (why : Reason) → Stopped why → status_of why ≡ status → Says why
                → IsUnwritten words old new × Tells old.files.told (λ m. Begun hm hosts words m old new) × Says Unwritten
            by Unwritten stop of line = (stop.0, stop.2, line)
            by _ stop of line = absurd (omega (arith, of, four))

    pub stop_part : (why : Reason) → Stopped why → Tells old.files.told (λ m. BegunIfAny hm hosts words m old new)
    stop_part Unwritten stop m tells = inr (stop.2 m tells)
    stop_part WantOfMemory stop m tells = stop m tells
    stop_part _ stop m tells = inl stop.1
