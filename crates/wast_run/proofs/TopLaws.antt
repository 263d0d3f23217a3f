-- What the work's stop means for the status, and for what stands.
use Rattle.wast_run.proofs.Common.{◌≡◌, ℕ, ◌≤◌, Bool, true, false, ◌≢◌, ◌⊎◌, List, [], ◌∷◌, ◌++◌, length, if◌then◌else◌, ◌==◌, Some, None}
use Rattle.wast_run.proofs.Common.{Option, MatchOption, sym, refl, ◌∙◌, subst, inl, inr, append-nil, arith, same_Some, get, AllByRecursion}
use Rattle.wast_run.proofs.Common.{Rose, Contents, Name, Tells, none_written, prefix_of_itself, line_of, Command, Reason, Refused, Unread}
use Rattle.wast_run.proofs.Common.{Unwritten, Usage, WantOfMemory, fault_status, status_of, ScriptFault, Answers, GainedPart, GainsPrefix}
use Rattle.wast_run.proofs.Common.{IsAnswered, IsJob, IsJobBehind, IsUnread, Refuses, Reported, ReportedPart, Reports, Stops}
use Rattle.wast_run.proofs.Common.{GainsLinesBefore, HasItsFile, IsFirstMissing, IsNamed, IsPart, file_of, LeadInTime, Setting, at_first}
use Rattle.wast_run.proofs.Common.{ok_count, report_of, StopsWork, Word, GivesFirst}
use Rattle.w2c_io.specs.declared.files.Files.{Ghosts as Files}
use Rattle.w2c_io.specs.declared.sink.Sink.{Ghosts as Sink}
use Rattle.wast_script.specs.declared.fault.ScriptFault.TheVariants as fault
use Rattle.wast_run.proofs.JobLaws.{AreApart, IsOneScript, job_apart, one_list, one_status}
use Rattle.wast_run.proofs.PartLaws.{lead_plain, lead_there, part_before, there_at}
use Rattle.wast_run.proofs.OneReport.{part_is_prefix}

-- the whole report is a part of it
pub whole_part : (m : Contents) (steps : ℕ) (commands : List Command) (all : List Word) (after : Setting)
    → LeadInTime m steps at_first commands all after → IsPart m steps commands (report_of all)
whole_part m steps commands all after lead = record {
  front = commands;
  rest = [];
  split = sym (append-nil commands);
  words = all;
  after = after;
  lead = lead;
  prefix = prefix_of_itself (report_of all);
}

zero_or_one : (b : Bool) (status : ℕ) → status ≡ (if b then 0 else 1) → (status ≡ 0) ⊎ (status ≡ 1) ⊎ (status ≡ 5)
zero_or_one true status is = inl is
zero_or_one false status is = inr (inl is)

between : (n : ℕ) → 2 ≤ n → n ≤ 5 → (2 ≤ n) × (n ≤ 5)
between n low high = (low, high)

pub status_between : (why : Reason) → (2 ≤ status_of why) × (status_of why ≤ 5)
status_between Usage = between 2 (omega arith) (omega arith)
status_between (Refused fault.Memory) = between 5 (omega arith) (omega arith)
status_between (Refused _) = between 2 (omega arith) (omega arith)
status_between (Unread file) = between 3 (omega arith) (omega arith)
status_between Unwritten = between 4 (omega arith) (omega arith)
status_between WantOfMemory = between 5 (omega arith) (omega arith)

pub fault_not_3 : (why : ScriptFault) → fault_status why ≢ 3
fault_not_3 fault.Memory e = omega (arith, e)
fault_not_3 _ e = omega (arith, e)

pub fault_not_4 : (why : ScriptFault) → fault_status why ≢ 4
fault_not_4 fault.Memory e = omega (arith, e)
fault_not_4 _ e = omega (arith, e)

-- the status that is reported: that of the reason, or want of memory
abbrev pub Ends : Reason → ℕ → Type 0
Ends why status = (status ≡ status_of why) ⊎ (status ≡ 5)

-- a stop's status is no report's
pub no_report : (why : Reason) (status : ℕ) → Ends why status → (status ≡ 0) ⊎ (status ≡ 1) → ⊥
no_report why status ends came = omega (arith, ends, came, (status_between why).0)

pub status_small : (why : Reason) (status : ℕ) → Ends why status → status ≤ 5
status_small why status ends = omega (arith, ends, (status_between why).1)

-- a status that is not want of memory's is the reason's, and its line was said
ends_so : (why : Reason) (S : Type 0) (status wanted : ℕ) → Ends why status → S ⊎ (status ≡ 5) → status ≡ wanted → wanted ≤ 4
    → (status_of why ≡ wanted) × S
ends_so why S status wanted (inl is) (inl says) e few = (sym is ∙ e, says)
ends_so why S status wanted (inr five) says e few = absurd (omega (arith, five, e, few))
ends_so why S status wanted is (inr five) e few = absurd (omega (arith, five, e, few))

-- words without a reading
pub job_of_usage : (words : List Name) (m : Contents) → line_of words ≡ None → IsJob words m (Stops Usage)
job_of_usage words m none =
    subst (λ o. MatchOption o (Stops Usage ≡ Stops Usage) (λ line. IsJobBehind line (get m line.script) (Stops Usage))) (sym none) refl

module _ {F O : Type 0} (words : List Name) (files : Files F) (out : Sink O) (x y : F) (u v : O) where
  abbrev Gives : Name → List ℕ → Type 0
  Gives = GivesFirst (files.told x) (files.trace x) (files.trace y)

  abbrev pub Stopped : Reason → Type 0
  Stopped why = StopsWork words (files.told x) Gives (files.read_faults x) (files.read_faults y) (files.fault_name y) (out.told u)
      (out.told v) (out.faults u) (out.faults v) why

  abbrev NotRead : Name → Type 0
  NotRead file = IsUnread words (files.told x) Gives (files.read_faults x) (files.read_faults y) (files.fault_name y) file

  -- whatever stops it, the stream has gained a part
  pub stop_part : (why : Reason) → Stopped why → Tells (files.told x) (λ m. GainedPart words m (out.told u) (out.told v))
  stop_part (Unread file) stop = stop.1
  stop_part Unwritten stop = λ m tells. inr (stop.2 m tells)
  stop_part WantOfMemory stop = stop
  stop_part _ stop = λ m tells. inl stop.1

  module _ (why : Reason) (status : ℕ) (stop : Stopped why) (ends : Ends why status) where
    pub stop_refused : (S : Reason → Type 0) → S why ⊎ (status ≡ 5) → status ≡ 2
        → (why : Reason) × (status_of why ≡ 2) × Refuses words (files.told x) why × S why
    stop_refused S says two =
        let (is, line) = ends_so why (S why) status 2 ends says two (omega arith) in by why stop is line
      where
        by : (why : Reason) → Stopped why → status_of why ≡ 2 → S why
            → (why : Reason) × (status_of why ≡ 2) × Refuses words (files.told x) why × S why
        by Usage stop is says = (Usage, is, stop.0, says)
        by (Refused why) stop is says = (Refused why, is, stop.0, says)
        by _ stop is says = absurd (omega (arith, is))

    pub stop_unread : (S : Reason → Type 0) → S why ⊎ (status ≡ 5) → status ≡ 3
        → (file : Name) × NotRead file × S (Unread file)
    stop_unread S says three =
        let (is, line) = ends_so why (S why) status 3 ends says three (omega arith) in by why stop is line
      where
        by : (why : Reason) → Stopped why → status_of why ≡ 3 → S why
            → (file : Name) × NotRead file × S (Unread file)
        by (Refused why) stop is says = absurd (fault_not_3 why is)
        by (Unread file) stop is says = (file, stop.0, says)
        by _ stop is says = absurd (omega (arith, is))

    pub stop_unwritten : (S : Reason → Type 0) → S why ⊎ (status ≡ 5) → status ≡ 4
        → Rose (out.faults u) (out.faults v) × Tells (files.told x) (λ m. ReportedPart words m (out.told u) (out.told v)) × S Unwritten
    stop_unwritten S says four =
        let (is, line) = ends_so why (S why) status 4 ends says four (omega arith) in by why stop is line
      where
        by : (why : Reason) → Stopped why → status_of why ≡ 4 → S why
            → Rose (out.faults u) (out.faults v) × Tells (files.told x) (λ m. ReportedPart words m (out.told u) (out.told v)) × S Unwritten
        by (Refused why) stop is says = absurd (fault_not_4 why is)
        by Unwritten stop is says = (stop.0, stop.2, says)
        by _ stop is says = absurd (omega (arith, is))

    pub stop_silent : status ≡ 2 → out.told v ≡ out.told u
    stop_silent two = by why stop (ends_so why (Unit {0}) status 2 ends (inl tt) two (omega arith)).0
      where
        by : (why : Reason) → Stopped why → status_of why ≡ 2 → out.told v ≡ out.told u
        by Usage stop is = stop.1
        by (Refused why) stop is = stop.1
        by _ stop is = absurd (omega (arith, is))

    -- words without a reading
    pub stop_usage : line_of words ≡ None → (status ≡ 2) ⊎ (status ≡ 5)
    stop_usage none = by why stop ends
      where
        by : (why : Reason) → Stopped why → Ends why status → (status ≡ 2) ⊎ (status ≡ 5)
        by Usage stop ends = ends
        by (Refused why) stop ends = absurd (stop.0.0 none)
        by (Unread file) stop ends = absurd (rw none at stop.0.0)
        by Unwritten stop ends = absurd (stop.1 none)
        by WantOfMemory stop ends = elim ends [ inl is ↦ inr is | inr is ↦ inr is ]

    -- the answer is that to the job, unless a line was not written or memory was wanting
    answered : (m : Contents) → files.told x ≡ Some m → (Rose (files.read_faults x) (files.read_faults y) → ⊥)
        → Stopped Unwritten ⊎ (status ≡ 5) ⊎ IsAnswered words m status
    answered m tells no_read = elim ends [ inl is ↦ by why stop is | inr five ↦ inr (inl five) ]
      where
        by : (why : Reason) → Stopped why → status ≡ status_of why → Stopped Unwritten ⊎ (status ≡ 5) ⊎ IsAnswered words m status
        by Usage stop is = inr (inr (Stops Usage, job_of_usage words m stop.0, is))
        by (Refused why) stop is = inr (inr (Stops (Refused why), stop.0.1 m tells, is))
        by (Unread file) ((to_read, inl faulted), part) is = absurd (no_read faulted.rose)
        by (Unread file) ((to_read, inr (n, tells_n, inl job)), part) is =
            let same : n ≡ m = same_Some n m (sym tells_n ∙ tells) in
            inr (inr (Stops (Unread file), subst (λ m. IsJob words m (Stops (Unread file))) same job, is))
        by (Unread file) ((to_read, inr (n, tells_n, inr (steps, commands, job, missing))), part) is =
            let same : n ≡ m = same_Some n m (sym tells_n ∙ tells) in
            inr (inr (
              Reports steps commands,
              subst (λ m. IsJob words m (Reports steps commands)) same job,
              inl (file, subst (λ m. IsFirstMissing m commands file) same missing, is),
            ))
        by Unwritten stop is = inl stop
        by WantOfMemory stop is = inr (inl is)

    pub stop_complete : Tells (files.told x) (λ m. (Rose (files.read_faults x) (files.read_faults y) → ⊥)
        → (Rose (out.faults u) (out.faults v) → ⊥) → (status ≡ 5) ⊎ IsAnswered words m status)
    stop_complete m tells no_read no_write = elim (answered m tells no_read) [
      | inl unwritten ↦ absurd (no_write unwritten.0)
      | inr came ↦ came
    ]

    pub stop_always : AreApart → Tells (files.told x) (λ m. (Rose (files.read_faults x) (files.read_faults y) → ⊥) → (other : Reason)
        → IsJob words m (Stops other) → (status ≡ status_of other) ⊎ (status ≡ 5))
    stop_always apart m tells no_read other other_job = by (answered m tells no_read)
      where
        by : Stopped Unwritten ⊎ (status ≡ 5) ⊎ IsAnswered words m status → (status ≡ status_of other) ⊎ (status ≡ 5)
        by (inl unwritten) = let p = unwritten.2 m tells in absurd (job_apart apart words m p.0 p.1 other p.2 other_job)
        by (inr (inl five)) = inr five
        by (inr (inr (Stops first, job, is))) = inl (is ∙ one_status words m first other job other_job)
        by (inr (inr (Reports steps commands, job, answers))) = absurd (job_apart apart words m steps commands other job other_job)

-- ---- what `out` has gained

module _ (words : List Name) (m : Contents) (old new : Option (List ℕ)) where
  pub nothing_gained : AreApart → (why : Reason) → IsJob words m (Stops why) → GainedPart words m old new → new ≡ old
  nothing_gained apart why job (inl same) = same
  nothing_gained apart why job (inr (steps, commands, asked, gained)) = absurd (job_apart apart words m steps commands why asked job)

  pub none_reported : AreApart → (status : ℕ) (why : Reason) → IsJob words m (Stops why) → Reported words m old new status → ⊥
  none_reported apart status why job (steps, commands, asked, gained) = job_apart apart words m steps commands why asked job

  pub report_complete : (status : ℕ) → Reported words m old new status → (status ≡ 5) ⊎ IsAnswered words m status
  report_complete status (steps, commands, asked, (all, (after, lead), gained, is)) =
      inr (Reports steps commands, asked, inr (all, (after, lead_plain m steps at_first commands all after lead), is))

  module _ (one : IsOneScript) (steps : ℕ) (before behind : List Command) (command : Command) (file : Name)
      (job : IsJob words m (Reports steps (before ++ command ∷ behind))) (names : file_of command ≡ Some file)
      (missing : get m file ≡ None) where
    pub gained_before : GainedPart words m old new → GainsLinesBefore m steps before old new
    gained_before (inl same) = (
      [],
      record { front = []; rest = before; split = refl; words = []; after = at_first; lead = (refl, refl); prefix = prefix_of_itself [] },
      same ∙ none_written old,
    )
    gained_before (inr (others, commands, asked, (text, part, gained))) =
        let same = one_list one words m others steps commands (before ++ command ∷ behind) asked job in
        let here = subst (λ s. IsPart m s (before ++ command ∷ behind) text) same.0 (subst (λ cs. IsPart m others cs text) same.1 part) in
        (text, part_before m steps before behind command file text names missing here, gained)

    pub not_reported : (status : ℕ) → Reported words m old new status → ⊥
    not_reported status (others, commands, asked, (all, (after, lead), gained, is)) =
        let same = one_list one words m others steps commands (before ++ command ∷ behind) asked job in
        let there = lead_there m others at_first commands all after (lead_plain m others at_first commands all after lead) in
        there_at m before behind command (subst (AllByRecursion (HasItsFile m)) same.1 there) file names missing

-- ---- a script whose files are all there, and one of which a file is not there

module _ (apart : AreApart) (one : IsOneScript) (words : List Name) (m : Contents) (steps : ℕ) (commands : List Command)
    (job : IsJob words m (Reports steps commands)) where
  -- the answer to the job is that to these commands
  answer_to : (status : ℕ) → (status ≡ 5) ⊎ IsAnswered words m status → (status ≡ 5) ⊎ Answers m (Reports steps commands) status
  answer_to status (inl five) = inl five
  answer_to status (inr (Stops why, other, answers)) = absurd (job_apart apart words m steps commands why job other)
  answer_to status (inr (Reports others asked, other, answers)) =
      let same = one_list one words m others steps asked commands other job in
      inr (subst (λ steps. Answers m (Reports steps commands) status) same.0 (rw same.1 at answers))

  pub reported_always : (status : ℕ) → AllByRecursion (HasItsFile m) commands → (status ≡ 5) ⊎ IsAnswered words m status
      → (status ≡ 0) ⊎ (status ≡ 1) ⊎ (status ≡ 5)
  reported_always status there came = elim (answer_to status came) [
    | inl five ↦ inr (inr five)
    | inr (inl (file, first, is)) ↦
        absurd (there_at m first.front first.rest first.command (subst (AllByRecursion (HasItsFile m)) first.split there)
        file first.names first.missing)
    | inr (inr (all, are, is)) ↦ zero_or_one (ok_count all == length all) status is
  ]

  pub missing_always : (status : ℕ) (file : Name) → IsNamed commands file → get m file ≡ None
      → (status ≡ 5) ⊎ IsAnswered words m status → (status ≡ 3) ⊎ (status ≡ 5)
  missing_always status file named missing came = by (answer_to status came)
    where
      by : (status ≡ 5) ⊎ Answers m (Reports steps commands) status → (status ≡ 3) ⊎ (status ≡ 5)
      by (inl five) = inr five
      by (inr (inl (other, first, is))) = inl is
      by (inr (inr (all, (after, lead), is))) =
          let there = lead_there m steps at_first commands all after lead in
          absurd (there_at m named.front named.rest named.command (subst (AllByRecursion (HasItsFile m)) named.split there)
          file named.names missing)

-- ---- the report

module _ (one : IsOneScript) (words : List Name) (m : Contents) (old new : Option (List ℕ)) where
  pub part_gains : GainedPart words m old new → GainsPrefix words m old new
  part_gains (inl same) steps commands all job are = ([], (report_of all, refl), same ∙ none_written old)
  part_gains (inr (others, asked, other, (text, part, gained))) steps commands all job are =
      let same = one_list one words m others steps asked commands other job in
      let here = rw same.0 at (subst (λ commands. IsPart m others commands text) same.1 part) in
      (text, part_is_prefix m steps commands all text are here, gained)

  pub report_gains : (status : ℕ) → Reported words m old new status → GainsPrefix words m old new
  report_gains status (others, asked, other, (whole, (behind, in_time), gained, is)) =
      part_gains (inr (others, asked, other, (report_of whole, whole_part m others asked whole behind in_time, gained)))
