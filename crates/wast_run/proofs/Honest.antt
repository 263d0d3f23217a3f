-- Where the files behave as files, what passes through them says what they hold.
use Rattle.wast_run.proofs.Common.{◌≡◌, ℕ, ◌≤◌, Bool, true, false, ◌⊎◌, List, [], ◌∷◌, ◌++◌, length, if◌then◌else◌, ◌==◌, Some, None, Ok}
use Rattle.wast_run.proofs.Common.{Err, Option, MatchOption, sym, refl, ap, ◌∙◌, subst, inl, inr, arith, same_Some, get, AllByRecursion}
use Rattle.wast_run.proofs.Common.{Contents, IsPrefix, Name, Told, Event, Read, Says, most_module_bytes, FileVerdict, Line, line_of}
use Rattle.wast_run.proofs.Common.{Command, Reason, Refused, Unread, Unwritten, Usage, WantOfMemory, error_line, status_of}
use Rattle.wast_run.proofs.Common.{most_script_bytes, GainedPart, GainsPrefix, IsAnswered, IsJob, IsJobBehind, IsNotThere, Job}
use Rattle.wast_run.proofs.Common.{Refuses, Reported, ReportedPart, Reports, Stops, GainsLinesBefore, HasItsFile, IsFirstMissing, IsNamed}
use Rattle.wast_run.proofs.Common.{IsPart, file_of, lines_before, Answer, ComesOver, DoesJob, DoesLine, Ending, EndsSo, IsGiven, IsJobBy}
use Rattle.wast_run.proofs.Common.{IsNoFile, IsReadAs, IsStatusOf, LastLines, LastReads, LeadOver, PassesFor, ReadsNext, ReportsOver}
use Rattle.wast_run.proofs.Common.{StopsIn, WantsMemory, module_read, script_read, Comes, IsFile, LeadInTime, Setting, at_first, ok_count}
use Rattle.wast_run.proofs.Common.{report_of, Word}
use Rattle.w2c_io.specs.Honest.{AreHonest, Does}
use Rattle.w2c_io.specs.declared.answers.ReadAnswer.TheVariants as reading
use Rattle.w2c_files.specs.Passing.{FailsLast}
use Rattle.w2c_files.proofs.Honest.{honest_both, read_keeps, fails_behind}
use Rattle.wast_script.specs.declared.fault.ScriptFault.TheVariants as fault
use Rattle.wast_script.specs.Commands as script
use Rattle.wast_run.proofs.PartLaws.{lead_plain, lead_there}
use Rattle.wast_run.proofs.JobLaws.{AreApart, IsOneScript, job_apart, no_report_stops, one_status}
use Rattle.wast_run.proofs.TopLaws.{fault_not_3, fault_not_4, gained_before, job_of_usage, missing_always, no_report, nothing_gained}
use Rattle.wast_run.proofs.TopLaws.{part_gains, reported_always, whole_part}
use Rattle.wast_run.proofs.WordLines.{lines_in_front}
use Rattle.wast_run.proofs.WorkLaws.{has_reading, job_by_line, job_of_text}

-- ---- calls one behind another

-- the verdict on what a read gave is that on the file
given_file : (m : Contents) (name : Name) (answer : Answer) (verdict : Option FileVerdict) (current : Option Name) (told : Told)
    (after : Option Name) → IsGiven answer verdict → Does (Read name most_module_bytes answer) (Some m) current told after
    → IsFile m name verdict
given_file m name (Ok bytes) verdict current told after given does = (bytes, does.0, given)
given_file m name (Err reading.TooLong) verdict current told after given does =
    subst (IsFile m name) (sym given) (does.0.0, does.0.1, does.0.2)
given_file m name _ verdict current told after given does = absurd given

calls_of : (file : Name) (answer : Answer) (rest : List Command) (events : List Event) → ReadsNext rest file answer events
    → events ≡ module_read file answer
calls_of file answer [] events reads = absurd reads
calls_of file answer (command ∷ rest) events reads = reads.1

-- the files are these, before and behind
module _ (m : Contents) (events : List Event) (current : Option Name) (new : Told) (last : Option Name)
    (honest : AreHonest events (Some m) current new last) where
  none_honest : events ≡ [] → new ≡ Some m
  none_honest none = (rw none at honest).0

  one_honest : (name : Name) (limit : ℕ) (answer : Answer) → events ≡ Read name limit answer ∷ []
      → (told : Told) × (other : Option Name) × Does (Read name limit answer) (Some m) current told other × (new ≡ Some m)
  one_honest name limit answer is =
      let h = subst (λ (l : List Event). AreHonest l (Some m) current new last) is honest in
      (h.0, h.1, h.2, h.3.0 ∙ (read_keeps name limit answer (Some m) h.0 current h.1 h.2).0)

  file_honest : (name : Name) (verdict : Option FileVerdict) → IsReadAs events name verdict → IsFile m name verdict × (new ≡ Some m)
  file_honest name verdict (answer, is, given) =
      let h = one_honest name most_module_bytes answer is in (given_file m name answer verdict current h.0 h.1 given h.2, h.3)

  comes_honest : (steps : ℕ) (at : Setting) (command : Command) (w : Word) (after : Setting)
      → ComesOver events steps at command w after → Comes m steps at command w after × (new ≡ Some m)
  comes_honest steps at (script.Module file) w after (comes, none) =
      let h = file_honest file.filename comes.0 comes.1 in ((comes.0, h.0, comes.2), h.1)
  comes_honest steps at (script.AssertInvalid file) w after (comes, none) =
      let h = file_honest file comes.0 comes.1 in ((comes.0, h.0, comes.2, comes.3), h.1)
  comes_honest steps at (script.AssertMalformed file) w after (comes, none) =
      let h = file_honest file comes.0 comes.1 in ((comes.0, h.0, comes.2, comes.3), h.1)
  comes_honest steps at _ w after (comes, none) = (comes, none_honest (none refl))

  last_keeps : (why : Reason) (rest : List Command) → LastReads why rest events → new ≡ Some m
  last_keeps (Unread file) rest (answer, reads, no_file) =
      (one_honest file most_module_bytes answer (calls_of file answer rest events reads)).3
  last_keeps Unwritten rest none = none_honest none
  last_keeps WantOfMemory rest (inl none) = none_honest none
  last_keeps WantOfMemory rest (inr (file, answer, reads)) =
      (one_honest file most_module_bytes answer (calls_of file answer rest events reads)).3
  last_keeps _ rest reads = absurd reads

lead_honest : (m : Contents) (steps : ℕ) (at : Setting) (commands : List Command) (words : List Word) (after : Setting)
    (events : List Event) (current : Option Name) (new : Told) (last : Option Name)
    → LeadOver steps at commands words after events → AreHonest events (Some m) current new last
    → LeadInTime m steps at commands words after × (new ≡ Some m)
lead_honest m steps at [] words after events current new last lead honest =
    ((lead.0, lead.1), none_honest m events current new last honest lead.2)
lead_honest m steps at (c ∷ commands) words after events current new last (w, others, between, first, rest, comes, lead, is, calls)
    honest =
    let parts = honest_both first rest (Some m) new current last
    (subst (λ (l : List Event). AreHonest l (Some m) current new last) calls honest) in
    let one = comes_honest m first current parts.0 parts.1 parts.2 steps at c w between comes.0 in
    let more = lead_honest m steps between commands others after rest parts.1 new last lead (rw one.1 at parts.3) in
    ((w, others, between, (one.0, comes.1), more.0, is), more.1)

-- ---- a run that stops

prefix_of_lines : (why : Reason) (words : List Word) (rest : List Command) (text : List ℕ) → LastLines why words rest text
    → IsPrefix text (lines_before words rest)
prefix_of_lines (Unread file) words rest text lines =
    let front_is = lines_in_front words rest in (front_is.0, front_is.1 ∙ ap (λ (l : List ℕ). l ++ front_is.0) (sym lines))
prefix_of_lines Unwritten words rest text lines = lines
prefix_of_lines WantOfMemory words rest text lines = lines
prefix_of_lines _ words rest text lines = absurd lines

module _ (m : Contents) where
  module _ (steps : ℕ) (commands : List Command) (old out : Option (List ℕ)) (why : Reason) (events : List Event)
      (current : Option Name) (new : Told) (last : Option Name) (stops : StopsIn steps commands old out why events)
      (honest : AreHonest events (Some m) current new last) where
    abbrev stop_parts : (told : Told) × (name : Option Name) × AreHonest stops.first (Some m) current told name
        × AreHonest stops.last told name new last
    stop_parts = honest_both stops.first stops.last (Some m) new current last (rw stops.calls at honest)

    abbrev stop_lead : LeadInTime m steps at_first stops.front stops.words stops.after × (stop_parts.0 ≡ Some m)
    stop_lead =
        lead_honest m steps at_first stops.front stops.words stops.after stops.first current stop_parts.0 stop_parts.1 stops.lead
        stop_parts.2

    last_honest : AreHonest stops.last (Some m) stop_parts.1 new last
    last_honest = subst (λ (t : Told). AreHonest stops.last t stop_parts.1 new last) stop_lead.1 stop_parts.3

    -- the file that could not be had is not there, or the last call was a read of it that failed
    not_had : (file : Name) (answer : Answer) → IsNoFile answer → stops.last ≡ module_read file answer
        → FailsLast file events ⊎ (get m file ≡ None)
    not_had file (Err reading.Absent) no_file is =
        inr (one_honest m stops.last stop_parts.1 new last last_honest file most_module_bytes (Err reading.Absent) is).2.0
    not_had file (Err reading.Failed) no_file is =
        inl (stops.first, most_module_bytes, stops.calls ∙ ap (λ (l : List Event). stops.first ++ l) is)
    not_had file _ no_file is = absurd no_file

    first_missing : (file : Name) (answer : Answer) (rest : List Command) → stops.rest ≡ rest → ReadsNext rest file answer stops.last
        → get m file ≡ None → IsFirstMissing m commands file
    first_missing file answer [] is reads missing = absurd reads
    first_missing file answer (command ∷ rest) is (names, calls) missing = record {
      front = stops.front;
      command = command;
      rest = rest;
      split = stops.split ∙ ap (λ (l : List Command). stops.front ++ l) is;
      there = lead_there m steps at_first stops.front stops.words stops.after
          (lead_plain m steps at_first stops.front stops.words stops.after stop_lead.0);
      names = names;
      missing = missing;
    }

    stop_missing : (file : Name) → why ≡ Unread file → FailsLast file events ⊎ IsFirstMissing m commands file
    stop_missing file is =
        let (answer, reads, no_file) = subst (λ why. LastReads why stops.rest stops.last) is stops.stop in
        elim (not_had file answer no_file (calls_of file answer stops.rest stops.last reads)) as
        (λ s. FailsLast file events ⊎ IsFirstMissing m commands file)
        [ inl fails ↦ inl fails | inr missing ↦ inr (first_missing file answer stops.rest refl reads missing) ]

    stop_keeps : new ≡ Some m
    stop_keeps = last_keeps m stops.last stop_parts.1 new last last_honest why stops.rest stops.stop

    stop_part : IsPart m steps commands stops.text
    stop_part = record {
      front = stops.front;
      rest = stops.rest;
      split = stops.split;
      words = stops.words;
      after = stops.after;
      lead = stop_lead.0;
      prefix = prefix_of_lines why stops.words stops.rest stops.text stops.lines;
    }

-- ---- the script

-- the words ask for this job, or the script's read failed
abbrev Asks : List Name → Contents → Line → Answer → Job → Type 0
Asks words m line answer job =
    (FailsLast line.script (script_read line.script answer) × (job ≡ Stops (Unread line.script))) ⊎ IsJob words m job

module _ (m : Contents) (words : List Name) (line : Line) (is : line_of words ≡ Some line) where
  -- the script was read
  module _ (answer : Answer) (given events : List Event) (current : Option Name) (new : Told) (after : Option Name)
      (calls : events ≡ script_read line.script answer ++ given) (honest : AreHonest events (Some m) current new after) where
    abbrev script_parts : (told : Told) × (name : Option Name) × AreHonest (script_read line.script answer) (Some m) current told name
        × AreHonest given told name new after
    script_parts = honest_both (script_read line.script answer) given (Some m) new current after (rw calls at honest)

    abbrev script_does : (told : Told) × (other : Option Name)
        × Does (Read line.script most_script_bytes answer) (Some m) current told other × (script_parts.0 ≡ Some m)
    script_does =
        one_honest m (script_read line.script answer) current script_parts.0 script_parts.1 script_parts.2 line.script
        most_script_bytes answer refl

    given_honest : AreHonest given (Some m) script_parts.1 new after
    given_honest = subst (λ (t : Told). AreHonest given t script_parts.1 new after) script_does.3 script_parts.3

    -- what the script's read gave is what the words ask for, unless that read failed
    job_honest : (job : Job) → IsJobBy line answer job → Asks words m line answer job
    job_honest job by = go answer script_does.2 by
      where
        go : (answer : Answer) → Does (Read line.script most_script_bytes answer) (Some m) current script_does.0 script_does.1
            → IsJobBy line answer job → Asks words m line answer job
        go (Ok text) does by = inr (job_of_text words line is m text job does.0 by)
        go (Err reading.Absent) does by =
            inr (job_by_line words line is m job (subst (λ o. IsJobBehind line o job) (sym does.0) by))
        go (Err reading.Failed) does by = inl (([], most_script_bytes, refl), by)
        go (Err reading.TooLong) does by = inr (subst (IsJob words m) (sym by)
            (job_of_text words line is m does.0.0 (Stops (Refused fault.TooLong)) does.0.1 (does.0.2, λ e. absurd cc)))
        go (Err reading.Memory) does by = absurd by

-- ---- the whole run

-- how a run ended, over the contents
abbrev Over : List Name → Contents → Option (List ℕ) → Option (List ℕ) → List Event → Ending → Type 0
Over words m old out events (Ok status) = Reported words m old out status
Over words m old out events (Err Usage) = Refuses words (Some m) Usage × (out ≡ old)
Over words m old out events (Err (Refused why)) = Refuses words (Some m) (Refused why) × (out ≡ old)
Over words m old out events (Err (Unread file)) = (FailsLast file events ⊎ IsNotThere words m file) × GainedPart words m old out
Over words m old out events (Err Unwritten) = ReportedPart words m old out
Over words m old out events (Err WantOfMemory) = GainedPart words m old out

not_usage : (line : Line) (answer : Answer) → IsJobBy line answer (Stops Usage) → ⊥
not_usage line (Ok text) job = job
not_usage line (Err reading.Memory) job = job
not_usage line (Err _) job = absurd cc

not_unwritten : (line : Line) (answer : Answer) → IsJobBy line answer (Stops Unwritten) → ⊥
not_unwritten line (Ok text) job = job
not_unwritten line (Err reading.Memory) job = job
not_unwritten line (Err _) job = absurd cc

same_unread : (a b : Name) → Stops (Unread a) ≡ Stops (Unread b) → a ≡ b
same_unread a b e = cc

module _ (words : List Name) (m : Contents) (old out : Option (List ℕ)) (events : List Event) (current : Option Name) (new : Told)
    (after : Option Name) (honest : AreHonest events (Some m) current new after) where
  module _ (line : Line) (is : line_of words ≡ Some line) where
    -- memory was wanting before the commands
    early_over : (ending : Ending) → WantsMemory line old out ending events → Over words m old out events ending × (new ≡ Some m)
    early_over ending (memory, same, inl none) = (rw memory (inl same), none_honest m events current new after honest none)
    early_over ending (memory, same, inr (answer, one)) =
        (rw memory (inl same), (one_honest m events current new after honest line.script most_script_bytes answer one).3)

    module _ (answer : Answer) (given : List Event) (calls : events ≡ script_read line.script answer ++ given) where
      abbrev behind_script : Option Name
      behind_script = (script_parts m words line is answer given events current new after calls honest).1

      behind_honest : AreHonest given (Some m) behind_script new after
      behind_honest = given_honest m words line is answer given events current new after calls honest

      asked : (job : Job) → IsJobBy line answer job → Asks words m line answer job
      asked = job_honest m words line is answer given events current new after calls honest

      -- a script that is not read or says no commands
      stops_over : (why : Reason) → IsJobBy line answer (Stops why) → out ≡ old → given ≡ [] → Over words m old out events (Err why)
      stops_over Usage job same none = absurd (not_usage line answer job)
      stops_over (Refused why) job same none = by (asked (Stops (Refused why)) job)
        where
          by : Asks words m line answer (Stops (Refused why)) → Over words m old out events (Err (Refused why))
          by (inl (fails, stops)) = absurd cc
          by (inr job) =
              ((has_reading words line is, λ n tells. subst (λ m. IsJob words m (Stops (Refused why))) (same_Some m n tells) job), same)
      stops_over (Unread file) job same none = (by (asked (Stops (Unread file)) job), inl same)
        where
          whole : events ≡ script_read line.script answer
          whole = calls ∙ ap (λ (l : List Event). script_read line.script answer ++ l) none

          by : Asks words m line answer (Stops (Unread file)) → FailsLast file events ⊎ IsNotThere words m file
          by (inl fails) = inl (subst (λ (l : List Event). FailsLast file l) (sym whole)
              (subst (λ f. FailsLast f (script_read line.script answer)) (sym (same_unread file line.script fails.1)) fails.0))
          by (inr job) = inr (inl job)
      stops_over Unwritten job same none = absurd (not_unwritten line answer job)
      stops_over WantOfMemory job same none = inl same

      module _ (steps : ℕ) (commands : List Command) (by_job : IsJobBy line answer (Reports steps commands)) where
        job : IsJob words m (Reports steps commands)
        job = by (asked (Reports steps commands) by_job)
          where
            by : Asks words m line answer (Reports steps commands) → IsJob words m (Reports steps commands)
            by (inl fails) = absurd (no_report_stops steps commands (Unread line.script) fails.1)
            by (inr job) = job

        midst_over : (why : Reason) → StopsIn steps commands old out why given → Over words m old out events (Err why)
        midst_over why stops = by why refl stops.stop
          where
            part : ReportedPart words m old out
            part =
                let here = stop_part m steps commands old out why given behind_script new after stops behind_honest in
                (steps, commands, job, (stops.text, here, stops.gained))

            missing : (file : Name) → FailsLast file given ⊎ IsFirstMissing m commands file
                → FailsLast file events ⊎ IsNotThere words m file
            missing file (inl fails) = inl (fails_behind file (script_read line.script answer) given events calls fails)
            missing file (inr first) = inr (inr (steps, commands, job, first))

            by : (other : Reason) → why ≡ other → LastReads other stops.rest stops.last → Over words m old out events (Err other)
            by (Unread file) same reads =
                let had = stop_missing m steps commands old out why given behind_script new after stops behind_honest file same in
                (missing file had, inr part)
            by Unwritten same reads = part
            by WantOfMemory same reads = inr part
            by _ same reads = absurd reads

        reports_over : (ending : Ending) → ReportsOver steps commands old out ending given
            → Over words m old out events ending × (new ≡ Some m)
        reports_over (Ok status) (all, at, lead, gained, status_is) =
            let h = lead_honest m steps at_first commands all at given behind_script new after lead behind_honest in
            ((steps, commands, job, (all, (at, h.0), gained, status_is)), h.1)
        reports_over (Err why) stops =
            (midst_over why stops, stop_keeps m steps commands old out why given behind_script new after stops behind_honest)

      job_over : (ending : Ending) (job : Job) → IsJobBy line answer job → DoesJob old out job ending given
          → Over words m old out events ending × (new ≡ Some m)
      job_over ending (Stops why) by (ends, same, none) =
          let here = subst (Over words m old out events) (sym ends) (stops_over why by same none) in
          (here, none_honest m given behind_script new after behind_honest none)
      job_over ending (Reports steps commands) by does = reports_over steps commands by ending does

    line_over : (ending : Ending) → WantsMemory line old out ending events ⊎ DoesLine line old out ending events
        → Over words m old out events ending × (new ≡ Some m)
    line_over ending (inl early) = early_over ending early
    line_over ending (inr (answer, job, given, by, does, calls)) = job_over answer given calls ending job by does

  pub ends_over : (ending : Ending) → EndsSo words old out ending events → Over words m old out events ending × (new ≡ Some m)
  ends_over ending ends = by (line_of words) refl ends
    where
      by : (o : Option Line) → line_of words ≡ o
          → MatchOption o ((events ≡ []) × (out ≡ old) × ((ending ≡ Err Usage) ⊎ (ending ≡ Err WantOfMemory)))
          (λ line. WantsMemory line old out ending events ⊎ DoesLine line old out ending events)
          → Over words m old out events ending × (new ≡ Some m)
      by None is (none, same, inl usage) =
          (subst (Over words m old out events) (sym usage) (is, same), none_honest m events current new after honest none)
      by None is (none, same, inr memory) = (rw memory (inl same), none_honest m events current new after honest none)
      by (Some line) is does = line_over line is ending does

-- ---- what the clauses of the top call say

low_status : (b : Bool) (status : ℕ) → status ≡ (if b then 0 else 1) → status ≤ 1
low_status true status is = omega (arith, is)
low_status false status is = omega (arith, is)

module _ (apart : AreApart) (one : IsOneScript) (words : List Name) (m : Contents) (old out said said' : Option (List ℕ))
    (status faults faults' : ℕ) (events : List Event) (current : Option Name) (new : Told) (after : Option Name)
    (passes : PassesFor words old out status (Says said said' faults faults') events)
    (honest : AreHonest events (Some m) current new after) where
  over : Over words m old out events passes.0
  over = (ends_over words m old out events current new after honest passes.0 passes.1).0

  pub told_kept : new ≡ Some m
  told_kept = (ends_over words m old out events current new after honest passes.0 passes.1).1

  -- the line of a reason was said
  abbrev SaysLine : Reason → Type 0
  SaysLine why = Says said said' faults faults' (error_line why)

  -- it stopped for the reason of a status, and the reason's line was said
  abbrev StopsWith : ℕ → Type 0
  StopsWith n = (why : Reason) × Over words m old out events (Err why) × (status_of why ≡ n) × SaysLine why

  stops_with : (n : ℕ) → status ≡ n → 2 ≤ n → n ≤ 4 → StopsWith n
  stops_with n same some few = by passes.0 over passes.2
    where
      by : (ending : Ending) → Over words m old out events ending → IsStatusOf ending status (Says said said' faults faults')
          → StopsWith n
      by (Ok done) (steps, commands, asked, (all, lead, gained, low)) is =
          absurd (omega (arith, low_status (ok_count all == length all) done low, is, same, some))
      by (Err why) stopped (inl (is, says)) = (why, stopped, sym is ∙ same, says)
      by (Err why) stopped (inr five) = absurd (omega (arith, five, same, few))

  pub honest_report : (status ≡ 0) ⊎ (status ≡ 1) → Reported words m old out status
  honest_report came = by passes.0 over passes.2
    where
      by : (ending : Ending) → Over words m old out events ending → IsStatusOf ending status (Says said said' faults faults')
          → Reported words m old out status
      by (Ok done) reported is = subst (Reported words m old out) (sym is) reported
      by (Err why) stopped (inl (is, says)) = absurd (no_report why status (inl is) came)
      by (Err why) stopped (inr five) = absurd (no_report why status (inr five) came)

  abbrev IsRefusal : Type 0
  IsRefusal = (why : Reason) × (status_of why ≡ 2) × Refuses words (Some m) why × (out ≡ old) × SaysLine why

  pub honest_refusal : status ≡ 2 → IsRefusal
  honest_refusal two = let (why, stopped, is, says) = stops_with 2 two (omega arith) (omega arith) in by why stopped is says
    where
      by : (why : Reason) → Over words m old out events (Err why) → status_of why ≡ 2 → SaysLine why → IsRefusal
      by Usage stopped is says = (Usage, is, stopped.0, stopped.1, says)
      by (Refused why) stopped is says = (Refused why, is, stopped.0, stopped.1, says)
      by _ stopped is says = absurd (omega (arith, is))

  abbrev IsMissing : Type 0
  IsMissing = (file : Name) × (FailsLast file events ⊎ IsNotThere words m file) × SaysLine (Unread file)

  pub honest_unread : status ≡ 3 → IsMissing
  honest_unread three = let (why, stopped, is, says) = stops_with 3 three (omega arith) (omega arith) in by why stopped is says
    where
      by : (why : Reason) → Over words m old out events (Err why) → status_of why ≡ 3 → SaysLine why → IsMissing
      by (Unread file) stopped is says = (file, stopped.0, says)
      by (Refused why) stopped is says = absurd (fault_not_3 why is)
      by _ stopped is says = absurd (omega (arith, is))

  -- a line that is not written is one of a report
  pub honest_unwritten : status ≡ 4 → ReportedPart words m old out × SaysLine Unwritten
  honest_unwritten four = let (why, stopped, is, says) = stops_with 4 four (omega arith) (omega arith) in by why stopped is says
    where
      by : (why : Reason) → Over words m old out events (Err why) → status_of why ≡ 4 → SaysLine why
          → ReportedPart words m old out × SaysLine Unwritten
      by Unwritten stopped is says = (stopped, says)
      by (Refused why) stopped is says = absurd (fault_not_4 why is)
      by _ stopped is says = absurd (omega (arith, is))

  pub honest_part : GainedPart words m old out
  honest_part = by passes.0 over
    where
      by : (ending : Ending) → Over words m old out events ending → GainedPart words m old out
      by (Ok done) (steps, commands, job, (all, (at, lead), gained, is)) =
          inr (steps, commands, job, (report_of all, whole_part m steps commands all at lead, gained))
      by (Err Usage) stopped = inl stopped.1
      by (Err (Refused why)) stopped = inl stopped.1
      by (Err (Unread file)) stopped = stopped.1
      by (Err Unwritten) stopped = inr stopped
      by (Err WantOfMemory) stopped = stopped

  abbrev Answered : Type 0
  Answered = (status ≡ 4) ⊎ (status ≡ 5) ⊎ ((file : Name) × FailsLast file events) ⊎ IsAnswered words m status

  pub honest_answer : Answered
  honest_answer = by passes.0 over passes.2
    where
      for_reason : (why : Reason) → Over words m old out events (Err why) → status ≡ status_of why → Answered
      for_reason Usage stopped is = inr (inr (inr (Stops Usage, job_of_usage words m stopped.0, is)))
      for_reason (Refused why) stopped is = inr (inr (inr (Stops (Refused why), stopped.0.1 m refl, is)))
      for_reason (Unread file) (inl fails, part) is = inr (inr (inl (file, fails)))
      for_reason (Unread file) (inr (inl job), part) is = inr (inr (inr (Stops (Unread file), job, is)))
      for_reason (Unread file) (inr (inr (steps, commands, job, missing)), part) is =
          inr (inr (inr (Reports steps commands, job, inl (file, missing, is))))
      for_reason Unwritten stopped is = inl is
      for_reason WantOfMemory stopped is = inr (inl is)

      by : (ending : Ending) → Over words m old out events ending → IsStatusOf ending status (Says said said' faults faults') → Answered
      by (Ok done) (steps, commands, job, (all, (at, lead), gained, same)) is =
          inr (inr (inr (Reports steps commands, job, inr (all, (at, lead_plain m steps at_first commands all at lead), is ∙ same))))
      by (Err why) stopped (inl (is, says)) = for_reason why stopped is
      by (Err why) stopped (inr five) = inr (inl five)

  -- the last call was a read that failed
  abbrev Failed : Type 0
  Failed = (file : Name) × FailsLast file events

  pub honest_decided : (why : Reason) → IsJob words m (Stops why)
      → (status ≡ status_of why) ⊎ (status ≡ 5) ⊎ ((file : Name) × FailsLast file events)
  honest_decided why job = by honest_answer
    where
      by : Answered → (status ≡ status_of why) ⊎ (status ≡ 5) ⊎ Failed
      by (inl four) =
          let (steps, commands, asked, gained) = (honest_unwritten four).0 in
          absurd (job_apart apart words m steps commands why asked job)
      by (inr (inl five)) = inr (inl five)
      by (inr (inr (inl fails))) = inr (inr fails)
      by (inr (inr (inr (Stops other, asked, is)))) = inl (is ∙ one_status words m other why asked job)
      by (inr (inr (inr (Reports steps commands, asked, answers)))) = absurd (job_apart apart words m steps commands why asked job)

  pub honest_quiet : (why : Reason) → IsJob words m (Stops why) → out ≡ old
  honest_quiet why job = nothing_gained words m old out apart why job honest_part

  module _ (steps : ℕ) (commands : List Command) (job : IsJob words m (Reports steps commands)) where
    pub honest_there : AllByRecursion (HasItsFile m) commands
        → (status ≡ 0) ⊎ (status ≡ 1) ⊎ (status ≡ 4) ⊎ (status ≡ 5) ⊎ ((file : Name) × FailsLast file events)
    honest_there there = elim honest_answer [
      | inl four ↦ inr (inr (inl four))
      | inr (inl five) ↦ inr (inr (inr (inl five)))
      | inr (inr (inl fails)) ↦ inr (inr (inr (inr fails)))
      | inr (inr (inr answered)) ↦ elim (reported_always apart one words m steps commands job status there (inr answered)) [
        | inl zero ↦ inl zero
        | inr (inl one) ↦ inr (inl one)
        | inr (inr five) ↦ inr (inr (inr (inl five)))
      ]
    ]

    pub honest_not_there : (file : Name) → IsNamed commands file → get m file ≡ None
        → (status ≡ 3) ⊎ (status ≡ 4) ⊎ (status ≡ 5) ⊎ ((file : Name) × FailsLast file events)
    honest_not_there file named missing = elim honest_answer [
      | inl four ↦ inr (inl four)
      | inr (inl five) ↦ inr (inr (inl five))
      | inr (inr (inl fails)) ↦ inr (inr (inr fails))
      | inr (inr (inr answered)) ↦ elim (missing_always apart one words m steps commands job status file named missing (inr answered)) [
        | inl three ↦ inl three
        | inr five ↦ inr (inr (inl five))
      ]
    ]

  pub honest_prefix : GainsPrefix words m old out
  honest_prefix = part_gains one words m old out honest_part

  pub honest_before : (steps : ℕ) (before behind : List Command) (command : Command) (file : Name)
      → IsJob words m (Reports steps (before ++ command ∷ behind)) → file_of command ≡ Some file → get m file ≡ None
      → GainsLinesBefore m steps before old out
  honest_before steps before behind command file job names missing =
      gained_before words m old out one steps before behind command file job names missing honest_part
