-- What words ask for is one thing: a report on one list of commands, or reasons of one status.
use Rattle.wast_run.proofs.Common.{◌≡◌, ℕ, ◌≢◌, List, Some, None, Option, MatchOption, sym, refl, ap, ◌∙◌, get, Contents, Name, Line}
use Rattle.wast_run.proofs.Common.{line_of, Command, Reason, Refused, Unread, Usage, status_of, IsFault, IsScript}
use Rattle.wast_run.proofs.Common.{ScriptFault, IsJob, IsJobBehind, Job, Reports, Stops}
use Rattle.wast_script.specs.declared.fault.ScriptFault.TheVariants as fault

-- that a text is one script, and none where it has a fault
abbrev pub IsOneScript : Type 0
IsOneScript = (text : List ℕ) (a b : List Command) → IsScript text a → IsScript text b → a ≡ b

abbrev pub AreApart : Type 0
AreApart = (text : List ℕ) (a : List Command) (b : ScriptFault) → b ≢ fault.Memory → IsScript text a → IsFault text b → ⊥

-- by the line, and by the bytes of the script
by_line : (words : List Name) (m : Contents) (a b : Job) (P : Type 0)
    → (a ≡ Stops Usage → b ≡ Stops Usage → P)
    → ((line : Line) (o : Option (List ℕ)) → IsJobBehind line o a → IsJobBehind line o b → P)
    → IsJob words m a → IsJob words m b → P
by_line words m a b P without behind = go (line_of words)
  where
    go : (o : Option Line) → MatchOption o (a ≡ Stops Usage) (λ line. IsJobBehind line (get m line.script) a)
        → MatchOption o (b ≡ Stops Usage) (λ line. IsJobBehind line (get m line.script) b) → P
    go None first second = without first second
    go (Some line) first second = behind line (get m line.script) first second

abbrev reason_of_job : Job → Reason
reason_of_job (Stops why) = why
reason_of_job (Reports steps commands) = Usage

-- a script that is refused has status 2
refused_status : (line : Line) (text : List ℕ) (why : Reason) → IsJobBehind line (Some text) (Stops why) → status_of why ≡ 2
refused_status line text (Refused fault.Memory) job = absurd (job.1 refl)
refused_status line text (Refused _) job = refl
refused_status line text _ job = absurd job

pub one_status : (words : List Name) (m : Contents) (a b : Reason) → IsJob words m (Stops a) → IsJob words m (Stops b)
    → status_of a ≡ status_of b
one_status words m a b = by_line words m (Stops a) (Stops b) (status_of a ≡ status_of b)
    (λ first second. ap (λ j. status_of (reason_of_job j)) (first ∙ sym second)) behind
  where
    behind : (line : Line) (o : Option (List ℕ)) → IsJobBehind line o (Stops a) → IsJobBehind line o (Stops b) → status_of a ≡ status_of b
    behind line None first second = ap (λ j. status_of (reason_of_job j)) (first ∙ sym second)
    behind line (Some text) first second = refused_status line text a first ∙ sym (refused_status line text b second)

pub no_report_stops : (steps : ℕ) (commands : List Command) (why : Reason) → Reports steps commands ≡ Stops why → ⊥
no_report_stops steps commands why e = absurd cc

pub job_apart : AreApart → (words : List Name) (m : Contents) (steps : ℕ) (commands : List Command) (why : Reason)
    → IsJob words m (Reports steps commands) → IsJob words m (Stops why) → ⊥
job_apart apart words m steps commands why = by_line words m (Reports steps commands) (Stops why) ⊥
    (λ first second. no_report_stops steps commands Usage first) (λ line o. behind line o why)
  where
    behind : (line : Line) (o : Option (List ℕ)) (why : Reason) → IsJobBehind line o (Reports steps commands)
        → IsJobBehind line o (Stops why) → ⊥
    behind line None why first second = no_report_stops steps commands (Unread line.script) first
    behind line (Some text) (Refused why) first second = apart text commands why second.1 first.0 second.0
    behind line (Some text) Usage first second = second
    behind line (Some text) _ first second = second

pub one_list : IsOneScript → (words : List Name) (m : Contents) (steps others : ℕ) (a b : List Command)
    → IsJob words m (Reports steps a) → IsJob words m (Reports others b) → (steps ≡ others) × (a ≡ b)
one_list one words m steps others a b = by_line words m (Reports steps a) (Reports others b) ((steps ≡ others) × (a ≡ b))
    (λ first second. absurd (no_report_stops steps a Usage first)) behind
  where
    behind : (line : Line) (o : Option (List ℕ)) → IsJobBehind line o (Reports steps a) → IsJobBehind line o (Reports others b)
        → (steps ≡ others) × (a ≡ b)
    behind line None first second = absurd (no_report_stops steps a (Unread line.script) first)
    behind line (Some text) first second = (first.1 ∙ sym second.1, one text a b first.0 second.0)
