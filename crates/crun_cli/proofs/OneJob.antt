-- Words ask for at most one job.
use Rattle.crun_cli.proofs.Common.{◌≡◌, ℕ, List, Some, None, Option, MatchOption, sym, ap, ◌∙◌, subst, inl, inr, Host, Contents, Name}
use Rattle.crun_cli.proofs.Common.{none_distinct, one_read, one_refused, read_or_refused, empty, one_journal_reading, one_reading, Line}
use Rattle.crun_cli.proofs.Common.{RunLine, line_of, merges, runs, trims, AllRead, Held, IsJournalReading, JournalReading, Reading}
use Rattle.crun_cli.proofs.Common.{IsTextsJob, Job, Stops, JournalLine, Usage, IsJob, IsJobBehind, IsJobOfTexts, IsLineJob, IsReplayJob}
use Rattle.crun_cli.proofs.Common.{IsRunJob, symbols_of}
use Rattle.host_replay.specs.Reading.{lines_of}
use Rattle.crun_job.proofs.JobLaws.{one_texts_job}
use Rattle.crun_units.proofs.WriteJobs.{one_merge_job, one_trim_job}

module _ (line : RunLine) (handed : List Host) (m : Contents) where
  one_replay : (name : Name) (texts : List (List ℕ)) (text : List ℕ) (reading : JournalReading) (a b : Job)
      → IsReplayJob line name texts text reading a → IsReplayJob line name texts text reading b → a ≡ b
  one_replay name texts text (Held journal) a b (inl (j, is, of)) (inl (j', is', of')) =
      one_texts_job line (symbols_of j'.hosts) texts text a b (rw (one_read empty j j' (lines_of journal) none_distinct is is') at of) of'
  one_replay name texts text (Held journal) a b (inl (j, is, of)) (inr (k, refused, is')) =
      absurd (read_or_refused j (lines_of journal) k is refused)
  one_replay name texts text (Held journal) a b (inr (k, refused, is')) (inl (j, is, of)) =
      absurd (read_or_refused j (lines_of journal) k is refused)
  one_replay name texts text (Held journal) a b (inr (k, refused, is)) (inr (k', refused', is')) =
      is ∙ ap (λ n. Stops (JournalLine n)) (one_refused (lines_of journal) k k' refused refused') ∙ sym is'
  one_replay name texts text _ a b first second = first ∙ sym second

  one_of_texts : (texts : List (List ℕ)) (text : List ℕ) (a b : Job) → IsJobOfTexts line handed m texts text a
      → IsJobOfTexts line handed m texts text b → a ≡ b
  one_of_texts texts text a b = go line.replayed
    where
      Of : Option Name → Job → Type 0
      Of o job = MatchOption o (IsTextsJob line (symbols_of handed) texts text job)
          (λ name. (reading : JournalReading) × IsJournalReading m name reading × IsReplayJob line name texts text reading job)

      go : (o : Option Name) → Of o a → Of o b → a ≡ b
      go None first second = one_texts_job line (symbols_of handed) texts text a b first second
      go (Some name) (reading, is, of) (reading', is', of') = one_replay name texts text reading a b of
          (subst (λ r. IsReplayJob line name texts text r b) (one_journal_reading m name reading' reading is' is) of')

  one_behind : (reading : Reading) (a b : Job) → IsJobBehind line handed m reading a → IsJobBehind line handed m reading b → a ≡ b
  one_behind (AllRead texts text) a b first second = one_of_texts texts text a b first second
  one_behind _ a b first second = first ∙ sym second

  one_run_job : (a b : Job) → IsRunJob line handed m a → IsRunJob line handed m b → a ≡ b
  one_run_job a b (reading, is, behind) (other, is', behind') =
      one_behind reading a b behind (rw (one_reading m line.units line.calls other reading is' is) at behind')

one_line_job : (handed : List Host) (m : Contents) (line : Line) (a b : Job) → IsLineJob handed m line a → IsLineJob handed m line b → a ≡ b
one_line_job handed m (runs line) a b first second = one_run_job line handed m a b first second
one_line_job handed m (merges line) a b first second = one_merge_job m line (symbols_of handed) a b first second
one_line_job handed m (trims line) a b first second = one_trim_job m line a b first second

pub one_job : (words : List Name) (handed : List Host) (m : Contents) (a b : Job) → IsJob words handed m a → IsJob words handed m b → a ≡ b
one_job words handed m a b = go (line_of words)
  where
    go : (o : Option Line) → MatchOption o (a ≡ Stops Usage) (λ line. IsLineJob handed m line a)
        → MatchOption o (b ≡ Stops Usage) (λ line. IsLineJob handed m line b) → a ≡ b
    go None is is' = is ∙ sym is'
    go (Some line) is is' = one_line_job handed m line a b is is'
