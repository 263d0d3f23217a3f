-- Through the files pass reads alone: of the script, and of files that its commands name.
use Rattle.wast_run.proofs.Common.{◌≡◌, ℕ, ◌⊎◌, List, [], ◌∷◌, ◌++◌, Some, None, Ok, Err, Option, MatchOption, sym, refl, ◌∙◌, subst, inl}
use Rattle.wast_run.proofs.Common.{inr, append_assoc, append-nil, AllByRecursion, all_append, Name, Event, Passes, FileVerdict, Line}
use Rattle.wast_run.proofs.Common.{line_of, Command, Reason, Unread, Unwritten, Usage, WantOfMemory, Job, Reports, Stops, IsNamed, file_of}
use Rattle.wast_run.proofs.Common.{Answer, AreReadsFor, ComesOver, DoesJob, DoesLine, Ending, EndsSo, IsJobBy, IsReadAs, IsReadOf}
use Rattle.wast_run.proofs.Common.{LastReads, LeadOver, OnlyReads, ReadsNext, ReportsOver, WantsMemory, module_read, Setting, at_first}
use Rattle.wast_run.proofs.Common.{Word}
use Rattle.w2c_io.specs.declared.answers.ReadAnswer.TheVariants as reading
use Rattle.wast_script.specs.Commands as script

module _ (all : List Command) where
  abbrev AreReads : List Event → Type 0
  AreReads events = AllByRecursion (IsReadOf all) events

  none_read : (events : List Event) → events ≡ [] → AreReads events
  none_read events none = subst AreReads (sym none) tt

  one_read : (file : Name) (answer : Answer) (events : List Event) → IsNamed all file → events ≡ module_read file answer → AreReads events
  one_read file answer events named is = subst AreReads (sym is) ((file, answer, named, refl), tt)

  judged_reads : (file : Name) (verdict : Option FileVerdict) (events : List Event) → IsNamed all file → IsReadAs events file verdict
      → AreReads events
  judged_reads file verdict events named (answer, is, given) = one_read file answer events named is

  command_reads : (steps : ℕ) (at : Setting) (command : Command) (w : Word) (after : Setting) (events : List Event)
      → ((file : Name) → file_of command ≡ Some file → IsNamed all file)
      → ComesOver events steps at command w after → AreReads events
  command_reads steps at (script.Module file) w after events named (comes, none) =
      judged_reads file.filename comes.0 events (named file.filename refl) comes.1
  command_reads steps at (script.AssertInvalid file) w after events named (comes, none) =
      judged_reads file comes.0 events (named file refl) comes.1
  command_reads steps at (script.AssertMalformed file) w after events named (comes, none) =
      judged_reads file comes.0 events (named file refl) comes.1
  command_reads steps at _ w after events named (comes, none) = none_read events (none refl)

  lead_reads : (steps : ℕ) (at : Setting) (before commands behind : List Command) (words : List Word) (after : Setting)
      (events : List Event) → all ≡ before ++ (commands ++ behind) → LeadOver steps at commands words after events → AreReads events
  lead_reads steps at before [] behind words after events split lead = none_read events lead.2
  lead_reads steps at before (c ∷ commands) behind words after events split (w, others, between, first, rest, comes, lead, is, calls) =
      subst AreReads (sym calls) (all_append (IsReadOf all) first rest
      (command_reads steps at c w between first
      (λ file names. record { front = before; command = c; rest = commands ++ behind; split = split; names = names }) comes.0)
      (lead_reads steps between (before ++ c ∷ []) commands behind others after rest
      (split ∙ sym (append_assoc before (c ∷ []) (commands ++ behind))) lead))

  next_reads : (front rest : List Command) (file : Name) (answer : Answer) (events : List Event) → all ≡ front ++ rest
      → ReadsNext rest file answer events → AreReads events
  next_reads front [] file answer events split reads = absurd reads
  next_reads front (command ∷ rest) file answer events split (names, calls) =
      one_read file answer events (record { front = front; command = command; rest = rest; split = split; names = names }) calls

  last_reads : (front rest : List Command) (why : Reason) (events : List Event) → all ≡ front ++ rest → LastReads why rest events
      → AreReads events
  last_reads front rest (Unread file) events split (answer, reads, no_file) = next_reads front rest file answer events split reads
  last_reads front rest Unwritten events split none = none_read events none
  last_reads front rest WantOfMemory events split (inl none) = none_read events none
  last_reads front rest WantOfMemory events split (inr (file, answer, reads)) = next_reads front rest file answer events split reads
  last_reads front rest _ events split reads = absurd reads

  report_reads : (steps : ℕ) (old new : Option (List ℕ)) (ending : Ending) (events : List Event)
      → ReportsOver steps all old new ending events → AreReads events
  report_reads steps old new (Ok status) events (words, after, lead, gained, is) =
      lead_reads steps at_first [] all [] words after events (sym (append-nil all)) lead
  report_reads steps old new (Err why) events stops =
      subst AreReads (sym stops.calls) (all_append (IsReadOf all) stops.first stops.last
      (lead_reads steps at_first [] stops.front stops.rest stops.words stops.after stops.first stops.split stops.lead)
      (last_reads stops.front stops.rest why stops.last stops.split stops.stop))

job_reads : (line : Line) (answer : Answer) (job : Job) (old new : Option (List ℕ)) (ending : Ending) (events : List Event)
    → IsJobBy line answer job → DoesJob old new job ending events → AreReadsFor answer events
job_reads line (Ok text) (Stops why) old new ending events by (ends, same, none) = inl none
job_reads line (Ok text) (Reports steps commands) old new ending events by does =
    inr (commands, by.0, report_reads commands steps old new ending events does)
job_reads line (Err why) (Stops reason) old new ending events by (ends, same, none) = none
job_reads line (Err reading.Memory) (Reports steps commands) old new ending events by does = absurd by
job_reads line (Err _) (Reports steps commands) old new ending events by does = absurd cc

no_reads : (answer : Answer) → AreReadsFor answer []
no_reads (Ok text) = inl refl
no_reads (Err why) = refl

reads_of_line : (words : List Name) (line : Line) → line_of words ≡ Some line → (old new : Option (List ℕ)) (ending : Ending)
    (events : List Event) → WantsMemory line old new ending events ⊎ DoesLine line old new ending events → OnlyReads words events
reads_of_line words line is old new ending events (inl (memory, same, inl none)) = inl none
reads_of_line words line is old new ending events (inl (memory, same, inr (answer, calls))) =
    inr (line, answer, [], is, no_reads answer, calls)
reads_of_line words line is old new ending events (inr (answer, job, given, by, does, calls)) =
    inr (line, answer, given, is, job_reads line answer job old new ending given by does, calls)

only_reads : (words : List Name) (old new : Option (List ℕ)) (ending : Ending) (events : List Event) → EndsSo words old new ending events
    → OnlyReads words events
only_reads words old new ending events ends = by (line_of words) refl ends
  where
    by : (o : Option Line) → line_of words ≡ o
        → MatchOption o ((events ≡ []) × (new ≡ old) × ((ending ≡ Err Usage) ⊎ (ending ≡ Err WantOfMemory)))
        (λ line. WantsMemory line old new ending events ⊎ DoesLine line old new ending events)
        → OnlyReads words events
    by None is (none, same, why) = inl none
    by (Some line) is does = reads_of_line words line is old new ending events does

pub ends_with_reads : (trace trace' : List Event) (words : List Name) (old new : Option (List ℕ)) (ending : Ending)
    → Passes trace trace' (EndsSo words old new ending) → Passes trace trace' (OnlyReads words)
ends_with_reads trace trace' words old new ending (events, called, ends) =
    (events, called, only_reads words old new ending events ends)
