-- Why the commands stop, and why a script is refused, as why the work stops.
use Rattle.wast_run.proofs.Common.{◌≡◌, ℕ, ◌≤◌, Bool, ◌⊎◌, List, if◌then◌else◌, Some, None, sym, refl, ap, ◌∙◌, subst, inl, inr, none-some}
use Rattle.wast_run.proofs.Common.{get, rose_from, Faulted, Contents, Event, Name, Passes, Tells, Line, line_of, Command, Reason, Refused}
use Rattle.wast_run.proofs.Common.{Unread, Unwritten, Usage, WantOfMemory, IsScript, GivesFirst, HasReading, IsJob, IsJobBehind, IsToRead}
use Rattle.wast_run.proofs.Common.{Job, Reported, ReportedPart, Reports, Stops, IsNamed, ReadsScript, HasGained, StopsReport, StopsScript}
use Rattle.wast_run.proofs.Common.{StopsWords, StopsWork, HasReported}
use Rattle.w2c_io.specs.declared.files.Files.{Ghosts as Files}
use Rattle.w2c_io.specs.declared.sink.Sink.{Ghosts as Sink}
use Rattle.wast_run.proofs.Passing.{first_gives}

-- why the work of these words stops, with the files and the stream before it and behind it
abbrev pub WorkStops : {F O : Type 0} → List Name → Files F → Sink O → F → F → O → O → Reason → Type 0
WorkStops words files out x y u v why =
    StopsWork words (files.told x) (GivesFirst (files.told x) (files.trace x) (files.trace y)) (files.read_faults x) (files.read_faults y)
    (files.fault_name y) (out.told u) (out.told v) (out.faults u) (out.faults v) why

pub words_stop : {F O : Type 0} (words : List Name) (files : Files F) (out : Sink O) (x : F) (u : O) (why : Reason)
    → StopsWords words why → WorkStops words files out x x u u why
words_stop words files out x u Usage stop = (stop, refl)
words_stop words files out x u WantOfMemory stop = λ m tells. inl refl
words_stop words files out x u _ stop = absurd stop

module _ (words : List Name) (line : Line) (is : line_of words ≡ Some line) where
  pub has_reading : HasReading words
  has_reading none = none-some line (sym none ∙ is)

  -- what a line asks for is what the words ask for
  pub job_by_line : (m : Contents) (job : Job) → IsJobBehind line (get m line.script) job → IsJob words m job
  job_by_line m job behind = rw is behind

  pub job_of_text : (m : Contents) (text : List ℕ) (job : Job) → get m line.script ≡ Some text → IsJobBehind line (Some text) job
      → IsJob words m job
  job_of_text m text job held behind = job_by_line m job (subst (λ o. IsJobBehind line o job) (sym held) behind)

  job_of_none : (m : Contents) → get m line.script ≡ None → IsJob words m (Stops (Unread line.script))
  job_of_none m none = job_by_line m _ (subst (λ o. IsJobBehind line o (Stops (Unread line.script))) (sym none) refl)

  to_read : (Gives : Name → List ℕ → Type 0) (file : Name)
      → (file ≡ line.script)
      ⊎ ((text : List ℕ) × Gives line.script text × (commands : List Command) × IsScript text commands × IsNamed commands file)
      → IsToRead words Gives file
  to_read Gives file which = rw is which

module _ {F O : Type 0} (words : List Name) (line : Line) (is : line_of words ≡ Some line) (files : Files F) (out : Sink O) (x : F) where
  pub script_stops : (y : F) (u : O) (why : Reason)
      → StopsScript (files.told x) line.script (files.read_faults x) (files.read_faults y) (files.fault_name y) why
      → WorkStops words files out x y u u why
  script_stops y u (Unread name) (same, inl faulted) =
      let named = to_read words line is (GivesFirst (files.told x) (files.trace x) (files.trace y)) name (inl same) in
      let here = subst (λ f. Faulted f (files.read_faults x) (files.read_faults y) (files.fault_name y)) (sym same) faulted in
      ((named, inl here), λ m tells. inl refl)
  script_stops y u (Unread name) (same, inr (m, tells, none)) =
      let named = to_read words line is (GivesFirst (files.told x) (files.trace x) (files.trace y)) name (inl same) in
      ((named, inr (m, tells, inl (rw same (job_of_none words line is m none)))), λ m tells. inl refl)
  script_stops y u (Refused why) (not, faulty) =
      let job = λ (m : Contents) (tells : files.told x ≡ Some m).
      job_of_text words line is m (faulty m tells).0 (Stops (Refused why)) (faulty m tells).1 ((faulty m tells).2, not) in
      ((has_reading words line is, job), refl)
  script_stops y u WantOfMemory stop = λ m tells. inl refl
  script_stops y u _ stop = absurd stop

  -- the script was read, and then the commands were done
  module _ (y z : F) (u v : O) (commands : List Command)
      (said : Tells (files.told x) (λ m. (text : List ℕ) × (get m line.script ≡ Some text) × IsScript text commands))
      (P : List Event → Type 0) (read : Passes (files.trace x) (files.trace y) (ReadsScript (files.told x) line.script commands))
      (done : Passes (files.trace y) (files.trace z) P) where
    job : Tells (files.told x) (λ m. IsJob words m (Reports line.steps commands))
    job m tells = let s = said m tells in job_of_text words line is m s.0 (Reports line.steps commands) s.1 (s.2, refl)

    gained : Tells (files.told x) (λ m. HasGained m line.steps commands (out.told u) (out.told v))
        → Tells (files.told x) (λ m. ReportedPart words m (out.told u) (out.told v))
    gained gains m tells = (line.steps, commands, job m tells, gains m tells)

    named : (file : Name) → IsNamed commands file → IsToRead words (GivesFirst (files.told x) (files.trace x) (files.trace z)) file
    named file is_named =
        let gave = first_gives (files.trace x) (files.trace y) (files.trace z) (files.told x) line.script commands P read done in
        to_read words line is (GivesFirst (files.told x) (files.trace x) (files.trace z)) file
        (inr (gave.0, gave.1, commands, gave.2, is_named))

    pub reports : (m : Contents) → files.told x ≡ Some m → (all_ok : Bool) (status : ℕ)
        → HasReported m line.steps commands (out.told u) (out.told v) all_ok → status ≡ (if all_ok then 0 else 1)
        → Reported words m (out.told u) (out.told v) status
    reports m tells all_ok status (all, words_are, gained, ok_is) status_is =
        (line.steps, commands, job m tells, (all, words_are, gained, status_is ∙ ap (λ b. if b then 0 else 1) ok_is))

    pub report_stops : (why : Reason) → files.read_faults x ≤ files.read_faults y
        → StopsReport (files.told x) line.steps commands (files.read_faults y) (files.read_faults z) (files.fault_name z) (out.told u)
        (out.told v) (out.faults u) (out.faults v) why
        → WorkStops words files out x z u v why
    report_stops (Unread file) later (is_named, inl faulted, gains) =
        let rose = rose_from (files.read_faults x) (files.read_faults y) (files.read_faults z) later faulted.rose in
        ((named file is_named, inl (record { rose = rose; named = faulted.named })), λ m tells. inr (gained gains m tells))
    report_stops (Unread file) later (is_named, inr (m, tells, missing), gains) =
        ((named file is_named, inr (m, tells, inr (line.steps, commands, job m tells, missing))), λ m tells. inr (gained gains m tells))
    report_stops Unwritten later (rose, gains) = (rose, has_reading words line is, gained gains)
    report_stops WantOfMemory later gains = λ m tells. inr (gained gains m tells)
    report_stops _ later stop = absurd stop
