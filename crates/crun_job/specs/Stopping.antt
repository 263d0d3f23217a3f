-- Why there is no task: what each step says of its stop. Want of memory says nothing.
use Rattle.std.specs.Prelude.{◌≡◌, ◌⊎◌, ℕ, List, map, slice_get, Some}
use Rattle.w2c_io.specs.Contents.{Name}
use Rattle.c_tree.specs.View.{unit_of}
use Rattle.crun_words.specs.CommandLine.{RunLine}
use Rattle.crun_job.specs.declared.refusal.UnitsRefusal.{UnitsRefusal}
use Rattle.crun_job.specs.declared.refusal.UnitsRefusal.TheVariants as refusal
use Rattle.crun_job.specs.declared.task.Task.{Task}
use Rattle.crun_job.specs.Job.{IsTextsJob, Job, Run, Stops}
use Rattle.crun_job.specs.Lines.{Reason, CallsLine, Refused, WantOfMemory}
use Rattle.crun_job.specs.Links.{Symbols}
use Rattle.crun_job.specs.Seen.{calls_seen}

-- the run that a task is
abbrev pub job_of : Task → Job
job_of task = Run (map unit_of task.linked.0) (calls_seen task.calls.items) task.steps task.shows_state

-- the refusal of a unit, by its file
abbrev pub StopsUnit : List Name → UnitsRefusal → Reason → Type 0
StopsUnit names (refusal.Unit number why) reason =
    (reason ≡ WantOfMemory) ⊎ ((file : Name) × (slice_get names number ≡ Some file) × (reason ≡ Refused file why))
StopsUnit names refusal.Memory reason = reason ≡ WantOfMemory

-- why texts come to no task
abbrev pub StopsTexts : RunLine → Symbols → List (List ℕ) → List ℕ → Reason → Type 0
StopsTexts line symbols texts text (Refused file why) = IsTextsJob line symbols texts text (Stops (Refused file why))
StopsTexts line symbols texts text (CallsLine number) = IsTextsJob line symbols texts text (Stops (CallsLine number))
StopsTexts line symbols texts text WantOfMemory = Unit {0}
StopsTexts line symbols texts text _ = ⊥
