-- How a call of the code ends, and what passes through the files where no unit is written.
use Rattle.std.specs.Prelude.{◌≡◌, ◌⊎◌, ℕ, List, Result, Ok, Err}
use Rattle.w2c_io.specs.Contents.{Name}
use Rattle.w2c_io.specs.Events.{Event}
use Rattle.w2c_files.specs.Passing.{limited, ReadsInOrder}
use Rattle.crun_words.specs.Inputs.{most_unit_bytes}
use Rattle.crun_job.specs.declared.stop.Stop.{Stop}
use Rattle.crun_job.specs.Job.{Job, Stops}
use Rattle.crun_job.specs.Lines.{Reason, WantOfMemory}
use Rattle.crun_job.specs.Seen.{reason_of}
use Rattle.crun_units.specs.Passing.{IsUnitsJobOver}

-- ---- how a call ends

-- with status 0, where it gives nothing
abbrev pub done_by : Result (Unit {0}) Stop → ℕ → Type 0
done_by (Ok u) s = 0 ≡ s
done_by (Err stop) s = ⊥

abbrev pub stopped_by : {A : Type 0} → Result A Stop → Reason → Type 0
stopped_by (Ok x) why = ⊥
stopped_by (Err stop) why = reason_of stop ≡ why

-- ---- the units of a line

-- they were read in order, and memory was wanting or the job is refused
abbrev pub TriesUnit : List Name → (List (List ℕ) → Job → Type 0) → Reason → List Event → Type 0
TriesUnit units IsOf why events = ReadsInOrder (limited most_unit_bytes units) events
    × ((why ≡ WantOfMemory) ⊎ IsUnitsJobOver units IsOf events (Stops why))
