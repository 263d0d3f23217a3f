-- What passes through the files where a unit is written, from what its steps say.
use Rattle.crun_units.proofs.Common.{◌≡◌, ℕ, ◌⊎◌, List, [], ◌++◌, slice_get, Some, string_bytes, sym, refl, subst, inl, inr, append-nil}
use Rattle.crun_units.proofs.Common.{Name, NoUnit, UnitTooLong, UnitsRead, most_unit_bytes, GivesUnits, TriesUnits, InputStop, Job, Run}
use Rattle.crun_units.proofs.Common.{Stops, Write, Reason, Refused, WantOfMemory, reason_of, stop_for, StopsUnit, UnitsRefusal, Cause}
use Rattle.crun_units.proofs.Common.{IsUnitsJobOver, PassesBy, PassesUnits, WritesOutput, WritesUnit, reason_for, TriesUnit}
use Rattle.w2c_io.specs.Events.{Event}
use Rattle.c_tree.specs.Tree as tree
use Rattle.crun_words.specs.declared.inputs.InputStop.TheVariants as input
use Rattle.w2c_files.specs.Passing.{limited}
use Rattle.crun_words.proofs.Passing.{units_in_order}
use Rattle.crun_job.specs.declared.refusal.UnitsRefusal.TheVariants as refusal

-- ---- a unit that is written

module _ (units : List Name) (IsOf : List (List ℕ) → Job → Type 0) where
  -- a file of the units is not read
  pub reading_tried : (stop : InputStop) (events : List Event) → TriesUnits units stop events
      → TriesUnit units IsOf (reason_of (stop_for stop)) events
  reading_tried (input.Unread name) events tried =
      let reading = NoUnit (string_bytes name) in (units_in_order units reading events tried, inr (reading, tried, refl))
  reading_tried (input.UnitTooLong name) events tried =
      let reading = UnitTooLong (string_bytes name) in (units_in_order units reading events tried, inr (reading, tried, refl))
  reading_tried input.Memory events tried = (tried, inl refl)
  reading_tried _ events tried = absurd tried

  module _ (texts : List (List ℕ)) (events : List Event) (gave : GivesUnits units (UnitsRead texts) events) where
    pub wanting_tried : TriesUnit units IsOf WantOfMemory events
    wanting_tried = (units_in_order units (UnitsRead texts) events gave, inl refl)

    -- a unit is refused
    pub refusal_tried : (r : UnitsRefusal) (reason : Reason)
        → ((number : ℕ) (why : Cause) (file : Name) → r ≡ refusal.Unit number why → slice_get units number ≡ Some file
        → IsOf texts (Stops (Refused file why)))
        → StopsUnit units r reason → TriesUnit units IsOf reason events
    refusal_tried (refusal.Unit k why) reason of (inl memory) = rw memory wanting_tried
    refusal_tried (refusal.Unit k why) reason of (inr (file, at, is)) =
        subst (λ w. TriesUnit units IsOf w events) (sym is)
        (units_in_order units (UnitsRead texts) events gave, inr (UnitsRead texts, gave, of k why file refl at))
    refusal_tried refusal.Memory reason of memory = subst (λ w. TriesUnit units IsOf w events) (sym memory) wanting_tried

    pub unit_asked : (job : Job) → IsOf texts job → IsUnitsJobOver units IsOf events job
    unit_asked job of = (UnitsRead texts, gave, of)

  module _ (Ends : ℕ → Type 0) (Stopped : Reason → Type 0) where
    pub unit_refused : (why : Reason) (events : List Event) → TriesUnit units IsOf why events → Stopped why
        → PassesUnits units IsOf Ends Stopped events
    unit_refused why events (reads, by) stopped = record {
      given = events;
      written = [];
      split = sym (append-nil events);
      reads = reads;
      follows = go by;
    }
      where
        go : (why ≡ WantOfMemory) ⊎ IsUnitsJobOver units IsOf events (Stops why)
            → (◌≡◌ {A = List Event} [] [] × Stopped WantOfMemory)
            ⊎ ((job : Job) × IsUnitsJobOver units IsOf events job × WritesOutput Ends Stopped job [])
        go (inl memory) = inl (refl, subst Stopped memory stopped)
        go (inr asked) = inr (Stops why, asked, (refl, stopped))

    -- memory is wanting before anything is read
    pub units_wanting : Stopped WantOfMemory → PassesUnits units IsOf Ends Stopped []
    units_wanting stopped = record { given = []; written = []; split = refl; reads = tt; follows = inl (refl, stopped) }

    pub unit_written : (output : Name) (unit : List tree.Item) (first last : List Event)
        → IsUnitsJobOver units IsOf first (Write output unit) → WritesUnit Ends Stopped output unit last
        → PassesUnits units IsOf Ends Stopped (first ++ last)
    unit_written output unit first last (reading, gave, behind) writes = record {
      given = first;
      written = last;
      split = refl;
      reads = units_in_order units reading first gave;
      follows = inr (Write output unit, (reading, gave, behind), writes);
    }

-- ---- another end

-- it is enough that what is written is as is asked, and that memory is wanting as is asked
pub by_so : (files : List (Name × ℕ)) (Asks : List Event → Job → Type 0) (Writes Writes' : List Event → Job → List Event → Type 0)
    (Wants Wants' : Reason → Type 0) → ((given : List Event) (job : Job) (written : List Event) → Writes given job written
    → Writes' given job written) → (Wants WantOfMemory → Wants' WantOfMemory)
    → (events : List Event) → PassesBy files Asks Writes Wants events → PassesBy files Asks Writes' Wants' events
by_so files Asks Writes Writes' Wants Wants' so wants events p = record {
  given = p.given;
  written = p.written;
  split = p.split;
  reads = p.reads;
  follows = go p.follows;
}
  where
    go : ((p.written ≡ []) × Wants WantOfMemory) ⊎ ((job : Job) × Asks p.given job × Writes p.given job p.written)
        → ((p.written ≡ []) × Wants' WantOfMemory) ⊎ ((job : Job) × Asks p.given job × Writes' p.given job p.written)
    go (inl (nothing, wanting)) = inl (nothing, wants wanting)
    go (inr (job, asks, of)) = inr (job, asks, so p.given job p.written of)

-- and that a call ends as is asked, and stops as is asked
module _ (Ends Ends' : ℕ → Type 0) (Stopped Stopped' : Reason → Type 0) (ends : (status : ℕ) → Ends status → Ends' status)
    (stops : (why : Reason) → Stopped why → Stopped' why) where
  output_so : (job : Job) (written : List Event) → WritesOutput Ends Stopped job written → WritesOutput Ends' Stopped' job written
  output_so (Stops why) written (nothing, stopped) = (nothing, stops why stopped)
  output_so (Write output unit) written (inl (whole, spells, ended)) = inl (whole, spells, ends 0 ended)
  output_so (Write output unit) written (inr (why, broken, stopped)) = inr (why, broken, stops (reason_for why) stopped)
  output_so (Run units calls steps shown) written of = absurd of

  pub units_so : (units : List Name) (IsOf : List (List ℕ) → Job → Type 0) (events : List Event)
      → PassesUnits units IsOf Ends Stopped events → PassesUnits units IsOf Ends' Stopped' events
  units_so units IsOf events p = by_so (limited most_unit_bytes units) (IsUnitsJobOver units IsOf) (λ given. WritesOutput Ends Stopped)
      (λ given. WritesOutput Ends' Stopped') Stopped Stopped' (λ given. output_so) (stops WantOfMemory) events p
