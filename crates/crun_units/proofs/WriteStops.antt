-- Where a unit that is to be written is not, from what each step says of its stop.
use Rattle.crun_units.proofs.Common.{◌≡◌, ℕ, zero, suc, ◌<◌, ◌⊎◌, List, [], ◌∷◌, map, length, get_or, slice_get, Some, string_bytes, sym}
use Rattle.crun_units.proofs.Common.{refl, ap, ◌∙◌, subst, inl, inr, arith, Contents, Name, Told, holding, Tells, print_of, IsTrimmed}
use Rattle.crun_units.proofs.Common.{MergeLine, TrimLine, AreUnits, NoUnit, StopsUnits, UnitTooLong, UnitsRead, InputStop, many_each, Job}
use Rattle.crun_units.proofs.Common.{Stops, Write, Reason, Refused, Unwritten, WantOfMemory, Symbols, RefusesTexts, RefusesUnits, reason_of}
use Rattle.crun_units.proofs.Common.{stop_for, StopsUnit, AreUnitTexts, IsUnitText, UnitsRefusal, Cause, AreUntouched, FilesSeen, IsMerged}
use Rattle.crun_units.proofs.Common.{IsTrimmedText, IsUnitsJob, StopsWrite}
use Rattle.std.proofs.lemmas.List.{length-map}
use Rattle.w2c_files.specs.Standing.{IsBegun}
use Rattle.c_tree.specs.Spelled.{CSpells}
use Rattle.c_tree.specs.Tree as tree
use Rattle.crun_words.specs.declared.inputs.InputStop.TheVariants as input
use Rattle.crun_job.specs.declared.refusal.UnitsRefusal.TheVariants as refusal
use Rattle.crun_units.specs.Output.{StopsOutput}
use Rattle.w2c_files.proofs.Standing.{one_at}

-- ---- before the unit is there

module _ (IsOf : List (List ℕ) → Job → Type 0) (units : List Name) (output : Name) (old new : FilesSeen)
    (untouched : AreUntouched old new) where
  abbrev Asks : Contents → Job → Type 0
  Asks contents job = IsUnitsJob contents units IsOf job

  abbrev Stopped : Reason → Type 0
  Stopped why = StopsWrite Asks units output old new why

  -- a file of the units is not read
  pub reading_stops : (stop : InputStop) → StopsUnits old.told units old.read_faults new.read_faults new.fault_name stop
      → Stopped (reason_of (stop_for stop))
  reading_stops (input.Unread name) (one, inl faulted) = (one, inl faulted, untouched)
  reading_stops (input.Unread name) (one, inr (m, tells, missing)) =
      (one, inr (m, tells, (NoUnit (string_bytes name), missing, refl)), untouched)
  reading_stops (input.UnitTooLong name) (one, long) = (one, (λ m tells. (UnitTooLong (string_bytes name), long m tells, refl)), untouched)
  reading_stops input.Memory stops = λ m tells. inl untouched
  reading_stops _ stops = absurd stops

  pub wanting_stops : Stopped WantOfMemory
  wanting_stops = λ m tells. inl untouched

  module _ (texts : List (List ℕ)) (read : Tells old.told (λ m. AreUnits m units texts)) where
    -- what the texts come to is what is asked for
    pub asked : (job : Job) → IsOf texts job → Tells old.told (λ m. Asks m job)
    asked job of = λ m tells. (UnitsRead texts, read m tells, of)

    -- a unit is refused
    pub refusal_stops : (r : UnitsRefusal) (reason : Reason)
        → ((number : ℕ) (why : Cause) (file : Name) → r ≡ refusal.Unit number why → slice_get units number ≡ Some file
        → IsOf texts (Stops (Refused file why)))
        → StopsUnit units r reason → Stopped reason
    refusal_stops (refusal.Unit k why) reason of (inl memory) = subst Stopped (sym memory) wanting_stops
    refusal_stops (refusal.Unit k why) reason of (inr (file, at, is)) =
        subst Stopped (sym is) (one_at units k file at, asked (Stops (Refused file why)) (of k why file refl at), untouched)
    refusal_stops refusal.Memory reason of memory = subst Stopped (sym memory) wanting_stops

-- the refusal of units that are to be merged, and of the unit that is to be trimmed
pub merge_refused : (line : MergeLine) (symbols : Symbols) (texts : List (List ℕ)) (r : UnitsRefusal) → RefusesUnits texts symbols r
    → (number : ℕ) (why : Cause) (file : Name) → r ≡ refusal.Unit number why → slice_get line.units number ≡ Some file
    → IsMerged line symbols texts (Stops (Refused file why))
merge_refused line symbols texts r refuses number why file is at =
    inr (number, file, why, at, subst (RefusesUnits texts symbols) is refuses, refl)

only_file : (unit : Name) (number : ℕ) (file : Name) → slice_get (unit ∷ []) number ≡ Some file → file ≡ unit
only_file unit zero file at = cc
only_file unit (suc number) file at = absurd cc

pub trim_refused : (line : TrimLine) (texts : List (List ℕ)) (r : UnitsRefusal) → RefusesTexts texts r
    → (number : ℕ) (why : Cause) (file : Name) → r ≡ refusal.Unit number why → slice_get (line.unit ∷ []) number ≡ Some file
    → IsTrimmedText line texts (Stops (Refused file why))
trim_refused line texts r refuses number why file is at =
    inr (number, why, subst (RefusesTexts texts) is refuses, ap (λ name. Stops (Refused name why)) (only_file line.unit number file at))

-- the only unit of the only text
pub one_unit : {A : Type 0} (f : A → List tree.Item) (texts : List (List ℕ)) (xs : List A) → AreUnitTexts texts (map f xs)
    → length texts ≡ 1 → length xs ≡ 1
one_unit f texts xs are one = let same = many_each IsUnitText texts (map f xs) are in omega (arith, same, one, length-map xs f)

only : {A B : Type 0} (f : A → B) (xs : List A) (x : A) → length xs ≡ 1 → x ≡ get_or xs 0 x → map f xs ≡ f x ∷ []
only f [] x one is = absurd (omega (arith, one))
only f (y ∷ []) x one is = ap (λ z. f z ∷ []) (sym is)
only f (y ∷ z ∷ ys) x one is = absurd (omega (arith, one))

pub trimmed_text : {A : Type 0} (f : A → List tree.Item) (line : TrimLine) (texts : List (List ℕ)) (xs : List A) (x : A)
    (trimmed : List tree.Item) → AreUnitTexts texts (map f xs) → length texts ≡ 1 → x ≡ get_or xs 0 x → IsTrimmed (f x) trimmed
    → IsTrimmedText line texts (Write line.output trimmed)
trimmed_text f line texts xs x trimmed are one is by = inl (
  f x,
  trimmed,
  subst (AreUnitTexts texts) (only f xs x (one_unit f texts xs are one) is) are,
  by,
  refl,
)

-- ---- behind it

-- a stop with nothing read in between
pub output_stops : (Asks : Contents → Job → Type 0) (units : List Name) (output : Name) (unit : List tree.Item) (old mid new : FilesSeen)
    (why : Reason) → Tells old.told (λ m. Asks m (Write output unit)) → mid.told ≡ old.told → mid.write_faults ≡ old.write_faults
    → StopsOutput unit output mid new why → StopsWrite Asks units output old new why
output_stops Asks units output unit old mid new Unwritten asks same faults (faulted, begun) = (
  record { rose = rw (sym faults) faulted.rose; named = faulted.named },
  λ m tells. (unit, asks m tells, subst (λ told. IsBegun told new.told output (print_of unit)) same begun),
)
output_stops Asks units output unit old mid new WantOfMemory asks same faults begun =
    λ m tells. inr (unit, asks m tells, subst (λ told. IsBegun told new.told output (print_of unit)) same begun)
output_stops Asks units output unit old mid new _ asks same faults stops = absurd stops

-- no other file changes
abbrev KeepsOthers : Told → Told → Name → Type 0
KeepsOthers old new output = (new ≡ old) ⊎ ((text : List ℕ) × (new ≡ holding old output text))

begun_keeps : (old mid new : Told) (output : Name) (text : List ℕ) → mid ≡ old → IsBegun mid new output text → KeepsOthers old new output
begun_keeps old mid new output text same (inl is) = inl (is ∙ same)
begun_keeps old mid new output text same (inr (part, front, is)) = inr (part, is ∙ ap (λ told. holding told output part) same)

pub stop_keeps : (output : Name) (unit : List tree.Item) (old : Told) (mid new : FilesSeen) (why : Reason) → mid.told ≡ old
    → StopsOutput unit output mid new why → KeepsOthers old new.told output
stop_keeps output unit old mid new Unwritten same stops = begun_keeps old mid.told new.told output (print_of unit) same stops.1
stop_keeps output unit old mid new WantOfMemory same stops = begun_keeps old mid.told new.told output (print_of unit) same stops
stop_keeps output unit old mid new _ same stops = absurd stops

-- the whole text is written
pub wrote : (Asks : Contents → Job → Type 0) (output : Name) (unit : List tree.Item) (old mid new : Told)
    → Tells old (λ m. Asks m (Write output unit)) → mid ≡ old → CSpells unit (print_of unit) → new ≡ holding mid output (print_of unit)
    → Tells old (λ m. (unit : List tree.Item) × Asks m (Write output unit) × CSpells unit (print_of unit)
    × (new ≡ holding old output (print_of unit)))
wrote Asks output unit old mid new asks same spells whole =
    λ m tells. (unit, asks m tells, spells, whole ∙ ap (λ told. holding told output (print_of unit)) same)
