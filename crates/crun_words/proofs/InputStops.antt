-- Where reading the units and the calls file stops.
use Rattle.crun_words.proofs.Common.{◌≡◌, ℕ, ◌*◌, ◌<◌, ◌≤◌, ◌⊎◌, List, [], ◌∷◌, length, slice_get, Some, None, Option, sym, refl, ap, ◌∙◌}
use Rattle.crun_words.proofs.Common.{subst, inl, inr, arith, length-append, same_Some, AllByRecursion, rose_from, Contents, Name, Told}
use Rattle.crun_words.proofs.Common.{IsUnreadable, Missing, Past, StopsReading, TooLong, total, ReadStop, AllRead, AreUnits, HasUnits, Held}
use Rattle.crun_words.proofs.Common.{IsJournalReading, IsLongUnit, IsReading, IsUnitsReading, JournalReading, LongCalls, LongJournal}
use Rattle.crun_words.proofs.Common.{LongUnit, NoJournal, NoUnit, NotThere, Reading, StopsCalls, StopsInputs, StopsUnits, UnitTooLong}
use Rattle.crun_words.proofs.Common.{UnitsRead, UnitsReading, most_calls_bytes, most_journal_bytes, most_unit_bytes, most_units_bytes}
use Rattle.crun_words.proofs.Common.{InputStop, slice_get_within}
use Rattle.std.specs.FinMap.{get}
use Rattle.w2c_io.specs.Causes.{Faulted}
use Rattle.w2c_io.specs.Telling.{Tells}
use Rattle.w2c_files.specs.declared.reading.ReadStop.TheVariants as read
use Rattle.w2c_files.specs.Stopping.{StopsAt}
use Rattle.w2c_files.proofs.Stops.{one_stop, no_stop, same_bytes}
use Rattle.w2c_files.proofs.Honest.{as_many}
use Rattle.crun_words.specs.declared.inputs.InputStop.TheVariants as stop

module _ (each most : ℕ) (told : Told) (names : List Name) (before after : ℕ) (named : Option Name) (k : ℕ) (why : ReadStop)
    (stops : StopsAt each most told names before after named why) where
  pub long_within : why ≡ read.TooLong k → k < length names
  long_within is = by_name (subst (StopsAt each most told names before after named) is stops)
    where
      by_name : StopsAt each most told names before after named (read.TooLong k) → k < length names
      by_name (name, at, long) = slice_get_within names k name at

  pub past_within : (place : ℕ) → why ≡ read.Past k place → k < length names
  past_within place is = by_name (subst (StopsAt each most told names before after named) is stops)
    where
      by_name : StopsAt each most told names before after named (read.Past k place) → k < length names
      by_name (within, name, at, past) = slice_get_within names k name at

-- ---- 16 units do not pass the limit of all

pub units_bytes : (texts : List (List ℕ)) → AllByRecursion (λ text. length text ≤ most_unit_bytes) texts
    → total texts ≤ most_unit_bytes * length texts
units_bytes [] fit = omega arith
units_bytes (text ∷ texts) fit = let more = units_bytes texts fit.1 in omega (arith, more, fit.0)

pub never_past : (contents : Contents) (names : List Name) (name : Name) (place : ℕ) → length names ≤ 16
    → StopsReading most_unit_bytes most_units_bytes contents names name (Past place) → ⊥
never_past contents names name place few s =
    let stops : IsUnreadable most_unit_bytes most_units_bytes (total s.all) contents name (Past place) = s.stops in
    let split = ap length s.split ∙ length-append s.front (name ∷ s.rest) in
    omega (arith, few, units_bytes s.all s.read.fit, as_many contents s.front s.all s.read.held, split, stops.2, stops.3)

-- ---- the units

module _ (told : Told) (names : List Name) (before after : ℕ) (named : Option Name) (k : ℕ) (name : Name)
    (at : slice_get names k ≡ Some name) where
  pub unread : (why : ReadStop) → why ≡ read.Unread k → StopsAt most_unit_bytes most_units_bytes told names before after named why
      → Faulted name before after named
      ⊎ ((contents : Contents) × (told ≡ Some contents) × StopsReading most_unit_bytes most_units_bytes contents names name Missing)
  unread why is stops = by_name (subst (StopsAt most_unit_bytes most_units_bytes told names before after named) is stops)
    where
      by_name : StopsAt most_unit_bytes most_units_bytes told names before after named (read.Unread k)
          → Faulted name before after named
          ⊎ ((contents : Contents) × (told ≡ Some contents) × StopsReading most_unit_bytes most_units_bytes contents names name Missing)
      by_name (other, at_other, unread) = subst
          (λ (n : Name). Faulted n before after named
          ⊎ ((contents : Contents) × (told ≡ Some contents) × StopsReading most_unit_bytes most_units_bytes contents names n Missing))
          (same_Some other name (sym at_other ∙ at)) unread

  pub too_long : (why : ReadStop) → why ≡ read.TooLong k → StopsAt most_unit_bytes most_units_bytes told names before after named why
      → Tells told (λ contents. IsLongUnit contents names name)
  too_long why is stops = by_name (subst (StopsAt most_unit_bytes most_units_bytes told names before after named) is stops)
    where
      by_name : StopsAt most_unit_bytes most_units_bytes told names before after named (read.TooLong k)
          → Tells told (λ contents. IsLongUnit contents names name)
      by_name (other, at_other, long) = rw (same_Some other name (sym at_other ∙ at)) at long

  pub past : (why : ReadStop) (place : ℕ) → why ≡ read.Past k place → length names ≤ 16
      → StopsAt most_unit_bytes most_units_bytes told names before after named why → Tells told (λ contents. IsLongUnit contents names name)
  past why place is few stops = by_name (subst (StopsAt most_unit_bytes most_units_bytes told names before after named) is stops)
    where
      by_name : StopsAt most_unit_bytes most_units_bytes told names before after named (read.Past k place)
          → Tells told (λ contents. IsLongUnit contents names name)
      by_name (within, other, at_other, past) = λ contents tells. absurd (never_past contents names other place few (past contents tells))

-- ---- both

pub stops_at_unit : (told : Told) (units : List Name) (calls : Name) (before after : ℕ) (named : Option Name) (why : InputStop)
    → StopsUnits told units before after named why → StopsInputs told units calls before after named why
stops_at_unit told units calls before after named (stop.Unread name) (one, inl faulted) = (inl one, inl faulted)
stops_at_unit told units calls before after named (stop.Unread name) (one, inr (contents, is, missing)) =
    (inl one, inr (contents, is, inl missing))
stops_at_unit told units calls before after named (stop.UnitTooLong name) s = s
stops_at_unit told units calls before after named stop.Memory s = tt
stops_at_unit told units calls before after named _ s = absurd s

pub stops_at_calls : (told : Told) (units : List Name) (calls : Name) (start before after : ℕ) (named : Option Name) (why : InputStop)
    → start ≤ before
    → Tells told (λ contents. HasUnits contents units) → StopsCalls told calls before after named why
    → StopsInputs told units calls start after named why
stops_at_calls told units calls start before after named (stop.Unread name) later has (same, inl faulted) =
    (inr same, inl (record { rose = rose_from start before after later faulted.rose; named = faulted.named }))
stops_at_calls told units calls start before after named (stop.Unread name) later has (same, inr (contents, is, none)) =
    (inr same, inr (contents, is, inr (same, has contents is, none)))
stops_at_calls told units calls start before after named stop.CallsTooLong later has s =
    λ contents tells. (has contents tells, s contents tells)
stops_at_calls told units calls start before after named stop.Memory later has s = tt
stops_at_calls told units calls start before after named _ later has s = absurd s

-- ---- one reading at most

module _ (contents : Contents) (name : Name) where
  no_text : (text : List ℕ) → get contents name ≡ None → get contents name ≡ Some text → ⊥
  no_text text none some = cc

  same_text : (text other : List ℕ) → get contents name ≡ Some text → get contents name ≡ Some other → text ≡ other
  same_text text other is is' = cc

  too_long_and_fit : (most : ℕ) (text other : List ℕ) → get contents name ≡ Some text → get contents name ≡ Some other → length text ≤ most
      → most < length other → ⊥
  too_long_and_fit most text other is is' fits long =
      let same : length text ≡ length other = ap length (same_text text other is is') in omega (arith, same, fits, long)

  pub one_journal_reading : (a b : JournalReading) → IsJournalReading contents name a → IsJournalReading contents name b → a ≡ b
  one_journal_reading (Held text) (Held other) r s = ap Held (same_text text other r.0 s.0)
  one_journal_reading (Held text) NoJournal r s = absurd (no_text text s r.0)
  one_journal_reading (Held text) LongJournal r (other, is, long) = absurd (too_long_and_fit most_journal_bytes text other r.0 is r.1 long)
  one_journal_reading NoJournal (Held text) r s = absurd (no_text text r s.0)
  one_journal_reading NoJournal LongJournal r (other, is, long) = absurd (no_text other r is)
  one_journal_reading LongJournal (Held text) (other, is, long) s = absurd (too_long_and_fit most_journal_bytes text other s.0 is s.1 long)
  one_journal_reading LongJournal NoJournal (other, is, long) s = absurd (no_text other s is)
  one_journal_reading _ _ r s = refl

module _ (contents : Contents) (units : List Name) where
  read_all : (name : Name) (texts : List (List ℕ)) → AreUnits contents units texts
      → StopsReading most_unit_bytes most_units_bytes contents units name Missing → ⊥
  read_all name texts are stops = no_stop most_unit_bytes most_units_bytes contents units name Missing texts stops are

  read_short : (name : Name) (texts : List (List ℕ)) → AreUnits contents units texts → IsLongUnit contents units name → ⊥
  read_short name texts are stops = no_stop most_unit_bytes most_units_bytes contents units name TooLong texts stops are

  two_reasons : (name other : Name) → StopsReading most_unit_bytes most_units_bytes contents units name Missing
      → IsLongUnit contents units other → ⊥
  two_reasons name other missing long =
      let same : Missing ≡ TooLong = (one_stop most_unit_bytes most_units_bytes contents units name other Missing TooLong missing long).1 in
      cc

  one_missing : (name other : Name) → StopsReading most_unit_bytes most_units_bytes contents units name Missing
      → StopsReading most_unit_bytes most_units_bytes contents units other Missing → name ≡ other
  one_missing name other s t = (one_stop most_unit_bytes most_units_bytes contents units name other Missing Missing s t).0

  one_long : (name other : Name) → IsLongUnit contents units name → IsLongUnit contents units other → name ≡ other
  one_long name other s t = (one_stop most_unit_bytes most_units_bytes contents units name other TooLong TooLong s t).0

  same_units : (texts others : List (List ℕ)) → AreUnits contents units texts → AreUnits contents units others → texts ≡ others
  same_units texts others r s = same_bytes most_unit_bytes most_units_bytes contents units texts others r s

  pub one_units_reading : (a b : UnitsReading) → IsUnitsReading contents units a → IsUnitsReading contents units b → a ≡ b
  one_units_reading (UnitsRead texts) (UnitsRead others) r s = ap UnitsRead (same_units texts others r s)
  one_units_reading (UnitsRead texts) (NoUnit name) r s = absurd (read_all name texts r s)
  one_units_reading (UnitsRead texts) (UnitTooLong name) r s = absurd (read_short name texts r s)
  one_units_reading (NoUnit name) (UnitsRead texts) r s = absurd (read_all name texts s r)
  one_units_reading (NoUnit name) (NoUnit other) r s = ap NoUnit (one_missing name other r s)
  one_units_reading (NoUnit name) (UnitTooLong other) r s = absurd (two_reasons name other r s)
  one_units_reading (UnitTooLong name) (UnitsRead texts) r s = absurd (read_short name texts s r)
  one_units_reading (UnitTooLong name) (NoUnit other) r s = absurd (two_reasons other name s r)
  one_units_reading (UnitTooLong name) (UnitTooLong other) r s = ap UnitTooLong (one_long name other r s)

  module _ (calls : Name) where
    pub one_reading : (a b : Reading) → IsReading contents units calls a → IsReading contents units calls b → a ≡ b
    one_reading (AllRead texts text) (AllRead others other) r s =
        let units_same : texts ≡ others = same_units texts others r.units_are s.units_are in
        let calls_same : text ≡ other = same_text contents calls text other r.calls_are s.calls_are in
        λ i. AllRead (units_same i) (calls_same i)
    one_reading (AllRead texts text) (NotThere name) r (inl s) = absurd (read_all name texts r.units_are s)
    one_reading (AllRead texts text) (NotThere name) r (inr s) = absurd (no_text contents calls text s.2 r.calls_are)
    one_reading (AllRead texts text) (LongUnit name) r s = absurd (read_short name texts r.units_are s)
    one_reading (AllRead texts text) LongCalls r (has, (other, is, long)) =
        absurd (too_long_and_fit contents calls most_calls_bytes text other r.calls_are is r.calls_fit long)
    one_reading (NotThere name) (AllRead texts text) (inl r) s = absurd (read_all name texts s.units_are r)
    one_reading (NotThere name) (AllRead texts text) (inr r) s = absurd (no_text contents calls text r.2 s.calls_are)
    one_reading (NotThere name) (NotThere other) (inl r) (inl s) = ap NotThere (one_missing name other r s)
    one_reading (NotThere name) (NotThere other) (inl r) (inr s) = absurd (read_all name s.1.0 s.1.1 r)
    one_reading (NotThere name) (NotThere other) (inr r) (inl s) = absurd (read_all other r.1.0 r.1.1 s)
    one_reading (NotThere name) (NotThere other) (inr r) (inr s) = ap NotThere (r.0 ∙ sym s.0)
    one_reading (NotThere name) (LongUnit other) (inl r) s = absurd (two_reasons name other r s)
    one_reading (NotThere name) (LongUnit other) (inr r) s = absurd (read_short other r.1.0 r.1.1 s)
    one_reading (NotThere name) LongCalls (inl r) s = absurd (read_all name s.0.0 s.0.1 r)
    one_reading (NotThere name) LongCalls (inr r) (has, (other, is, long)) = absurd (no_text contents calls other r.2 is)
    one_reading (LongUnit name) (AllRead texts text) r s = absurd (read_short name texts s.units_are r)
    one_reading (LongUnit name) (NotThere other) r (inl s) = absurd (two_reasons other name s r)
    one_reading (LongUnit name) (NotThere other) r (inr s) = absurd (read_short name s.1.0 s.1.1 r)
    one_reading (LongUnit name) (LongUnit other) r s =
        ap LongUnit (one_long name other r s)
    one_reading (LongUnit name) LongCalls r s = absurd (read_short name s.0.0 s.0.1 r)
    one_reading LongCalls (AllRead texts text) (has, (other, is, long)) s =
        absurd (too_long_and_fit contents calls most_calls_bytes text other s.calls_are is s.calls_fit long)
    one_reading LongCalls (NotThere name) r (inl s) = absurd (read_all name r.0.0 r.0.1 s)
    one_reading LongCalls (NotThere name) (has, (other, is, long)) (inr s) = absurd (no_text contents calls other s.2 is)
    one_reading LongCalls (LongUnit name) r s = absurd (read_short name r.0.0 r.0.1 s)
    one_reading LongCalls LongCalls r s = refl
