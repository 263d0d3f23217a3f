-- Over files that behave as files reading comes to what it comes to over what they hold, but where the last read failed.
use Rattle.crun_words.proofs.Common.{◌≡◌, ℕ, ◌+◌, ◌-◌, ◌≤◌, ◌⊎◌, List, [], ◌∷◌, ◌++◌, length, Some, Ok, Err, Option, Result, sym, refl, ap}
use Rattle.crun_words.proofs.Common.{◌∙◌, subst, inl, inr, arith, length-append, Contents, Name, Told, Event, Read, ReadAnswer, FailsLast}
use Rattle.crun_words.proofs.Common.{ReadsAll, AreRead, total, AllRead, Held, IsJournalReading, IsReading, IsUnitsReading, JournalReading}
use Rattle.crun_words.proofs.Common.{LongCalls, LongJournal, LongUnit, NoJournal, NoUnit, NotThere, Reading, UnitTooLong, UnitsRead}
use Rattle.crun_words.proofs.Common.{UnitsReading, most_calls_bytes, most_journal_bytes, most_unit_bytes, most_units_bytes, GivesInputs}
use Rattle.crun_words.proofs.Common.{GivesJournal, GivesUnits, IsAway, IsOver, ReadsUnto}
use Rattle.w2c_io.specs.Honest.{AreHonest, Does}
use Rattle.w2c_io.specs.declared.answers.ReadAnswer.TheVariants as reading
use Rattle.w2c_files.proofs.Honest.{honest_both, reads_are, as_many}
use Rattle.crun_words.proofs.InputStops.{units_bytes}

-- ---- the file that was read last could not be read

abbrev pub FailsUnits : UnitsReading → List Event → Type 0
FailsUnits (NoUnit name) events = FailsLast name events
FailsUnits (UnitsRead texts) events = ⊥
FailsUnits (UnitTooLong name) events = ⊥

abbrev pub FailsInputs : Reading → List Event → Type 0
FailsInputs (NotThere name) events = FailsLast name events
FailsInputs (AllRead texts text) events = ⊥
FailsInputs (LongUnit name) events = ⊥
FailsInputs LongCalls events = ⊥

abbrev pub FailsJournal : Name → JournalReading → List Event → Type 0
FailsJournal name NoJournal events = FailsLast name events
FailsJournal name (Held text) events = ⊥
FailsJournal name LongJournal events = ⊥

module _ (m : Contents) where
  -- what the last read found
  abbrev Finds : Name → ℕ → Result (List ℕ) ReadAnswer → Told → Option Name → Type 0
  Finds name most answer new after = (current : Option Name) × Does (Read name most answer) (Some m) current new after

  one_read : (name : Name) (most : ℕ) (answer : Result (List ℕ) ReadAnswer) (current : Option Name) (new : Told) (after : Option Name)
      → AreHonest (Read name most answer ∷ []) (Some m) current new after → Finds name most answer new after
  one_read name most answer current new after (told, n, does, same) = (
    current,
    subst (λ (t : Told). Does (Read name most answer) (Some m) current t after) (sym same.0) (rw same.1 does),
  )

  -- no more than 16 files are read
  all_read : (names : List Name) (all : List (List ℕ)) (events : List Event) (current : Option Name) (new : Told) (after : Option Name)
      → length names ≤ 16 → ReadsAll most_unit_bytes names all events → AreHonest events (Some m) current new after
      → AreRead most_unit_bytes most_units_bytes m names all
  all_read names all events current new after few gave honest =
      let (held, kept, fit) = reads_are most_unit_bytes names all events m (Some m) new current after refl gave honest in
      record {
        held = held;
        fit = fit;
        together = (let sum = units_bytes all fit in let many = as_many m names all held in omega (arith, sum, many, few));
      }

  -- files that gave bytes, and then one
  then_one : (names : List Name) (all : List (List ℕ)) (first events : List Event) (name : Name) (most : ℕ)
      (answer : Result (List ℕ) ReadAnswer) (current : Option Name) (new : Told) (after : Option Name) → length names ≤ 16
      → ReadsAll most_unit_bytes names all first → events ≡ first ++ Read name most answer ∷ []
      → AreHonest events (Some m) current new after
      → AreRead most_unit_bytes most_units_bytes m names all × Finds name most answer new after
  then_one names all first events name most answer current new after few gave is honest =
      let last : List Event = Read name most answer ∷ [] in
      let both = honest_both first last (Some m) new current after (rw is at honest) in
      let kept = (reads_are most_unit_bytes names all first m (Some m) both.0 current both.1 refl gave both.2).1 in (
        all_read names all first current both.0 both.1 few gave both.2,
        one_read name most answer both.1 new after (subst (λ (t : Told). AreHonest last t both.1 new after) kept both.3),
      )

  module _ (units : List Name) (few : length units ≤ 16) (current : Option Name) (new : Told) (after : Option Name) where
    few_front : (front rest : List Name) (name : Name) → units ≡ front ++ name ∷ rest → length front + 1 ≤ 16
    few_front front rest name split =
        let many = ap length split ∙ length-append front (name ∷ rest) in omega (arith, many, few)

    -- the unit that was read last
    abbrev Last : Name → List (List ℕ) → Result (List ℕ) ReadAnswer → List Name → Type 0
    Last name texts answer front = (length front + 1 ≤ 16) × AreRead most_unit_bytes most_units_bytes m front texts
        × Finds name most_unit_bytes answer new after

    the_last : (name : Name) (texts : List (List ℕ)) (answer : Result (List ℕ) ReadAnswer) (events : List Event)
        (u : ReadsUnto units name texts answer events) → AreHonest events (Some m) current new after → Last name texts answer u.front
    the_last name texts answer events u honest =
        let short = few_front u.front u.rest name u.split in
        let found = then_one u.front texts u.first events name most_unit_bytes answer current new after (omega (arith, short))
        u.gave u.calls honest in
        (short, found.0, found.1)

    pub units_honest : (r : UnitsReading) (events : List Event) → GivesUnits units r events → AreHonest events (Some m) current new after
        → (IsUnitsReading m units r ⊎ FailsUnits r events) × (new ≡ Some m)
    units_honest (UnitsRead texts) events gave honest = (
      inl (all_read units texts events current new after few gave honest),
      (reads_are most_unit_bytes units texts events m (Some m) new current after refl gave honest).1,
    )
    units_honest (NoUnit name) events (texts, answer, away, u) honest =
        by answer away u.front (the_last name texts answer events u honest) u.rest u.split u.first u.calls
      where
        by : (answer : Result (List ℕ) ReadAnswer) → IsAway answer → (front : List Name) → Last name texts answer front
            → (rest : List Name) → units ≡ front ++ name ∷ rest → (first : List Event)
            → events ≡ first ++ Read name most_unit_bytes answer ∷ []
            → (IsUnitsReading m units (NoUnit name) ⊎ FailsLast name events) × (new ≡ Some m)
        by (Ok bytes) away front last rest split first calls = absurd away
        by (Err reading.Absent) away front (short, read, (c, does)) rest split first calls =
            (inl (record { front = front; rest = rest; all = texts; split = split; read = read; stops = does.0 }), does.1)
        by (Err reading.Failed) away front (short, read, (c, does)) rest split first calls =
            (inr (first, most_unit_bytes, calls), does.0)
        by (Err reading.TooLong) away front last rest split first calls = absurd away
        by (Err reading.Memory) away front last rest split first calls = absurd away
    units_honest (UnitTooLong name) events (texts, answer, over, u) honest =
        by answer over u.front (the_last name texts answer events u honest) u.rest u.split
      where
        by : (answer : Result (List ℕ) ReadAnswer) → IsOver (most_units_bytes - total texts) answer → (front : List Name)
            → Last name texts answer front → (rest : List Name) → units ≡ front ++ name ∷ rest
            → (IsUnitsReading m units (UnitTooLong name) ⊎ FailsUnits (UnitTooLong name) events) × (new ≡ Some m)
        by (Ok bytes) over front (short, read, (c, does)) rest split = absurd
            (let sum = units_bytes texts read.fit in let many = as_many m front texts read.held in let fits = does.3 in
            omega (arith, over, short, sum, many, fits))
        by (Err reading.TooLong) over front (short, read, (c, does)) rest split =
            (inl (record { front = front; rest = rest; all = texts; split = split; read = read; stops = does.0 }), does.1)
        by (Err reading.Absent) over front last rest split = absurd over
        by (Err _) over front last rest split = absurd over

    pub inputs_honest : (calls : Name) (r : Reading) (events : List Event) → GivesInputs units calls r events
        → AreHonest events (Some m) current new after → (IsReading m units calls r ⊎ FailsInputs r events) × (new ≡ Some m)
    inputs_honest calls (AllRead texts text) events (first, gave, is) honest =
        let found = then_one units texts first events calls most_calls_bytes (Ok text) current new after few gave is honest in
        (inl (record { units_are = found.0; calls_are = found.1.1.0; calls_fit = found.1.1.3 }), found.1.1.1)
    inputs_honest calls (NotThere name) events (inl unit) honest = go (units_honest (NoUnit name) events unit honest)
      where
        go : (IsUnitsReading m units (NoUnit name) ⊎ FailsLast name events) × (new ≡ Some m)
            → (IsReading m units calls (NotThere name) ⊎ FailsLast name events) × (new ≡ Some m)
        go (inl missing, kept) = (inl (inl missing), kept)
        go (inr fails, kept) = (inr fails, kept)
    inputs_honest calls (NotThere name) events (inr (same, texts, answer, away, (first, gave, is))) honest =
        by answer away (then_one units texts first events calls most_calls_bytes answer current new after few gave is honest) is
      where
        by : (answer : Result (List ℕ) ReadAnswer) → IsAway answer
            → AreRead most_unit_bytes most_units_bytes m units texts × Finds calls most_calls_bytes answer new after
            → events ≡ first ++ Read calls most_calls_bytes answer ∷ []
            → (IsReading m units calls (NotThere name) ⊎ FailsLast name events) × (new ≡ Some m)
        by (Ok bytes) away found calls_is = absurd away
        by (Err reading.Absent) away (read, (c, does)) calls_is = (inl (inr (same, (texts, read), does.0)), does.1)
        by (Err reading.Failed) away (read, (c, does)) calls_is =
            (inr (subst (λ (n : Name). FailsLast n events) (sym same) (first, most_calls_bytes, calls_is)), does.0)
        by (Err reading.TooLong) away found calls_is = absurd away
        by (Err reading.Memory) away found calls_is = absurd away
    inputs_honest calls (LongUnit name) events unit honest = go (units_honest (UnitTooLong name) events unit honest)
      where
        go : (IsUnitsReading m units (UnitTooLong name) ⊎ FailsUnits (UnitTooLong name) events) × (new ≡ Some m)
            → (IsReading m units calls (LongUnit name) ⊎ FailsInputs (LongUnit name) events) × (new ≡ Some m)
        go (inl long, kept) = (inl long, kept)
        go (inr fails, kept) = absurd fails
    inputs_honest calls LongCalls events (texts, (first, gave, is)) honest =
        let found = then_one units texts first events calls most_calls_bytes (Err reading.TooLong) current new after few gave is honest in
        (inl ((texts, found.0), found.1.1.0), found.1.1.1)

  pub journal_held : (name : Name) (text : List ℕ) (events : List Event) (current : Option Name) (new : Told) (after : Option Name)
      → GivesJournal name (Held text) events → AreHonest events (Some m) current new after → IsJournalReading m name (Held text)
  journal_held name text events current new after is honest =
      let found = one_read name most_journal_bytes (Ok text) current new after (rw is at honest) in
      (found.1.0, found.1.3)

  pub journal_honest : (name : Name) (r : JournalReading) (events : List Event) (current : Option Name) (new : Told) (after : Option Name)
      → GivesJournal name r events → AreHonest events (Some m) current new after
      → IsJournalReading m name r ⊎ FailsJournal name r events
  journal_honest name (Held text) events current new after is honest = inl (journal_held name text events current new after is honest)
  journal_honest name NoJournal events current new after (answer, away, is) honest =
      by answer away (one_read name most_journal_bytes answer current new after (rw is at honest)) is
    where
      by : (answer : Result (List ℕ) ReadAnswer) → IsAway answer → Finds name most_journal_bytes answer new after
          → events ≡ Read name most_journal_bytes answer ∷ [] → IsJournalReading m name NoJournal ⊎ FailsLast name events
      by (Ok bytes) away found calls = absurd away
      by (Err reading.Absent) away (c, does) calls = inl does.0
      by (Err reading.Failed) away (c, does) calls = inr ([], most_journal_bytes, calls)
      by (Err reading.TooLong) away found calls = absurd away
      by (Err reading.Memory) away found calls = absurd away
  journal_honest name LongJournal events current new after is honest =
      inl (one_read name most_journal_bytes (Err reading.TooLong) current new after (rw is at honest)).1.0
