-- What passes through the files that are read, from what each step says.
use Rattle.crun_words.proofs.Common.{◌≡◌, ℕ, List, [], ◌∷◌, ◌++◌, length, slice_get, Some, Ok, Err, Result, sym, refl, ap, ◌∙◌, subst, inl}
use Rattle.crun_words.proofs.Common.{inr, append_assoc, same_Some, Name, Event, Read, ReadAnswer, all_in_order, all_then, both_limited}
use Rattle.crun_words.proofs.Common.{last_read, longer, unto_last, ReadsAll, ReadsInOrder, ReadsSome, StopsBy, limited, ReadStop, AllRead}
use Rattle.crun_words.proofs.Common.{Held, JournalReading, LongCalls, LongJournal, LongUnit, NoJournal, NoUnit, NotThere, Reading}
use Rattle.crun_words.proofs.Common.{UnitTooLong, UnitsRead, UnitsReading, most_calls_bytes, most_journal_bytes, most_unit_bytes}
use Rattle.crun_words.proofs.Common.{most_units_bytes, GivesInputs, GivesJournal, GivesUnits, IsAway, IsOver, ReadsFile, ReadsUnto}
use Rattle.crun_words.proofs.Common.{TriesCalls, TriesInputs, TriesUnits, InputStop}
use Rattle.w2c_io.specs.declared.answers.ReadAnswer.TheVariants as reading
use Rattle.w2c_files.specs.declared.reading.ReadStop.TheVariants as read
use Rattle.crun_words.specs.declared.inputs.InputStop.TheVariants as stop

-- ---- in order

-- what the units gave
unto_in_order : (units : List Name) (name : Name) (texts : List (List ℕ)) (answer : Result (List ℕ) ReadAnswer) (events : List Event)
    → ReadsUnto units name texts answer events → ReadsInOrder (limited most_unit_bytes units) events
unto_in_order units name texts answer events u =
    subst (λ (ns : List Name). ReadsInOrder (limited most_unit_bytes ns) events) (sym u.split)
    (subst (λ (fs : List (Name × ℕ)). ReadsInOrder fs events) (sym (both_limited most_unit_bytes u.front (name ∷ u.rest)))
    (unto_last most_unit_bytes u.front name most_unit_bytes (limited most_unit_bytes u.rest) texts u.first events answer u.gave u.calls))

pub units_in_order : (units : List Name) (r : UnitsReading) (events : List Event) → GivesUnits units r events
    → ReadsInOrder (limited most_unit_bytes units) events
units_in_order units (UnitsRead texts) events gave =
    all_in_order most_unit_bytes units texts events gave
units_in_order units (NoUnit name) events (texts, answer, away, unto) = unto_in_order units name texts answer events unto
units_in_order units (UnitTooLong name) events (texts, answer, over, unto) = unto_in_order units name texts answer events unto

-- what the units and the calls file gave
pub inputs_in_order : (units : List Name) (calls : Name) (r : Reading) (more : List (Name × ℕ)) (events : List Event)
    → GivesInputs units calls r events → ReadsInOrder (limited most_unit_bytes units ++ (calls, most_calls_bytes) ∷ more) events
inputs_in_order units calls (AllRead texts text) more events (first, gave, is) =
    unto_last most_unit_bytes units calls most_calls_bytes more texts first events (Ok text) gave is
inputs_in_order units calls (NotThere name) more events (inl unit) =
    longer (limited most_unit_bytes units) ((calls, most_calls_bytes) ∷ more) events (units_in_order units (NoUnit name) events unit)
inputs_in_order units calls (NotThere name) more events (inr (same, texts, answer, away, (first, gave, is))) =
    unto_last most_unit_bytes units calls most_calls_bytes more texts first events answer gave is
inputs_in_order units calls (LongUnit name) more events unit =
    longer (limited most_unit_bytes units) ((calls, most_calls_bytes) ∷ more) events (units_in_order units (UnitTooLong name) events unit)
inputs_in_order units calls LongCalls more events (texts, (first, gave, is)) =
    unto_last most_unit_bytes units calls most_calls_bytes more texts first events (Err reading.TooLong) gave is

-- and then the journal was read
pub journal_in_order : (units : List Name) (calls : Name) (texts : List (List ℕ)) (text : List ℕ) (journal : Name)
    (first last : List Event) → GivesInputs units calls (AllRead texts text) first → ReadsFile most_journal_bytes journal last
    → ReadsInOrder (limited most_unit_bytes units ++ (calls, most_calls_bytes) ∷ (journal, most_journal_bytes) ∷ []) (first ++ last)
journal_in_order units calls texts text journal first last (front, gave, is) (answer, last_is) =
    subst (λ (e : List Event). ReadsInOrder (limited most_unit_bytes units ++ Two) (e ++ last)) (sym is)
    (subst (ReadsInOrder (limited most_unit_bytes units ++ Two))
    (sym (append_assoc front (Read calls most_calls_bytes (Ok text) ∷ []) last))
    (all_then most_unit_bytes units texts front Two (Read calls most_calls_bytes (Ok text) ∷ last) gave
    (inl (
      text,
      refl,
      rw last_is (last_read journal most_journal_bytes [] answer),
    ))))
  where
    Two : List (Name × ℕ)
    Two = (calls, most_calls_bytes) ∷ (journal, most_journal_bytes) ∷ []

pub journal_read : (journal : Name) (r : JournalReading) (events : List Event) → GivesJournal journal r events
    → ReadsFile most_journal_bytes journal events
journal_read journal (Held text) events is = (Ok text, is)
journal_read journal NoJournal events (answer, away, is) = (answer, is)
journal_read journal LongJournal events is = (Err reading.TooLong, is)

-- ---- the units

last_name : (each : ℕ) (front : List Name) (all : List (List ℕ)) (first : List Event) (name : Name) (after : List Name)
    → ReadsAll each front all first → slice_get (front ++ name ∷ after) (length all) ≡ Some name
last_name each [] [] first name after gave = refl
last_name each (n ∷ front) (b ∷ all) (e ∷ events) name after gave = last_name each front all events name after gave.1
last_name each _ _ _ name after gave = absurd gave

module _ (names : List Name) (k : ℕ) (name : Name) (at : slice_get names k ≡ Some name) (events : List Event) where
  unto : (front rest : List Name) (all : List (List ℕ)) (first last : List Event) (other : Name) (after : List Name)
      (answer : Result (List ℕ) ReadAnswer) → names ≡ front ++ rest → ReadsAll most_unit_bytes front all first → events ≡ first ++ last
      → rest ≡ other ∷ after → last ≡ Read other most_unit_bytes answer ∷ [] → k ≡ length all
      → ReadsUnto names name all answer events
  unto front rest all first last other after answer split gave calls rest_is last_is number =
      let names_are : names ≡ front ++ other ∷ after = split ∙ ap (λ (r : List Name). front ++ r) rest_is in
      let there : slice_get names k ≡ Some other =
      (λ i. slice_get (names_are i) (number i)) ∙ last_name most_unit_bytes front all first other after gave in
      subst (λ (n : Name). ReadsUnto names n all answer events) (same_Some other name (sym there ∙ at)) (record {
        front = front;
        rest = after;
        first = first;
        split = names_are;
        gave = gave;
        calls = calls ∙ ap (λ (l : List Event). first ++ l) last_is;
      })

  is_away : (left number : ℕ) (answer : Result (List ℕ) ReadAnswer) → StopsBy left number answer (read.Unread k)
      → IsAway answer × (k ≡ number)
  is_away left number (Err reading.Absent) stops = (tt, stops)
  is_away left number (Err reading.Failed) stops = (tt, stops)
  is_away left number _ stops = absurd stops

  is_long : (left number : ℕ) (answer : Result (List ℕ) ReadAnswer) → StopsBy left number answer (read.TooLong k)
      → IsOver left answer × (k ≡ number)
  is_long left number (Err reading.TooLong) stops = (tt, stops)
  is_long left number _ stops = absurd stops

  is_past : (left number place : ℕ) (answer : Result (List ℕ) ReadAnswer) → StopsBy left number answer (read.Past k place)
      → IsOver left answer × (k ≡ number)
  is_past left number place (Ok bytes) (is, at, over) = (over, is)
  is_past left number place (Err reading.Absent) stops = absurd stops
  is_past left number place (Err _) stops = absurd stops

  pub unread_tried : (why : ReadStop) → why ≡ read.Unread k → ReadsSome most_unit_bytes most_units_bytes names why events
      → GivesUnits names (NoUnit name) events
  unread_tried why is some = go (subst (λ w. ReadsSome most_unit_bytes most_units_bytes names w events) is some)
    where
      go : ReadsSome most_unit_bytes most_units_bytes names (read.Unread k) events → GivesUnits names (NoUnit name) events
      go (front, rest, all, first, last, split, gave, calls, inl (none, memory)) = absurd (cc)
      go (front, rest, all, first, last, split, gave, calls, inr (other, after, answer, rest_is, last_is, stops, together)) =
          let away = is_away _ (length all) answer stops in
          (all, answer, away.0, unto front rest all first last other after answer split gave calls rest_is last_is away.1)

  pub long_tried : (why : ReadStop) → why ≡ read.TooLong k → ReadsSome most_unit_bytes most_units_bytes names why events
      → GivesUnits names (UnitTooLong name) events
  long_tried why is some = go (subst (λ w. ReadsSome most_unit_bytes most_units_bytes names w events) is some)
    where
      go : ReadsSome most_unit_bytes most_units_bytes names (read.TooLong k) events → GivesUnits names (UnitTooLong name) events
      go (front, rest, all, first, last, split, gave, calls, inl (none, memory)) = absurd (cc)
      go (front, rest, all, first, last, split, gave, calls, inr (other, after, answer, rest_is, last_is, stops, together)) =
          let long = is_long _ (length all) answer stops in
          (all, answer, long.0, unto front rest all first last other after answer split gave calls rest_is last_is long.1)

  pub past_tried : (why : ReadStop) (place : ℕ) → why ≡ read.Past k place → ReadsSome most_unit_bytes most_units_bytes names why events
      → GivesUnits names (UnitTooLong name) events
  past_tried why place is some = go (subst (λ w. ReadsSome most_unit_bytes most_units_bytes names w events) is some)
    where
      go : ReadsSome most_unit_bytes most_units_bytes names (read.Past k place) events → GivesUnits names (UnitTooLong name) events
      go (front, rest, all, first, last, split, gave, calls, inl (none, memory)) = absurd (cc)
      go (front, rest, all, first, last, split, gave, calls, inr (other, after, answer, rest_is, last_is, stops, together)) =
          let past = is_past _ (length all) place answer stops in
          (all, answer, past.0, unto front rest all first last other after answer split gave calls rest_is last_is past.1)

-- ---- the units, then the calls file

pub units_tried : (units : List Name) (calls : Name) (why : InputStop) (events : List Event) → TriesUnits units why events
    → TriesInputs units calls why events
units_tried units calls (stop.Unread name) events tried = inl tried
units_tried units calls (stop.UnitTooLong name) events tried = tried
units_tried units calls stop.Memory events tried =
    longer (limited most_unit_bytes units) ((calls, most_calls_bytes) ∷ []) events tried
units_tried units calls _ events tried = absurd tried

pub calls_tried : (units : List Name) (calls : Name) (texts : List (List ℕ)) (why : InputStop) (first last : List Event)
    → ReadsAll most_unit_bytes units texts first → TriesCalls calls why last → TriesInputs units calls why (first ++ last)
calls_tried units calls texts (stop.Unread name) first last gave (same, answer, away, is) =
    inr (same, texts, answer, away, (first, gave, ap (λ (l : List Event). first ++ l) is))
calls_tried units calls texts stop.CallsTooLong first last gave is = (texts, (first, gave, ap (λ (l : List Event). first ++ l) is))
calls_tried units calls texts stop.Memory first last gave (answer, is) =
    unto_last most_unit_bytes units calls most_calls_bytes [] texts first (first ++ last) answer gave
    (ap (λ (l : List Event). first ++ l) is)
calls_tried units calls texts _ first last gave tried = absurd tried
