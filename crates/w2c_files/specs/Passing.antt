-- What passes through files that are read or written one after another.
use Rattle.std.specs.Prelude.{◌≡◌, ◌⊎◌, ℕ, ◌<◌, ◌≤◌, ◌-◌, List, [], ◌∷◌, ◌++◌, length, map, Result, Ok, Err}
use Rattle.w2c_io.specs.Contents.{Name}
use Rattle.w2c_io.specs.Events.{Event, Read}
use Rattle.w2c_io.specs.Passed.{WritesFile, BreaksOff}
use Rattle.w2c_io.specs.declared.answers.ReadAnswer.{ReadAnswer}
use Rattle.w2c_io.specs.declared.answers.ReadAnswer.TheVariants as reading
use Rattle.w2c_io.specs.declared.answers.WriteAnswer.{WriteAnswer}
use Rattle.w2c_files.specs.declared.reading.ReadStop.{ReadStop}
use Rattle.w2c_files.specs.declared.reading.ReadStop.TheVariants as stop
use Rattle.w2c_files.specs.Reading.{total}

-- ---- reading

-- the files of these names were read, each once and in order, and gave these bytes
abbrev pub ReadsAll : ℕ → List Name → List (List ℕ) → List Event → Type 0
ReadsAll each [] [] events = events ≡ []
ReadsAll each (name ∷ names) (bytes ∷ all) (event ∷ events) = (event ≡ Read name each (Ok bytes)) × ReadsAll each names all events
ReadsAll each _ _ _ = ⊥

-- these files, each of which may have so many bytes
abbrev pub limited : ℕ → List Name → List (Name × ℕ)
limited most names = map (λ name. (name, most)) names

-- files were read in order, each once and with its limit, as far as they gave bytes: of the last that was read any answer may come
abbrev pub ReadsInOrder : List (Name × ℕ) → List Event → Type 0
ReadsInOrder files [] = Unit {0}
ReadsInOrder [] (event ∷ events) = ⊥
ReadsInOrder (file ∷ files) (event ∷ events) =
    ((bytes : List ℕ) × (event ≡ Read file.0 file.1 (Ok bytes)) × ReadsInOrder files events)
    ⊎ ((answer : Result (List ℕ) ReadAnswer) × (event ≡ Read file.0 file.1 answer) × (events ≡ []))

-- why a file that was read is refused, by its answer: so many bytes may come
abbrev pub StopsBy : ℕ → ℕ → Result (List ℕ) ReadAnswer → ReadStop → Type 0
StopsBy left number (Ok bytes) (stop.Past k place) = (k ≡ number) × (place ≡ left) × (left < length bytes)
StopsBy left number (Err reading.Absent) (stop.Unread k) = k ≡ number
StopsBy left number (Err reading.Failed) (stop.Unread k) = k ≡ number
StopsBy left number (Err reading.TooLong) (stop.TooLong k) = k ≡ number
StopsBy left number (Err reading.Memory) stop.Memory = Unit {0}
StopsBy left number _ _ = ⊥

-- one file was read, and gave bytes that have room or was refused
abbrev pub ReadsOne : ℕ → ℕ → Name → ℕ → Result (List ℕ) ReadStop → List Event → Type 0
ReadsOne each left name k (Ok bytes) events = events ≡ Read name each (Ok bytes) ∷ []
ReadsOne each left name k (Err why) events =
    (answer : Result (List ℕ) ReadAnswer) × (events ≡ Read name each answer ∷ []) × StopsBy left k answer why

-- files in front were read and gave bytes; the next was read last, and refused for what it answered, or memory was wanting
abbrev pub ReadsSome : ℕ → ℕ → List Name → ReadStop → List Event → Type 0
ReadsSome each most names why events =
    (front : List Name) × (rest : List Name) × (all : List (List ℕ)) × (first : List Event) × (last : List Event)
    × (names ≡ front ++ rest) × ReadsAll each front all first × (events ≡ first ++ last)
    × (((last ≡ []) × (why ≡ stop.Memory))
    ⊎ ((name : Name) × (after : List Name) × (answer : Result (List ℕ) ReadAnswer) × (rest ≡ name ∷ after)
    × (last ≡ Read name each answer ∷ []) × StopsBy (most - total all) (length all) answer why × (total all ≤ most)))

-- the last call was a read of this file, which failed
abbrev pub FailsLast : Name → List Event → Type 0
FailsLast file events = (front : List Event) × (limit : ℕ) × (events ≡ front ++ Read file limit (Err reading.Failed) ∷ [])

-- ---- writing

-- the files were written whole, one after another
abbrev pub WritesFiles : List (Name × List ℕ) → List Event → Type 0
WritesFiles [] events = events ≡ []
WritesFiles (file ∷ files) events =
    (first : List Event) × (rest : List Event) × (events ≡ first ++ rest) × WritesFile file.0 file.1 first × WritesFiles files rest

-- the files in front of the one of this name were written whole, and this one was broken off for this reason
pub record BreaksOffAt (files : List (Name × List ℕ)) (name : Name) (why : WriteAnswer) (events : List Event) : Type 0 where
  pub done : List (Name × List ℕ)
  pub rest : List (Name × List ℕ)
  pub text : List ℕ
  pub first : List Event
  pub last : List Event
  pub split : files ≡ done ++ (name, text) ∷ rest
  pub calls : events ≡ first ++ last
  pub whole : WritesFiles done first
  pub broken : BreaksOff name text why last

-- the first files were written whole, and no other was begun
pub record WritesFirst (files : List (Name × List ℕ)) (events : List Event) : Type 0 where
  pub done : List (Name × List ℕ)
  pub rest : List (Name × List ℕ)
  pub split : files ≡ done ++ rest
  pub whole : WritesFiles done events

-- some number of the files, in order, were written whole; the next was broken off or not begun
abbrev pub WritesSome : List (Name × List ℕ) → List Event → Type 0
WritesSome files events = WritesFirst files events ⊎ ((name : Name) × (why : WriteAnswer) × BreaksOffAt files name why events)
