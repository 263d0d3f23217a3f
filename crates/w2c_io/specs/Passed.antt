-- What passed through files in a call: the calls that were made, each with its answer.
use Rattle.std.specs.Prelude.{◌≡◌, ◌⊎◌, ℕ, List, [], ◌∷◌, ◌++◌, Result, Ok, Err}
use Rattle.w2c_io.specs.Contents.{Name, IsPrefix}
use Rattle.w2c_io.specs.Events.{Event, Begin, Put, Finish}
use Rattle.w2c_io.specs.declared.answers.WriteAnswer.{WriteAnswer}
use Rattle.w2c_io.specs.declared.answers.WriteAnswer.TheVariants as writing

-- P of the calls that were made since
abbrev pub Passes : List Event → List Event → (List Event → Type 0) → Type 0
Passes old new P = (events : List Event) × (new ≡ old ++ events) × P events

-- pieces that were put whole, one behind the other
abbrev pub puts : List (List ℕ) → List Event
puts [] = []
puts (piece ∷ pieces) = Put piece (Ok tt) ∷ puts pieces

abbrev pub joined : List (List ℕ) → List ℕ
joined [] = []
joined (piece ∷ pieces) = piece ++ joined pieces

-- a text was put whole, in pieces
abbrev pub PutsText : List ℕ → List Event → Type 0
PutsText text events = (pieces : List (List ℕ)) × (joined pieces ≡ text) × (events ≡ puts pieces)

-- where this is still to come: memory was wanting before the next call, or the next piece of it was put in vain
abbrev pub FailsOn : List ℕ → WriteAnswer → List Event → Type 0
FailsOn rest why [] = why ≡ writing.Memory
FailsOn rest why (Put piece answer ∷ []) = (answer ≡ Err why) × IsPrefix piece rest
FailsOn rest why _ = ⊥

-- the first pieces of a text were put, and no more of it for this reason
pub record PutsPart (text : List ℕ) (why : WriteAnswer) (events : List Event) : Type 0 where
  pub pieces : List (List ℕ)
  pub rest : List ℕ
  pub last : List Event
  pub split : text ≡ joined pieces ++ rest
  pub calls : events ≡ puts pieces ++ last
  pub fails : FailsOn rest why last

-- a file was begun, its text was put whole, and it was finished
abbrev pub WritesFile : Name → List ℕ → List Event → Type 0
WritesFile name text events =
    (middle : List Event) × PutsText text middle × (events ≡ Begin name (Ok tt) ∷ middle ++ Finish (Ok tt) ∷ [])

-- a file was begun in vain; or it was begun, the first pieces of its text were put, and it was finished, whatever that answered;
-- or its text was put whole and it was finished in vain
abbrev pub BreaksOff : Name → List ℕ → WriteAnswer → List Event → Type 0
BreaksOff name text why events =
    (events ≡ Begin name (Err why) ∷ [])
    ⊎ ((middle : List Event) × (answer : Result (Unit {0}) WriteAnswer) × PutsPart text why middle
    × (events ≡ Begin name (Ok tt) ∷ middle ++ Finish answer ∷ []))
    ⊎ ((middle : List Event) × PutsText text middle × (events ≡ Begin name (Ok tt) ∷ middle ++ Finish (Err why) ∷ []))

-- one file was finished, whatever that answered
abbrev pub Finishes : List Event → Type 0
Finishes events = (answer : Result (Unit {0}) WriteAnswer) × (events ≡ Finish answer ∷ [])
