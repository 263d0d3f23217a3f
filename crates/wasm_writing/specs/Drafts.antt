-- What a draft of a file has taken.
use Rattle.std.specs.Prelude.{◌≡◌, ℕ, ◌+◌, ◌<◌, ◌≤◌, List, ◌++◌, length, Bool, true, false}
use Rattle.wasm_tree.specs.Bytes.{AreBytes}
use Rattle.wasm_spelling.specs.Fields.{Fields, number}
use Rattle.wasm_tree.specs.Limits.{most_module_bytes}
use Rattle.wasm_writing.specs.declared.draft.Draft.{Draft}
use Rattle.wasm_writing.specs.declared.draft.Draft.TheVariants.{Counted, Written, Stopped}
use Rattle.wasm_writing.specs.declared.draft.Stop.TheVariants.{Unformed, Memory}
use Rattle.wasm_writing.specs.Aside.{SpelledAside, SpelledShort}

-- how many bytes it has taken
abbrev pub size_of : Draft → ℕ
size_of (Counted n) = n
size_of (Written bytes) = length bytes
size_of (Stopped stop) = 0

abbrev pub HasStopped : Draft → Type 0
HasStopped (Counted n) = ⊥
HasStopped (Written bytes) = ⊥
HasStopped (Stopped stop) = Unit {0}

-- it has taken these bytes more, or has stopped
abbrev pub Takes : List ℕ → Draft → Draft → Type 0
Takes piece (Counted n) (Counted m) = (m ≡ n + length piece) × (m ≤ most_module_bytes)
Takes piece (Counted n) (Written file) = ⊥
Takes piece (Written front) (Counted m) = ⊥
Takes piece (Written front) (Written file) = (file ≡ front ++ piece) × (length file ≤ most_module_bytes)
Takes piece (Counted n) (Stopped Unformed) = most_module_bytes < n + length piece
Takes piece (Counted n) (Stopped Memory) = ⊥
Takes piece (Written front) (Stopped Unformed) = most_module_bytes < length front + length piece
Takes piece (Written front) (Stopped Memory) = Unit {0}
Takes piece (Stopped stop) new = new ≡ Stopped stop

-- it has stopped, since what was put has no spelling
abbrev pub Refuses : Draft → Draft → Type 0
Refuses (Counted n) new = new ≡ Stopped Unformed
Refuses (Written front) new = new ≡ Stopped Unformed
Refuses (Stopped stop) new = new ≡ Stopped stop

-- with these bytes behind it, it is the file, or as long as the file
abbrev pub Completes : Draft → List ℕ → List ℕ → Type 0
Completes (Counted n) bytes file = n + length bytes ≡ length file
Completes (Written front) bytes file = front ++ bytes ≡ file
Completes (Stopped stop) bytes file = ⊥

-- with the shortest spelling of the fields behind it, it is the file
pub record Makes (file : List ℕ) (draft : Draft) (fields : Fields) : Type 0 where
  pub rest : List ℕ
  pub spelled : SpelledShort fields rest
  pub are_bytes : AreBytes rest
  pub completes : Completes draft rest file
  pub small : length file ≤ most_module_bytes

-- so many bytes and some spelling of the fields are within the room
pub record IsWithin (room size : ℕ) (fields : Fields) : Type 0 where
  pub rest : List ℕ
  pub spelled : SpelledAside fields rest
  pub within : size + length rest ≤ room
  pub small : room ≤ most_module_bytes

-- it may go on with the fields: they are within the room, or memory was wanting for what is written
abbrev pub GoesOn : Bool → ℕ → Draft → Fields → Type 0
GoesOn written room (Counted n) fields = (written ≡ false) × IsWithin room n fields
GoesOn written room (Written front) fields = (written ≡ true) × IsWithin room (length front) fields
GoesOn written room (Stopped Unformed) fields = ⊥
GoesOn written room (Stopped Memory) fields = written ≡ true

pub record Fits (written : Bool) (room : ℕ) (draft : Draft) (fields : Fields) : Type 0 where
  pub goes_on : GoesOn written room draft fields

-- It has taken the shortest spelling of these fields, whatever follows them; or it has stopped, and there is no
-- room for them.
abbrev pub Puts : (Fields → Fields) → Draft → Draft → Type 0
Puts fields old new =
    ((file : List ℕ) (rest : Fields) → Makes file new rest → Makes file old (fields rest))
    × ((written : Bool) (room : ℕ) (rest : Fields) → Fits written room old (fields rest) → Fits written room new rest)
    × (size_of old ≤ most_module_bytes → size_of new ≤ most_module_bytes)

-- where the size is known, its number was put, else there is none
abbrev pub PutsSize : Draft → Draft → Draft → Type 0
PutsSize (Counted size) old new = Puts (number size) old new
PutsSize (Written bytes) old new = Refuses old new
PutsSize (Stopped stop) old new = Refuses old new
