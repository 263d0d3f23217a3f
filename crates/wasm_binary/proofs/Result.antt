-- What a file's reading says of the result.
use Rattle.wasm_binary.proofs.Common.{◌≡◌, ℕ, ◌≤◌, ◌≢◌, List, [], length, IfOk, Ok, Err, Result, sym, refl, ◌∙◌, Module, file_at, ReadFault}
use Rattle.wasm_binary.proofs.Common.{Memory, Fails, Gives, UnlessMemory}
use Rattle.wasm_spelling.specs.ModuleFields.{Spells}
use Rattle.wasm_spelling.specs.Places.{IsFormed}
use Rattle.wasm_spelling.specs.Table.{Upto}
use Rattle.wasm_spelling.proofs.Whole.{file_takes, file_again, file_stops, first_is_read}
use Rattle.wasm_tree.specs.Bytes.{AreBytes}

abbrev bad : ReadFault → Result Module ReadFault
bad f = Err f

failed : (f : ReadFault) (r : Result Module ReadFault) → (bad f ≢ Err Memory) → Fails f r → r ≡ Err f
failed Memory r n h = absurd (n refl)
failed _ r n h = h

pub given : (result r : Result Module ReadFault) → Gives (λ x. x) result r → UnlessMemory result r
given (Ok t) r g n = sym g
given (Err f) r g n = sym (failed f r n g)

pub is_found : (bytes : List ℕ) (result : Result Module ReadFault) → length bytes ≤ 8388608 → Gives (λ x. x) result (file_at bytes)
    → IfOk result (λ t. Spells t bytes)
is_found bytes (Ok t) small g = (file_takes bytes t g, small)
is_found bytes (Err f) small g = tt

pub is_only : (bytes : List ℕ) (result : Result Module ReadFault) → Gives (λ x. x) result (file_at bytes) → (t : Module) → Spells t bytes
    → UnlessMemory result (Ok t)
is_only bytes result g t s n = given result (file_at bytes) g n ∙ file_again bytes t s.0

pub is_first : (bytes : List ℕ) (result : Result Module ReadFault) → Gives (λ x. x) result (file_at bytes) → (f : ReadFault) → f ≢ Memory
    → result ≡ Err f → Upto bytes f
is_first bytes result g f n e =
    file_stops bytes f (sym (given result (file_at bytes) g (λ wanting. n (same f Memory (sym e ∙ wanting)))) ∙ e)
  where
    same : (f g : ReadFault) → bad f ≡ bad g → f ≡ g
    same f g e = cc

pub is_first_only : (bytes : List ℕ) (result : Result Module ReadFault) → Gives (λ x. x) result (file_at bytes) → (f : ReadFault)
    → Upto bytes f → UnlessMemory result (Err f)
is_first_only bytes result g f u n = given result (file_at bytes) g n ∙ first_is_read bytes f u

-- what some file spells is formed
pub formed_of : (bytes : List ℕ) (result : Result Module ReadFault) → AreBytes bytes → IfOk result (λ tree. Spells tree bytes)
    → IfOk result IsFormed
formed_of bytes (Ok tree) are_bytes spells = (bytes, are_bytes, (tree, refl, spells))
formed_of bytes (Err fault) are_bytes spells = tt
