-- Which bytes spell fields where the places are left aside, and their shortest spelling (WebAssembly Core 1.0,
-- 5.1 and 5.2).
use Rattle.std.specs.Prelude.{◌≡◌, ℕ, ℤ, List, [], ◌∷◌, ◌++◌, length, IsTrue, ◌⊎◌}
use Rattle.w2c_base.specs.SpelledNumber.{SpellsSigned, SpellsUnsigned}
use Rattle.leb_bytes.specs.Shortest.{IsShortest}
use Rattle.wasm_spelling.specs.Fields.{Custom, Fields, finished, byte, number, signed, text, here, provided, window, either, for_some}

-- bytes of which P holds, and then bytes of which Q holds
abbrev pub Next : (List ℕ → Type 0) → (List ℕ → Type 0) → List ℕ → Type 0
Next P Q bytes = (front rest : List ℕ) × (bytes ≡ front ++ rest) × P front × Q rest

-- The bytes spell the fields but for their places, each number without sign as the first says and
-- each with one as the second says.
unfoldable pub SpelledBy : (List ℕ → ℕ → Type 0) → (ℕ → List ℕ → ℤ → Type 0) → Fields → List ℕ → Type 0
SpelledBy Unsigned Signed finished bytes = bytes ≡ []
SpelledBy Unsigned Signed (byte b fields) bytes = Next (λ front. front ≡ b ∷ []) (SpelledBy Unsigned Signed fields) bytes
SpelledBy Unsigned Signed (number n fields) bytes = Next (λ front. Unsigned front n) (SpelledBy Unsigned Signed fields) bytes
SpelledBy Unsigned Signed (signed width n fields) bytes = Next (λ front. Signed width front n) (SpelledBy Unsigned Signed fields) bytes
SpelledBy Unsigned Signed (text t fields) bytes = Next (λ front. front ≡ t) (SpelledBy Unsigned Signed fields) bytes
SpelledBy Unsigned Signed (here q fields) bytes = SpelledBy Unsigned Signed fields bytes
SpelledBy Unsigned Signed (provided b fields) bytes = IsTrue b × SpelledBy Unsigned Signed fields bytes
SpelledBy Unsigned Signed (window inside fields) bytes =
    (size : ℕ) × Next (λ front. Unsigned front size)
    (Next (λ front. (length front ≡ size) × SpelledBy Unsigned Signed inside front) (SpelledBy Unsigned Signed fields)) bytes
SpelledBy Unsigned Signed (either fields others) bytes = SpelledBy Unsigned Signed fields bytes ⊎ SpelledBy Unsigned Signed others bytes
SpelledBy Unsigned Signed (for_some choice) bytes = (customs : List Custom) × SpelledBy Unsigned Signed (choice customs) bytes

-- the bytes spell the fields, places aside
abbrev pub SpelledAside : Fields → List ℕ → Type 0
SpelledAside fields bytes = SpelledBy (SpellsUnsigned 32) SpellsSigned fields bytes

-- the same with each number, each size among them, in its shortest spelling
abbrev pub SpelledShort : Fields → List ℕ → Type 0
SpelledShort fields bytes = SpelledBy (IsShortest (SpellsUnsigned 32)) (λ width. IsShortest (SpellsSigned width)) fields bytes
