-- Fields with their values, in the order of a file, and which bytes spell them (WebAssembly Core 1.0, 5.1 and
-- 5.2).
use Rattle.std.specs.Prelude.{◌≡◌, ℕ, ℤ, ◌+◌, List, [], ◌∷◌, ◌++◌, length, Bool, IsTrue, ◌⊎◌}
use Rattle.w2c_base.specs.SpelledNumber.{SpellsSigned, SpellsUnsigned}

-- a custom section: its name and its bytes
pub record Custom : Type 0 where
  pub name : List ℕ
  pub bytes : List ℕ

pub data Fields : Type 0 where
  -- the window ends
  finished : Fields
  byte : ℕ → Fields → Fields
  -- a 32-bit number without sign
  number : ℕ → Fields → Fields
  -- a number of a width with sign
  signed : (width : ℕ) → ℤ → Fields → Fields
  text : List ℕ → Fields → Fields
  -- the next field stands at this place
  here : (place : ℕ) → Fields → Fields
  -- a condition on the fields
  provided : Bool → Fields → Fields
  -- a size, and fields that take so many bytes
  window : (inside : Fields) → Fields → Fields
  either : Fields → Fields → Fields
  -- the fields for some list of custom sections
  for_some : (List Custom → Fields) → Fields

-- bytes of which P holds, and then bytes of which Q holds; both are told the place where they begin
abbrev pub Then : (ℕ → List ℕ → Type 0) → (ℕ → List ℕ → Type 0) → ℕ → List ℕ → Type 0
Then P Q place bytes = (front rest : List ℕ) × (bytes ≡ front ++ rest) × P place front × Q (place + length front) rest

-- so many bytes, of which P holds
abbrev pub Sized : ℕ → (ℕ → List ℕ → Type 0) → ℕ → List ℕ → Type 0
Sized size P place bytes = (length bytes ≡ size) × P place bytes

-- the bytes, from a place on, spell the fields
abbrev pub Spelled : Fields → ℕ → List ℕ → Type 0
Spelled finished place bytes = bytes ≡ []
Spelled (byte b fields) place bytes = Then (λ _ front. front ≡ b ∷ []) (Spelled fields) place bytes
Spelled (number n fields) place bytes = Then (λ _ front. SpellsUnsigned 32 front n) (Spelled fields) place bytes
Spelled (signed width n fields) place bytes = Then (λ _ front. SpellsSigned width front n) (Spelled fields) place bytes
Spelled (text t fields) place bytes = Then (λ _ front. front ≡ t) (Spelled fields) place bytes
Spelled (here q fields) place bytes = (place ≡ q) × Spelled fields place bytes
Spelled (provided b fields) place bytes = IsTrue b × Spelled fields place bytes
Spelled (window inside fields) place bytes =
    (size : ℕ) × Then (λ _ front. SpellsUnsigned 32 front size) (Then (Sized size (Spelled inside)) (Spelled fields)) place bytes
Spelled (either fields others) place bytes = Spelled fields place bytes ⊎ Spelled others place bytes
Spelled (for_some choice) place bytes = (customs : List Custom) × Spelled (choice customs) place bytes
