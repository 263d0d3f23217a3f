-- What is read at the front of a window of bytes: a number and how many bytes spell it, or why none
-- is spelled there (WebAssembly Core 1.0, 5.2.2).
use Rattle.std.specs.Prelude.{◌≢◌, ℕ, ℤ, ◌+◌, ◌-◌, ◌*◌, ◌/◌, ◌^◌, ◌<◌, ◌≤◌, List, length, take, All, Result, Ok, Err}
use Rattle.w2c_base.specs.SpelledNumber.{IsNumberRun, SpellsSigned, SpellsUnsigned, most_bytes, seven_bit_sum}
use Rattle.leb_bytes.specs.declared.fault.LebFault.{LebFault}
use Rattle.leb_bytes.specs.declared.fault.LebFault.TheVariants.{Ends, TooLong, Unused}

-- each byte has its top bit set, so another follows it
abbrev pub GoOn : List ℕ → Type 0
GoOn bytes = All (λ b. 128 ≤ b) bytes

-- a number without sign has a bit past the width
pub record HasBitsPast (width : ℕ) (bytes : List ℕ) : Type 0 where
  pub run : IsNumberRun bytes
  pub past : seven_bit_sum bytes / 2 ^ width ≢ 0

-- a number with a sign has bits past the width that are no copies of the sign: from the sign's on,
-- they are neither all 0 nor all 1
pub record HasBitsUnlikeSign (width : ℕ) (bytes : List ℕ) : Type 0 where
  pub run : IsNumberRun bytes
  pub set : seven_bit_sum bytes / 2 ^ (width - 1) ≢ 0
  pub clear : seven_bit_sum bytes / 2 ^ (width - 1) ≢ 2 ^ (7 * length bytes - (width - 1)) - 1

-- The answer where a number takes at most so many bytes: one is spelled, or the window ends before
-- it does, or it goes on past these bytes, or it ends with them and its unused bits are wrong.
abbrev pub Answers : {A : Type 0} → ℕ → (List ℕ → A → Type 0) → (List ℕ → Type 0) → List ℕ → Result (A × ℕ) LebFault → Type 0
Answers most Spells Wrong window (Ok x) = (x.1 ≤ length window) × Spells (take x.1 window) x.0
Answers most Spells Wrong window (Err Ends) = (length window < most) × GoOn window
Answers most Spells Wrong window (Err TooLong) = (most ≤ length window) × GoOn (take most window)
Answers most Spells Wrong window (Err Unused) = (most ≤ length window) × Wrong (take most window)

-- for a number of a width without sign
abbrev pub AnswersUnsigned : ℕ → List ℕ → Result (ℕ × ℕ) LebFault → Type 0
AnswersUnsigned width window r = Answers (most_bytes width) (SpellsUnsigned width) (HasBitsPast width) window r

-- for a number of a width with a sign
abbrev pub AnswersSigned : ℕ → List ℕ → Result (ℤ × ℕ) LebFault → Type 0
AnswersSigned width window r = Answers (most_bytes width) (SpellsSigned width) (HasBitsUnlikeSign width) window r

-- the answer with the place after the number, where the window begins at a place
abbrev pub placed : {A : Type 0} → ℕ → Result (A × ℕ) LebFault → Result (A × ℕ) LebFault
placed place (Ok x) = Ok (x.0, place + x.1)
placed place (Err f) = Err f

-- the answer with the count of bytes in place of the place after them
abbrev pub counted : {A : Type 0} → ℕ → Result (A × ℕ) LebFault → Result (A × ℕ) LebFault
counted place (Ok x) = Ok (x.0, x.1 - place)
counted place (Err f) = Err f
