-- What a run of bytes is before its width is looked at, and the range of a width.
use Rattle.std.specs.Prelude.{◌≡◌, ℕ, ℤ, pos, ◌-◌, ◌^◌, ◌≤◌, ◌<ℤ◌, ◌≤ℤ◌, ◌-ℤ◌, List, length}
use Rattle.w2c_base.specs.SpelledNumber.{IsNumberRun, seven_bit_sum}

-- at most so many bytes, those of one number, and the sum of their low seven bits
pub record IsRunOf (most : ℕ) (bytes : List ℕ) (sum : ℕ) : Type 0 where
  pub run : IsNumberRun bytes
  pub short : length bytes ≤ most
  pub value : sum ≡ seven_bit_sum bytes

-- any unused bits will do
abbrev pub NeverWrong : List ℕ → Type 0
NeverWrong _ = ⊥

-- the numbers of a width with a sign
pub record InRange (width : ℕ) (n : ℤ) : Type 0 where
  pub low : (pos 0 -ℤ pos (2 ^ (width - 1))) ≤ℤ n
  pub high : n <ℤ pos (2 ^ (width - 1))
