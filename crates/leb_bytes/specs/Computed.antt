-- The answer for a window of bytes, computed: how many bytes at the front go on, and what they and
-- the next sum up to.
use Rattle.std.specs.Prelude.{ℕ, ℤ, pos, ◌+◌, ◌-◌, ◌^◌, ◌-ℤ◌, List, length, take, Bool, true, false, ◌&&◌, Result, Ok, Err, nat_lt, nat_le}
use Rattle.std.specs.Prelude.{int_lt, int_le, if◌then◌else◌}
use Rattle.std.specs.List.{prefix_len}
use Rattle.w2c_base.specs.SpelledNumber.{most_bytes, seven_bit_sum, signed_sum}
use Rattle.leb_bytes.specs.declared.fault.LebFault.{LebFault}
use Rattle.leb_bytes.specs.declared.fault.LebFault.TheVariants.{Ends, TooLong, Unused}

-- how many bytes at the front the number takes: those with their top bit set, and the next
abbrev pub count_of : ℕ → List ℕ → Result ℕ LebFault
count_of most window =
    let k = prefix_len (λ b. nat_le 128 b) window in
    if nat_lt k most then (if nat_lt k (length window) then Ok (k + 1) else Err Ends) else Err TooLong

-- a number of so many bytes, if it fits
abbrev pub fitting : {A : Type 0} → Bool → A → ℕ → Result (A × ℕ) LebFault
fitting true n k = Ok (n, k)
fitting false n k = Err Unused

-- the number of so many bytes, without sign
abbrev pub unsigned_after : ℕ → List ℕ → Result ℕ LebFault → Result (ℕ × ℕ) LebFault
unsigned_after width window (Err f) = Err f
unsigned_after width window (Ok k) =
    let n = seven_bit_sum (take k window) in fitting (nat_lt n (2 ^ width)) n k

-- the numbers of a width with a sign
abbrev pub fits_signed : ℕ → ℤ → Bool
fits_signed width n = int_le (pos 0 -ℤ pos (2 ^ (width - 1))) n && int_lt n (pos (2 ^ (width - 1)))

-- the number of so many bytes, with a sign
abbrev pub signed_after : ℕ → List ℕ → Result ℕ LebFault → Result (ℤ × ℕ) LebFault
signed_after width window (Err f) = Err f
signed_after width window (Ok k) =
    let n = signed_sum k (seven_bit_sum (take k window)) in fitting (fits_signed width n) n k

-- for a number of a width in bits
abbrev pub unsigned_of : ℕ → List ℕ → Result (ℕ × ℕ) LebFault
unsigned_of width window = unsigned_after width window (count_of (most_bytes width) window)

abbrev pub signed_of : ℕ → List ℕ → Result (ℤ × ℕ) LebFault
signed_of width window = signed_after width window (count_of (most_bytes width) window)

unfoldable pub u32_of : List ℕ → Result (ℕ × ℕ) LebFault
u32_of window = unsigned_of 32 window

unfoldable pub s32_of : List ℕ → Result (ℤ × ℕ) LebFault
s32_of window = signed_of 32 window

unfoldable pub s64_of : List ℕ → Result (ℤ × ℕ) LebFault
s64_of window = signed_of 64 window
