-- Groups of seven bits by shifts and masks.
use Rattle.leb_bytes.proofs.Common.{◌≡◌, ℕ, suc, ◌+◌, ◌*◌, ◌%◌, ◌^◌, ◌<◌, List, length, get_or, take, bit_and, bit_or, sym, refl, ap, ◌∙◌}
use Rattle.leb_bytes.proofs.Common.{subst, arith, and_high_numeral, and_mask, or_comm, or_shifted, shl_whole, seven_bit_sum, add_comm}
use Rattle.leb_bytes.proofs.Runs.{seven_bit_sum-more}
use Rattle.leb_bytes.proofs.Windows.{sum-below}

-- a group put above the lower ones
pub or_group : (sum low i : ℕ) → sum < 2 ^ (7 * i) → low < 128 → i < 10 → bit_or sum (low * 2 ^ (7 * i) % 2 ^ 128) ≡ sum + low * 2 ^ (7 * i)
or_group sum low i below small lt =
    let whole : low * 2 ^ (7 * i) % 2 ^ 128 ≡ low * 2 ^ (7 * i) = shl_whole low 7 (7 * i) 128 small (omega (arith, lt)) in
    ap (bit_or sum) whole ∙ or_comm sum (low * 2 ^ (7 * i)) ∙ or_shifted low (7 * i) sum below ∙ add_comm (low * 2 ^ (7 * i)) sum

pub low_seven : (b : ℕ) → bit_and b 127 ≡ b % 128
low_seven b = and_mask b 7

-- the top bit of a byte
pub top_bit : (b : ℕ) → b < 256 → bit_and b 128 + b % 128 ≡ b
top_bit b lt = and_high_numeral b 127 refl lt

-- the sum of the bytes before a place, and of the one there
pub sum-more : (window : List ℕ) (i sum low : ℕ) → i < length window → i < 10 → sum ≡ seven_bit_sum (take i window)
    → low ≡ bit_and (get_or window i 0) 127 → bit_or sum (low * 2 ^ (7 * i) % 2 ^ 128) ≡ seven_bit_sum (take (i + 1) window)
sum-more window i sum low within lt so_far is =
    let b = get_or window i 0 in
    let group : low ≡ b % 128 = is ∙ low_seven b in
    let below : sum < 2 ^ (7 * i) = subst (λ s. s < 2 ^ (7 * i)) (sym so_far) (sum-below i window (omega (arith, within))) in
    let e : i + 1 ≡ suc i = omega arith in
    or_group sum low i below (omega (arith, group)) lt
    ∙ ap (λ s. s + low * 2 ^ (7 * i)) so_far
    ∙ ap (λ g. seven_bit_sum (take i window) + g * 2 ^ (7 * i)) group
    ∙ sym (seven_bit_sum-more window i within)
    ∙ ap (λ n. seven_bit_sum (take n window)) (sym e)
