-- Groups of seven bits, written one after the other.
use Rattle.leb_bytes.proofs.Common.{◌≡◌, ℕ, suc, ◌+◌, ◌*◌, ◌/◌, ◌%◌, ◌^◌, ◌<◌, ◌≤◌, List, length, get_or, take, set, bit_and, bit_or, sym}
use Rattle.leb_bytes.proofs.Common.{refl, ap, ◌∙◌, subst, arith, length-set, length-take-le, get_or-set_same, or_numeral, All-push}
use Rattle.leb_bytes.proofs.Common.{All-same, mod-pow-add, shr_split, seven_bit_sum, GoOn, IsRunOf, add_comm}
use Rattle.std.proofs.lemmas.List.{take-set, take_more_set}
use Rattle.leb_bytes.proofs.Runs.{IsNumberRun-from_go_on, seven_bit_sum-more}
use Rattle.leb_bytes.proofs.Shifts.{low_seven}

-- the first i bytes all go on, and hold the pattern's first i groups
pub record Holds (pattern i : ℕ) (out : List ℕ) : Type 0 where
  pub so_far : seven_bit_sum (take i out) ≡ pattern % 2 ^ (7 * i)
  pub go_on : GoOn (take i out)

sum-written : (out : List ℕ) (i v : ℕ) → i < length out
    → seven_bit_sum (take (suc i) (set out i v)) ≡ seven_bit_sum (take i out) + v % 128 * 2 ^ (7 * i)
sum-written out i v lt =
    seven_bit_sum-more (set out i v) i (omega (arith, lt, length-set out i v))
    ∙ ap (λ bs. seven_bit_sum bs + get_or (set out i v) i 0 % 128 * 2 ^ (7 * i)) (take-set out i v)
    ∙ ap (λ b. seven_bit_sum (take i out) + b % 128 * 2 ^ (7 * i)) (get_or-set_same out i v 0 lt)

-- a group with the top bit
topped : (x : ℕ) → bit_or (bit_and x 127) 128 ≡ 128 + x % 128
topped x = let e = low_seven x in or_numeral (bit_and x 127) 127 refl (omega (arith, e)) ∙ ap (λ g. 128 + g) e

pub Holds-more : (pattern i : ℕ) (out : List ℕ) → i < length out → Holds pattern i out
    → Holds pattern (i + 1) (set out i (bit_or (bit_and (pattern / 2 ^ (7 * i)) 127) 128))
Holds-more pattern i out lt h =
    let x = pattern / 2 ^ (7 * i) in
    let v = bit_or (bit_and x 127) 128 in
    let is = topped x in
    let e : suc i ≡ i + 1 = omega arith in
    let group : v % 128 ≡ x % 128 = omega (arith, is) in
    let next : pattern % 2 ^ (7 + 7 * i) ≡ x % 128 * 2 ^ (7 * i) + pattern % 2 ^ (7 * i) = mod-pow-add pattern 7 (7 * i) in
    let places : 7 + 7 * i ≡ 7 * (i + 1) = omega arith in
    let sum : seven_bit_sum (take (suc i) (set out i v)) ≡ pattern % 2 ^ (7 * (i + 1)) =
    sum-written out i v lt
    ∙ ap (λ s. s + v % 128 * 2 ^ (7 * i)) h.so_far
    ∙ ap (λ g. pattern % 2 ^ (7 * i) + g * 2 ^ (7 * i)) group
    ∙ add_comm (pattern % 2 ^ (7 * i)) (x % 128 * 2 ^ (7 * i))
    ∙ sym next
    ∙ ap (λ n. pattern % 2 ^ n) places in
    let list = take_more_set out i v lt in
    record {
      so_far = subst (λ n. seven_bit_sum (take n (set out i v)) ≡ pattern % 2 ^ (7 * (i + 1))) e sum;
      go_on = All-same (λ b. 128 ≤ b) _ _ list (All-push (λ b. 128 ≤ b) (take i out) v h.go_on (omega (arith, is)));
    }

-- the last group ends the run
pub Holds-last : (pattern i : ℕ) (out : List ℕ) → i < length out → pattern / 2 ^ (7 * i) < 128 → Holds pattern i out
    → IsRunOf (suc i) (take (suc i) (set out i (pattern / 2 ^ (7 * i)))) pattern
Holds-last pattern i out lt small h =
    let v = pattern / 2 ^ (7 * i) in
    let same = take-set out i v in
    let within : i < length (set out i v) = omega (arith, lt, length-set out i v) in
    let last : get_or (set out i v) i 0 < 128 = omega (arith, get_or-set_same out i v 0 lt, small) in
    let group : v % 128 ≡ v = omega (arith, small) in
    record {
      run = IsNumberRun-from_go_on i (set out i v) (All-same (λ b. 128 ≤ b) _ _ same h.go_on) within last;
      short = omega (arith, length-take-le (suc i) (set out i v) (omega (arith, within)));
      value = sym (
          sum-written out i v lt
          ∙ ap (λ s. s + v % 128 * 2 ^ (7 * i)) h.so_far
          ∙ ap (λ g. pattern % 2 ^ (7 * i) + g * 2 ^ (7 * i)) group
          ∙ add_comm (pattern % 2 ^ (7 * i)) (v * 2 ^ (7 * i))
          ∙ shr_split pattern (7 * i));
    }
