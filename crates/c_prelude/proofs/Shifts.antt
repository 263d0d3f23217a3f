-- The helpers of shifts and rotations.
use Rattle.c_prelude.proofs.Common.{◌≡◌, ℕ, zero, suc, ◌+◌, ◌-◌, ◌*◌, ◌/◌, ◌%◌, ◌^◌, ◌<◌, ◌≤◌, true, false, nat_eq, nat_lt, bit_or, sym}
use Rattle.c_prelude.proofs.Common.{refl, ap, ◌∙◌, inl, inr, add-zero, mod-lt, mod-eq_of_lt, lt_of_mul-lt-mul_right, div-add-mod', zero-add}
use Rattle.c_prelude.proofs.Common.{mul-one, div-one, arith, pow_pos, pow_mono, pow-add, or_self, add-mod_right, add-mul-div_right}
use Rattle.c_prelude.proofs.Common.{div-eq_of_lt, mod_self, mul-mod_left, sub-zero, nat_tests, div-mul-add, mod-pow-add, or_shifted}
use Rattle.c_prelude.proofs.Common.{shl-shr, shr_below, shr_le, bits, ValType, Gives, shr_s, Machine, number_helper, DoesOperator, Binary}
use Rattle.w2c_base.specs.declared.value.ValType.TheVariants as type
use Rattle.w2c_base.proofs.Types.{bits_below}
use Rattle.wasm_tree.specs.declared.operators.BinaryOp.TheVariants as binary_op
use Rattle.c_helpers.specs.declared.operation.Form.TheVariants as form
use Rattle.c_prelude.proofs.Computed.{BeginsWith, computed_from}
use Rattle.c_prelude.proofs.Widths.{widths, at_operands, twice, half_pos, answers, sides}
use Rattle.c_prelude.proofs.Signs.{is_low, is_high, pattern_of-pos}

some_bits : (t : ValType) → 0 < bits t
some_bits type.I32 = omega arith
some_bits type.I64 = omega arith

bits-not_zero : (t : ValType) → nat_eq (bits t) 0 ≡ false
bits-not_zero type.I32 = refl
bits-not_zero type.I64 = refl

pub count-lt : (t : ValType) (y : ℕ) → y % bits t < bits t
count-lt t y = let p : 0 < bits t = some_bits t in omega arith

pub count-below : (t : ValType) (y : ℕ) → nat_lt (y % bits t) (bits t) ≡ true
count-below t y = let p : 0 < bits t = some_bits t in let l : y % bits t < bits t = omega arith in grind (arith, nat_tests)

-- what two numbers of the sum Q * D - 1 leave
opposite : (D q r e w : ℕ) → r < D → w + (q * D + r) + 1 ≡ (q + 1 + e) * D → w ≡ e * D + (D - suc r)
opposite D q r e w p h = omega arith

-- their quotients by D have the sum Q - 1
quotients : (D Q w z : ℕ) → 0 < D → w + z + 1 ≡ Q * D → w / D + z / D + 1 ≡ Q
quotients D Q w z p h =
    let d : z / D * D + z % D ≡ z = div-add-mod' z D in
    let l : z % D < D = mod-lt z p in
    let m : z / D * D < Q * D = omega arith in
    let less : z / D < Q = lt_of_mul-lt-mul_right D m in
    let f : z / D + 1 + (Q - suc (z / D)) ≡ Q = omega arith in
    let g : w + (z / D * D + z % D) + 1 ≡ (z / D + 1 + (Q - suc (z / D))) * D = rw (d, f) h in
    let i : w ≡ (Q - suc (z / D)) * D + (D - suc (z % D)) = opposite D (z / D) (z % D) (Q - suc (z / D)) w l g in
    let k : D - suc (z % D) < D = omega arith in
    let j : w / D ≡ Q - suc (z / D) = ap (λ v. v / D) i ∙ div-mul-add (Q - suc (z / D)) D (D - suc (z % D)) k in
    omega arith

-- what C computes: half a turn on, and back by what is left of it
abbrev turned : ℕ → ℕ → ℕ → ℕ
turned N x k = ((x + 2 ^ (N - 1)) % 2 ^ N / 2 ^ k + (2 ^ N - 2 ^ (N - 1) / 2 ^ k)) % 2 ^ N

module _ (N k : ℕ) (d : 2 ^ N ≡ 2 * 2 ^ (N - 1)) (s : 0 < 2 ^ (N - 1)) (count : k < N) where
  -- what is left of half a turn
  whole_half : 2 ^ (N - 1) ≡ 2 ^ (N - 1 - k) * 2 ^ k
  whole_half = let e : N - 1 - k + k ≡ N - 1 = omega arith in ap (λ i. 2 ^ i) (sym e) ∙ pow-add 2 (N - 1 - k) k

  half_left : 2 ^ (N - 1) / 2 ^ k ≡ 2 ^ (N - 1 - k)
  half_left = ap (λ v. v / 2 ^ k) whole_half ∙ shl-shr (2 ^ (N - 1 - k)) k

  left-below : 2 ^ (N - 1 - k) ≤ 2 ^ (N - 1)
  left-below = pow_mono (omega arith)

  turned_low : (x : ℕ) → x < 2 ^ (N - 1) → turned N x k ≡ x / 2 ^ k
  turned_low x h =
      let l : x / 2 ^ k ≤ x = shr_le x k in
      let b : 2 ^ (N - 1 - k) ≤ 2 ^ (N - 1) = left-below in
      let e : (x + 2 ^ (N - 1)) % 2 ^ N ≡ x + 2 ^ (N - 1) = mod-eq_of_lt (omega arith) in
      let f : (x + 2 ^ (N - 1)) / 2 ^ k ≡ x / 2 ^ k + 2 ^ (N - 1 - k) =
      ap (λ v. (x + v) / 2 ^ k) whole_half ∙ add-mul-div_right x (2 ^ (N - 1 - k)) (pow_pos k) in
      let g : x / 2 ^ k + 2 ^ (N - 1 - k) + (2 ^ N - 2 ^ (N - 1 - k)) ≡ x / 2 ^ k + 2 ^ N = omega arith in
      let m : x / 2 ^ k < 2 ^ N = omega arith in
      rw (half_left, e, f, g, add-mod_right (x / 2 ^ k) (2 ^ N)) (mod-eq_of_lt m)

  turned_high : (x : ℕ) → 2 ^ (N - 1) ≤ x → x < 2 ^ N → turned N x k ≡ 2 ^ N - suc ((2 ^ N - suc x) / 2 ^ k)
  turned_high x h l =
      let b : 2 ^ (N - 1 - k) ≤ 2 ^ (N - 1) = left-below in
      let a : x + 2 ^ (N - 1) ≡ x - 2 ^ (N - 1) + 2 ^ N = omega arith in
      let c : x - 2 ^ (N - 1) < 2 ^ N = omega arith in
      let e : (x + 2 ^ (N - 1)) % 2 ^ N ≡ x - 2 ^ (N - 1) = rw (a, add-mod_right (x - 2 ^ (N - 1)) (2 ^ N)) (mod-eq_of_lt c) in
      let p : 2 ^ N - suc x + (x - 2 ^ (N - 1)) + 1 ≡ 2 ^ (N - 1 - k) * 2 ^ k = rw (← whole_half) (omega arith) in
      let q : (2 ^ N - suc x) / 2 ^ k + (x - 2 ^ (N - 1)) / 2 ^ k + 1 ≡ 2 ^ (N - 1 - k) =
      quotients (2 ^ k) (2 ^ (N - 1 - k)) (2 ^ N - suc x) (x - 2 ^ (N - 1)) (pow_pos k) p in
      let r : (x - 2 ^ (N - 1)) / 2 ^ k + (2 ^ N - 2 ^ (N - 1 - k)) < 2 ^ N = omega arith in
      rw (half_left, e, mod-eq_of_lt r) (omega arith)

module _ (N : ℕ) (d : 2 ^ N ≡ 2 * 2 ^ (N - 1)) (s : 0 < 2 ^ (N - 1)) where
  shr_s_low : (x y : ℕ) → y % N < N → x < 2 ^ (N - 1) → shr_s N x y ≡ turned N x (y % N)
  shr_s_low x y c h =
      let l : x / 2 ^ (y % N) ≤ x = shr_le x (y % N) in
      rw (is_low N d s x h, turned_low N (y % N) d s c x h) (pattern_of-pos N d s (x / 2 ^ (y % N)) (omega arith))

  shr_s_high : (x y : ℕ) → y % N < N → 2 ^ (N - 1) ≤ x → x < 2 ^ N → shr_s N x y ≡ turned N x (y % N)
  shr_s_high x y c h l =
      let v : ℕ = (2 ^ N - suc x) / 2 ^ (y % N) in
      let le : v ≤ 2 ^ N - suc x = shr_le (2 ^ N - suc x) (y % N) in
      let lt : v < 2 ^ N = omega arith in
      rw (is_high N d s x h l, turned_high N (y % N) d s c x h l, mod-eq_of_lt lt) (omega arith)

shr_s_begins : (t : ValType) (m : Machine) (x y : ℕ) → BeginsWith form.ShrS t m x y
shr_s_begins type.I32 m x y p pending unit item below = refl
shr_s_begins type.I64 m x y p pending unit item below = refl

pub shr_s_right : (t : ValType) → DoesOperator (number_helper (record { ty = t; form = form.ShrS })) t (Binary binary_op.ShrS)
shr_s_right t m x y p q =
    let N = bits t in
    let d = twice t in
    let s = half_pos t in
    let c : y % N < N = count-lt t y in
    let is : shr_s N x y ≡ turned N x (y % N) =
    elim (sides (2 ^ (N - 1)) x) [ inl a ↦ shr_s_high N d s x y c a.2 p | inr a ↦ shr_s_low N d s x y c a.2 ] in
    answers t (Gives _) _ (ap Gives is)
    (computed_from form.ShrS t m x y 2 (omega arith) (shr_s_begins t m x y) (λ program pending unit item below.
    simp (
      widths,
      at_operands program m unit t x y,
      at_operands program m unit t x
          (y % N),
      bits-not_zero t,
      count-below t y,
    )))

-- N - k modulo N, in C
abbrev other : ℕ → ℕ → ℕ
other N k = (N + (2 ^ N - k)) % 2 ^ N % N

other-some : (N k : ℕ) → N < 2 ^ N → 0 < k → k < N → other N k ≡ N - k
other-some N k b p l =
    let e : N + (2 ^ N - k) ≡ (N - k) + 2 ^ N = omega arith in
    let m : N - k < 2 ^ N = omega arith in
    let n : N - k < N = omega arith in
    rw (e, add-mod_right (N - k) (2 ^ N), mod-eq_of_lt m) (mod-eq_of_lt n)

other-none : (N : ℕ) → N < 2 ^ N → other N 0 ≡ 0
other-none N b =
    let e : N + (2 ^ N - 0) ≡ N + 2 ^ N = omega arith in
    rw (e, add-mod_right N (2 ^ N), mod-eq_of_lt b) (mod_self N)

shl-mod : (x k j : ℕ) → x * 2 ^ k % 2 ^ (j + k) ≡ x % 2 ^ j * 2 ^ k
shl-mod x k j = mod-pow-add (x * 2 ^ k) j k ∙ rw (shl-shr x k, mul-mod_left x (2 ^ k)) (add-zero (x % 2 ^ j * 2 ^ k))

-- the parts of a rotation share no bit
parts : (N k j x : ℕ) → j + k ≡ N → x < 2 ^ N → bit_or (x * 2 ^ k % 2 ^ N) (x / 2 ^ j) ≡ x * 2 ^ k % 2 ^ N + x / 2 ^ j
parts N k j x e h =
    let f : k + j ≡ N = omega arith in
    let l : x / 2 ^ j < 2 ^ k = shr_below x k j (rw f h) in
    rw (← e, shl-mod x k j) (or_shifted (x % 2 ^ j) k (x / 2 ^ j) l)

pub rotated : (N k x : ℕ) → N < 2 ^ N → x < 2 ^ N → k < N → bit_or (x * 2 ^ k % 2 ^ N) (x / 2 ^ other N k) ≡ x * 2 ^ k % 2 ^ N + x / 2 ^
    (N - k)
rotated N zero x b h l =
    let e : x * 2 ^ 0 % 2 ^ N ≡ x = rw (mul-one x) (mod-eq_of_lt h) in
    let f : x / 2 ^ other N 0 ≡ x = rw (other-none N b) (div-one x) in
    let g : x / 2 ^ (N - 0) ≡ 0 = rw (sub-zero N) (div-eq_of_lt h) in
    rw (e, f, g, or_self x) (sym (add-zero x))
rotated N (suc k) x b h l = rw (other-some N (suc k) b (omega arith) l) (parts N (suc k) (N - suc k) x (omega arith) h)

rotl_begins : (t : ValType) (m : Machine) (x y : ℕ) → BeginsWith form.Rotl t m x y
rotl_begins type.I32 m x y p pending unit item below = refl
rotl_begins type.I64 m x y p pending unit item below = refl

pub rotl_right : (t : ValType) → DoesOperator (number_helper (record { ty = t; form = form.Rotl })) t (Binary binary_op.Rotl)
rotl_right t m x y p q =
    let N = bits t in
    let l : y % N < N = count-lt t y in
    answers t (Gives _) _ (ap Gives (sym (rotated N (y % N) x (bits_below t) p l)))
    (computed_from form.Rotl t m x y 2 (omega arith) (rotl_begins t m x y) (λ program pending unit item below.
    simp (
      widths,
      at_operands program m unit t x y,
      at_operands program m unit t x
          (y % N),
      bits-not_zero t,
      count-below t y,
      count-below t ((N + (2 ^ N - y % N)) % 2 ^ N),
    )))

pub rotated_r : (N k x : ℕ) → N < 2 ^ N → x < 2 ^ N → k < N → bit_or (x * 2 ^ other N k % 2 ^ N) (x / 2 ^ k) ≡ x * 2 ^
    (N - k) % 2 ^ N + x / 2 ^ k
rotated_r N zero x b h l =
    let e : x * 2 ^ other N 0 % 2 ^ N ≡ x = rw (other-none N b, mul-one x) (mod-eq_of_lt h) in
    let f : x / 2 ^ 0 ≡ x = div-one x in
    let g : x * 2 ^ (N - 0) % 2 ^ N ≡ 0 = rw (sub-zero N) (mul-mod_left x (2 ^ N)) in
    rw (e, f, g, or_self x) (sym (zero-add x))
rotated_r N (suc k) x b h l = rw (other-some N (suc k) b (omega arith) l) (parts N (N - suc k) (suc k) x (omega arith) h)

rotr_begins : (t : ValType) (m : Machine) (x y : ℕ) → BeginsWith form.Rotr t m x y
rotr_begins type.I32 m x y p pending unit item below = refl
rotr_begins type.I64 m x y p pending unit item below = refl

pub rotr_right : (t : ValType) → DoesOperator (number_helper (record { ty = t; form = form.Rotr })) t (Binary binary_op.Rotr)
rotr_right t m x y p q =
    let N = bits t in
    let l : y % N < N = count-lt t y in
    answers t (Gives _) _ (ap Gives (sym (rotated_r N (y % N) x (bits_below t) p l)))
    (computed_from form.Rotr t m x y 2 (omega arith) (rotr_begins t m x y) (λ program pending unit item below.
    simp (
      widths,
      at_operands program m unit t x y,
      at_operands program m unit t x
          (y % N),
      bits-not_zero t,
      count-below t y,
      count-below t ((N + (2 ^ N - y % N)) % 2 ^ N),
    )))
