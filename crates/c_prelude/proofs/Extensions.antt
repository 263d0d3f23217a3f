-- Sign extension, and its helpers.
use Rattle.c_prelude.proofs.Common.{◌≡◌, ℕ, zero, suc, ◌+◌, ◌*◌, ◌/◌, ◌%◌, ◌^◌, ◌<◌, List, bit_xor, Some, Option, sym, refl, ap, ◌∙◌}
use Rattle.c_prelude.proofs.Common.{mod-lt, one-add, arith, pow_pos, xor_block, xor_zero_r, add-div_right, add-mod_right, nat_tests}
use Rattle.c_prelude.proofs.Common.{mod-pow-add, ValType, extend_s, Program, Pending, Progress, go_on, Frame, Machine, give, number_helper}
use Rattle.c_prelude.proofs.Common.{DoesOperator, number, Extend, ExtendI32S, Form}
use Rattle.w2c_base.specs.declared.value.ValType.TheVariants as type
use Rattle.c_helpers.specs.declared.operation.Form.TheVariants as form
use Rattle.c_prelude.proofs.Computed.{computed}

flip_last : (r : ℕ) → r < 2 → bit_xor r 1 ≡ (r + 1) % 2
flip_last zero h = refl
flip_last (suc zero) h = refl
flip_last (suc (suc r)) h = absurd (omega arith)

-- the low bits tith the uppermost of them turned: x modulo 2 ^ suc k, half a turn on
turned_top : (k x : ℕ) → bit_xor (x % 2 ^ suc k) (2 ^ k) ≡ (x + 2 ^ k) % 2 ^ suc k
turned_top k x =
    let e : 2 ^ suc k ≡ 2 ^ (1 + k) = ap (λ i. 2 ^ i) (sym (one-add k)) in
    let h : ℕ = x / 2 ^ k in
    let l : ℕ = x % 2 ^ k in
    let p : 0 < 2 ^ k = pow_pos k in
    let a : x % 2 ^ (1 + k) ≡ h % 2 * 2 ^ k + l = mod-pow-add x 1 k in
    let b : (x + 2 ^ k) % 2 ^ (1 + k) ≡ (x + 2 ^ k) / 2 ^ k % 2 * 2 ^ k + (x + 2 ^ k) % 2 ^ k = mod-pow-add (x + 2 ^ k) 1 k in
    let c : (x + 2 ^ k) / 2 ^ k ≡ h + 1 = add-div_right x p in
    let d : (x + 2 ^ k) % 2 ^ k ≡ l = add-mod_right x (2 ^ k) in
    let f : bit_xor (h % 2 * 2 ^ k + l) (1 * 2 ^ k + 0) ≡ bit_xor (h % 2) 1 * 2 ^ k + bit_xor l 0 = xor_block k (h % 2) 1 l 0
    (mod-lt x p) p in
    let g : 1 * 2 ^ k + 0 ≡ 2 ^ k = omega arith in
    let i : bit_xor (h % 2) 1 ≡ (h + 1) % 2 = flip_last (h % 2) (omega arith) ∙ omega arith in
    rw (e, a, b, c, d) (ap (bit_xor (h % 2 * 2 ^ k + l)) (sym g) ∙ (f ∙ rw (i, xor_zero_r l)))

-- a number of k low bits extended to N bits: half a turn on, and back
extend8_32 : (x : ℕ) → extend_s 8 32 x ≡ ((x + 128) % 256 + 4294967168) % 4294967296
extend8_32 x = grind (arith, nat_tests)

extend16_32 : (x : ℕ) → extend_s 16 32 x ≡ ((x + 32768) % 65536 + 4294934528) % 4294967296
extend16_32 x = grind (arith, nat_tests)

extend8_64 : (x : ℕ) → extend_s 8 64 x ≡ ((x + 128) % 256 + 18446744073709551488) % 18446744073709551616
extend8_64 x = grind (arith, nat_tests)

extend16_64 : (x : ℕ) → extend_s 16 64 x ≡ ((x + 32768) % 65536 + 18446744073709518848) % 18446744073709551616
extend16_64 x = grind (arith, nat_tests)

extend32_64 : (x : ℕ) → extend_s 32 64 x ≡ ((x + 2147483648) % 4294967296 + 18446744071562067968) % 18446744073709551616
extend32_64 x = grind (arith, nat_tests)

-- the same as C computes it, by turning the highest of the low bits
pub c_extend8_32 : (x : ℕ) → (bit_xor (x % 256) 128 + 4294967168) % 4294967296 ≡ extend_s 8 32 x
c_extend8_32 x = ap (λ v. (v + 4294967168) % 4294967296) (turned_top 7 x) ∙ sym (extend8_32 x)

pub c_extend16_32 : (x : ℕ) → (bit_xor (x % 65536) 32768 + 4294934528) % 4294967296 ≡ extend_s 16 32 x
c_extend16_32 x = ap (λ v. (v + 4294934528) % 4294967296) (turned_top 15 x) ∙ sym (extend16_32 x)

pub c_extend8_64 : (x : ℕ) → (bit_xor (x % 256) 128 + 18446744073709551488) % 18446744073709551616 ≡ extend_s 8 64 x
c_extend8_64 x = ap (λ v. (v + 18446744073709551488) % 18446744073709551616) (turned_top 7 x) ∙ sym (extend8_64 x)

pub c_extend16_64 : (x : ℕ) → (bit_xor (x % 65536) 32768 + 18446744073709518848) % 18446744073709551616 ≡ extend_s 16 64 x
c_extend16_64 x = ap (λ v. (v + 18446744073709518848) % 18446744073709551616) (turned_top 15 x) ∙ sym (extend16_64 x)

pub c_extend32_64 : (x : ℕ) → (bit_xor (x % 4294967296) 2147483648 + 18446744071562067968) % 18446744073709551616 ≡ extend_s 32 64 x
c_extend32_64 x = ap (λ v. (v + 18446744071562067968) % 18446744073709551616) (turned_top 31 x) ∙ sym (extend32_64 x)

-- the run when a number was given back
abbrev given : ValType → Program → Pending → Machine → List Frame → ℕ → Option Progress
given t p pending m below n = Some (go_on p pending (give m (Some (number t n)) below))

pub extend_right : DoesOperator (number_helper (record { ty = type.I64; form = form.ExtendS })) type.I64 ExtendI32S
extend_right m x p = computed 1 (omega arith) (λ program pending unit item below. ap (given type.I64 program pending m below)
    (c_extend32_64 x))

-- the helpers of the low bits of a number
abbrev Extends : ValType → Form → ℕ → Type 0
Extends t f width = DoesOperator (number_helper (record { ty = t; form = f })) t (Extend width)

pub extend8_right_32 : Extends type.I32 form.Extend8S 8
extend8_right_32 m x p = computed 1 (omega arith) (λ program pending unit item below. ap (given type.I32 program pending m below)
    (c_extend8_32 x))

pub extend16_right_32 : Extends type.I32 form.Extend16S 16
extend16_right_32 m x p = computed 1 (omega arith) (λ program pending unit item below. ap (given type.I32 program pending m below)
    (c_extend16_32 x))

pub extend8_right_64 : Extends type.I64 form.Extend8S 8
extend8_right_64 m x p = computed 1 (omega arith) (λ program pending unit item below. ap (given type.I64 program pending m below)
    (c_extend8_64 x))

pub extend16_right_64 : Extends type.I64 form.Extend16S 16
extend16_right_64 m x p = computed 1 (omega arith) (λ program pending unit item below. ap (given type.I64 program pending m below)
    (c_extend16_64 x))

pub extend32_right_64 : Extends type.I64 form.Extend32S 32
extend32_right_64 m x p = computed 1 (omega arith) (λ program pending unit item below. ap (given type.I64 program pending m below)
    (c_extend32_64 x))
