-- What an operator gives has its width.
use Rattle.wasm_meaning.proofs.Common.{◌≡◌, ℕ, zero, suc, ◌+◌, ◌-◌, ◌*◌, ◌/◌, ◌%◌, ◌^◌, ◌<◌, ◌≤◌, Bool, true, false, cond, List, [], ◌∷◌}
use Rattle.wasm_meaning.proofs.Common.{length, take, drop, ℤ, pos, negsuc, nat_eq, nat_le, bit_or, int_div, int_rem, ◌∙◌, add-zero, mod-lt}
use Rattle.wasm_meaning.proofs.Common.{pow-suc, div-le_self, arith, pow_pos, AllByRecursion, bits, DivByZero, IntOverflow, MemoryOut}
use Rattle.wasm_meaning.proofs.Common.{ValType, I32, I64}
use Rattle.std.specs.Int.{int_div_euclid}
use Rattle.std.proofs.lemmas.Nat.{ones-le, leading_le, trailing_le, or_lt, xor_lt, shr_le, or_shifted, shr_below, mod-pow-add, shl-shr}
use lib.Bits.{and_lt}
use native.Mathlib.Nat.{mod-le, mul-mod_left}
use Rattle.w2c_base.specs.LittleEndian.{little_endian, bytes_at}
use Rattle.w2c_base.proofs.Types.{bits_below}
use Rattle.w2c_base.specs.Values.{pattern_of}
use Rattle.wasm_tree.specs.declared.operators.UnaryOp.{UnaryOp}
use Rattle.wasm_tree.specs.declared.operators.UnaryOp.TheVariants.{Clz, Ctz, Popcnt}
use Rattle.wasm_tree.specs.declared.operators.BinaryOp.{BinaryOp}
use Rattle.wasm_tree.specs.declared.operators.BinaryOp.TheVariants.{Add, Sub, Mul, DivS, DivU, RemS, RemU, And, Or, Xor, Shl, ShrS, ShrU}
use Rattle.wasm_tree.specs.declared.operators.BinaryOp.TheVariants.{Rotl, Rotr}
use Rattle.wasm_tree.specs.declared.operators.LoadOp.{LoadOp}
use Rattle.wasm_tree.specs.declared.operators.LoadOp.TheVariants.{I32Load, I64Load, I32Load8S, I32Load16S, I64Load8S, I64Load16S}
use Rattle.wasm_tree.specs.declared.operators.LoadOp.TheVariants.{I64Load32S}
use Rattle.wasm_tree.specs.declared.operators.ExtendOp.{ExtendOp}
use Rattle.wasm_tree.specs.Accesses.{load_access, extend_width, extend_type}
use Rattle.wasm_meaning.specs.Memories.{load_number, extended}
use Rattle.wasm_meaning.specs.Operators.{Answer, Gives, Traps, AnswerFits, signed, overflows, unary, binary, extend_s}

pub pattern_below : (N : ℕ) (z : ℤ) → pattern_of N z < 2 ^ N
pattern_below N (pos a) = mod-lt a (pow_pos N)
pattern_below N (negsuc a) = let p : 0 < 2 ^ N = pow_pos N in omega arith

chosen : (N : ℕ) (b : Bool) (s t : Answer) → AnswerFits N s → AnswerFits N t → AnswerFits N (cond b s t)
chosen N true s t p q = p
chosen N false s t p q = q

count_below : (t : ValType) (y : ℕ) → y % bits t < bits t
count_below I32 y = omega arith
count_below I64 y = omega arith

shifted_low : (x k j : ℕ) → x * 2 ^ k % 2 ^ (j + k) ≡ x % 2 ^ j * 2 ^ k
shifted_low x k j = mod-pow-add (x * 2 ^ k) j k ∙ rw (shl-shr x k, mul-mod_left x (2 ^ k)) (add-zero (x % 2 ^ j * 2 ^ k))

-- the parts of a rotation share no bit
rotated : (N k j x : ℕ) → j + k ≡ N → x < 2 ^ N → x * 2 ^ k % 2 ^ N + x / 2 ^ j < 2 ^ N
rotated N k j x e h =
    let f : k + j ≡ N = omega arith in
    let low : x / 2 ^ j < 2 ^ k = shr_below x k j (rw f h) in
    let small : x / 2 ^ j ≤ x = shr_le x j in
    let parts : bit_or (x * 2 ^ k % 2 ^ N) (x / 2 ^ j) ≡ x * 2 ^ k % 2 ^ N + x / 2 ^ j =
    rw (← e, shifted_low x k j) (or_shifted (x % 2 ^ j) k (x / 2 ^ j) low) in
    rw (← parts) (or_lt N (x * 2 ^ k % 2 ^ N) (x / 2 ^ j) (mod-lt (x * 2 ^ k) (pow_pos N)) (omega arith))

pub binary_fits : (t : ValType) (op : BinaryOp) (x y : ℕ) → x < 2 ^ bits t → y < 2 ^ bits t → AnswerFits (bits t) (binary op (bits t) x y)
binary_fits t Add x y p q = mod-lt (x + y) (pow_pos (bits t))
binary_fits t Sub x y p q = mod-lt (x + (2 ^ bits t - y)) (pow_pos (bits t))
binary_fits t Mul x y p q = mod-lt (x * y) (pow_pos (bits t))
binary_fits t DivS x y p q =
    let z : ℤ = int_div (signed (bits t) x) (signed (bits t) y) in
    chosen (bits t) (nat_eq y 0) (Traps DivByZero) (cond (overflows (bits t) x y) (Traps IntOverflow) (Gives (pattern_of (bits t) z))) tt
    (chosen (bits t) (overflows (bits t) x y) (Traps IntOverflow) (Gives (pattern_of (bits t) z)) tt (pattern_below (bits t) z))
binary_fits t DivU x y p q =
    chosen (bits t) (nat_eq y 0) (Traps DivByZero) (Gives (x / y)) tt (let l : x / y ≤ x = div-le_self x y in omega arith)
binary_fits t RemS x y p q =
    let z : ℤ = int_rem (signed (bits t) x) (signed (bits t) y) in
    chosen (bits t) (nat_eq y 0) (Traps DivByZero) (Gives (pattern_of (bits t) z)) tt (pattern_below (bits t) z)
binary_fits t RemU x y p q =
    chosen (bits t) (nat_eq y 0) (Traps DivByZero) (Gives (x % y)) tt (let l : x % y ≤ x = mod-le x y in omega arith)
binary_fits t And x y p q = and_lt (bits t) x y p q
binary_fits t Or x y p q = or_lt (bits t) x y p q
binary_fits t Xor x y p q = xor_lt (bits t) x y p q
binary_fits t Shl x y p q = mod-lt (x * 2 ^ (y % bits t)) (pow_pos (bits t))
binary_fits t ShrS x y p q = pattern_below (bits t) (int_div_euclid (signed (bits t) x) (pos (2 ^ (y % bits t))))
binary_fits t ShrU x y p q = let l : x / 2 ^ (y % bits t) ≤ x = shr_le x (y % bits t) in omega arith
binary_fits t Rotl x y p q =
    let l : y % bits t < bits t = count_below t y in
    rotated (bits t) (y % bits t) (bits t - y % bits t) x (omega (arith, l)) p
binary_fits t Rotr x y p q =
    let l : y % bits t < bits t = count_below t y in
    rotated (bits t) (bits t - y % bits t) (y % bits t) x (omega (arith, l)) p

pub unary_fits : (t : ValType) (op : UnaryOp) (x : ℕ) → x < 2 ^ bits t → unary op (bits t) x < 2 ^ bits t
unary_fits t Clz x p = let l = leading_le (bits t) x in let b = bits_below t in omega (arith, l, b)
unary_fits t Ctz x p = let l = trailing_le (bits t) x in let b = bits_below t in omega (arith, l, b)
unary_fits t Popcnt x p = let l = ones-le (bits t) x p in let b = bits_below t in omega (arith, l, b)

-- so many bytes spell a number below that power of 256
bytes_below : (width : ℕ) (bytes : List ℕ) → AllByRecursion (λ b. b < 256) bytes → little_endian (take width bytes) < 256 ^ width
bytes_below zero bytes h = omega arith
bytes_below (suc width) [] h = pow_below (suc width)
  where
    pow_below : (k : ℕ) → 0 < 256 ^ k
    pow_below zero = omega arith
    pow_below (suc k) = let p : 0 < 256 ^ k = pow_below k in rw pow-suc (omega arith)
bytes_below (suc width) (b ∷ bytes) h =
    let p : b < 256 = h.0 in
    let q : little_endian (take width bytes) < 256 ^ width = bytes_below width bytes h.1 in
    rw pow-suc (omega arith)

dropped : (n : ℕ) (bytes : List ℕ) → AllByRecursion (λ b. b < 256) bytes → AllByRecursion (λ b. b < 256) (drop n bytes)
dropped zero bytes h = h
dropped (suc n) [] h = tt
dropped (suc n) (b ∷ bytes) h = dropped n bytes h.1

read_below : (bytes : List ℕ) (address width : ℕ) → AllByRecursion (λ b. b < 256) bytes
    → little_endian (bytes_at bytes address width) < 256 ^ width
read_below bytes address width h = bytes_below width (drop address bytes) (dropped address bytes h)

extended_fits : (op : LoadOp) (n : ℕ) → n < 256 ^ (load_access op).width → extended op n < 2 ^ bits (load_access op).ty
extended_fits I32Load n h = h
extended_fits I64Load n h = h
extended_fits I32Load8S n h = pattern_below 32 _
extended_fits I32Load16S n h = pattern_below 32 _
extended_fits I64Load8S n h = pattern_below 64 _
extended_fits I64Load16S n h = pattern_below 64 _
extended_fits I64Load32S n h = pattern_below 64 _
extended_fits _ n h = omega arith

pub load_fits : (op : LoadOp) (bytes : List ℕ) (address : ℕ) → AllByRecursion (λ b. b < 256) bytes
    → AnswerFits (bits (load_access op).ty) (load_number op bytes address)
load_fits op bytes address h =
    chosen (bits (load_access op).ty) (nat_le (address + (load_access op).width) (length bytes))
    (Gives (extended op (little_endian (bytes_at bytes address (load_access op).width)))) (Traps MemoryOut)
    (extended_fits op (little_endian (bytes_at bytes address (load_access op).width)) (read_below bytes address (load_access op).width h))
    tt

pub extend_fits : (op : ExtendOp) (x : ℕ) → extend_s (extend_width op) (bits (extend_type op)) x < 2 ^ bits (extend_type op)
extend_fits op x = pattern_below (bits (extend_type op)) _
