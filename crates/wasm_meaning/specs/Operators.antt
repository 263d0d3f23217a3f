-- The integer operators, on bit patterns of N bits read as numbers below 2 ^ N (WebAssembly Core
-- 1.0, 4.3.1 and 4.3.2): unbounded arithmetic, and the signed reading of a pattern.
use Rattle.std.specs.Prelude.{ℕ, ◌+◌, ◌-◌, ◌*◌, ◌/◌, ◌%◌, ◌^◌, ◌<◌, Bool, ◌&&◌, not, ◌==◌, nat_lt, nat_le, if◌then◌else◌, ℤ, pos, ◌-ℤ◌}
use Rattle.std.specs.Prelude.{int_lt, int_le, int_div, int_rem, bit_and, bit_or, bit_xor, ⊤}
use Rattle.std.specs.Int.{int_div_euclid}
use Rattle.std.specs.Int.Count.{ones, count_leading_zeros, count_trailing_zeros}
use Rattle.w2c_base.specs.declared.trap.TrapKind.{TrapKind}
use Rattle.w2c_base.specs.declared.trap.TrapKind.TheVariants.{DivByZero, IntOverflow}
use Rattle.w2c_base.specs.Values.{pattern_of}
use Rattle.wasm_tree.specs.declared.operators.UnaryOp.{UnaryOp}
use Rattle.wasm_tree.specs.declared.operators.UnaryOp.TheVariants.{Clz, Ctz, Popcnt}
use Rattle.wasm_tree.specs.declared.operators.BinaryOp.{BinaryOp}
use Rattle.wasm_tree.specs.declared.operators.BinaryOp.TheVariants.{Add, Sub, Mul, DivS, DivU, RemS, RemU, And, Or, Xor, Shl, ShrS, ShrU}
use Rattle.wasm_tree.specs.declared.operators.BinaryOp.TheVariants.{Rotl, Rotr}
use Rattle.wasm_tree.specs.declared.operators.CompareOp.{CompareOp}
use Rattle.wasm_tree.specs.declared.operators.CompareOp.TheVariants.{Eq, Ne, LtS, LtU, GtS, GtU, LeS, LeU, GeS, GeU}

-- what an operator comes to
pub data Answer : Type 0 where
  Gives : (number : ℕ) → Answer
  Traps : (kind : TrapKind) → Answer

-- what is given is a pattern of N bits
abbrev pub AnswerFits : ℕ → Answer → Type 0
AnswerFits N (Gives n) = n < 2 ^ N
AnswerFits N (Traps kind) = ⊤

-- the signed reading of a pattern
abbrev pub signed : ℕ → ℕ → ℤ
signed N x = if nat_lt x (2 ^ (N - 1)) then pos x else pos x -ℤ pos (2 ^ N)

abbrev pub truth : Bool → ℕ
truth b = if b then 1 else 0

-- the low k bits, extended by their sign to N bits
abbrev pub extend_s : ℕ → ℕ → ℕ → ℕ
extend_s k N x = pattern_of N (signed k (x % 2 ^ k))

-- the least signed number by -1: its quotient is no signed number of N bits
abbrev pub overflows : ℕ → ℕ → ℕ → Bool
overflows N x y = x == 2 ^ (N - 1) && y == 2 ^ N - 1

abbrev pub div_u : ℕ → ℕ → Answer
div_u x y = if y == 0 then Traps DivByZero else Gives (x / y)

abbrev pub rem_u : ℕ → ℕ → Answer
rem_u x y = if y == 0 then Traps DivByZero else Gives (x % y)

-- the quotient is rounded toward zero
abbrev pub div_s : ℕ → ℕ → ℕ → Answer
div_s N x y =
    if y == 0 then Traps DivByZero
    else (if overflows N x y then Traps IntOverflow else Gives (pattern_of N (int_div (signed N x) (signed N y))))

-- the remainder has the sign of the dividend
abbrev pub rem_s : ℕ → ℕ → ℕ → Answer
rem_s N x y = if y == 0 then Traps DivByZero else Gives (pattern_of N (int_rem (signed N x) (signed N y)))

abbrev pub shl : ℕ → ℕ → ℕ → ℕ
shl N x y = x * 2 ^ (y % N) % 2 ^ N

abbrev pub shr_u : ℕ → ℕ → ℕ → ℕ
shr_u N x y = x / 2 ^ (y % N)

-- the quotient by a power of two is rounded down
abbrev pub shr_s : ℕ → ℕ → ℕ → ℕ
shr_s N x y = pattern_of N (int_div_euclid (signed N x) (pos (2 ^ (y % N))))

-- the low part moved up, and the high part moved down
abbrev pub rotl : ℕ → ℕ → ℕ → ℕ
rotl N x y = x * 2 ^ (y % N) % 2 ^ N + x / 2 ^ (N - y % N)

abbrev pub rotr : ℕ → ℕ → ℕ → ℕ
rotr N x y = x * 2 ^ (N - y % N) % 2 ^ N + x / 2 ^ (y % N)

abbrev pub unary : UnaryOp → ℕ → ℕ → ℕ
unary Clz N x = count_leading_zeros N x
unary Ctz N x = count_trailing_zeros N x
unary Popcnt N x = ones x

abbrev pub binary : BinaryOp → ℕ → ℕ → ℕ → Answer
binary Add N x y = Gives ((x + y) % 2 ^ N)
binary Sub N x y = Gives ((x + (2 ^ N - y)) % 2 ^ N)
binary Mul N x y = Gives (x * y % 2 ^ N)
binary DivS N x y = div_s N x y
binary DivU N x y = div_u x y
binary RemS N x y = rem_s N x y
binary RemU N x y = rem_u x y
binary And N x y = Gives (bit_and x y)
binary Or N x y = Gives (bit_or x y)
binary Xor N x y = Gives (bit_xor x y)
binary Shl N x y = Gives (shl N x y)
binary ShrS N x y = Gives (shr_s N x y)
binary ShrU N x y = Gives (shr_u N x y)
binary Rotl N x y = Gives (rotl N x y)
binary Rotr N x y = Gives (rotr N x y)

abbrev pub compare : CompareOp → ℕ → ℕ → ℕ → Bool
compare Eq N x y = x == y
compare Ne N x y = not (x == y)
compare LtS N x y = int_lt (signed N x) (signed N y)
compare LtU N x y = nat_lt x y
compare GtS N x y = int_lt (signed N y) (signed N x)
compare GtU N x y = nat_lt y x
compare LeS N x y = int_le (signed N x) (signed N y)
compare LeU N x y = nat_le x y
compare GeS N x y = int_le (signed N y) (signed N x)
compare GeU N x y = nat_le y x
