-- The operators of the subset on u32 and u64 (C11, 6.5.5 to 6.5.12): modulo 2 to the power of the
-- width, as unsigned arithmetic is. A division by 0 is undefined (kind 1), and so is a shift by
-- the width or more (kind 2). A comparison gives 0 or 1.
use Rattle.std.specs.Prelude.{ℕ, ◌+◌, ◌-◌, ◌*◌, ◌/◌, ◌%◌, ◌^◌, Bool, not, ◌==◌, if◌then◌else◌, nat_lt, nat_le, bit_and, bit_or, bit_xor}
use Rattle.w2c_base.specs.declared.value.ValType.{ValType}
use Rattle.w2c_base.specs.declared.value.ValType.TheVariants as type
use Rattle.w2c_base.specs.declared.value.Value.{Value}
use Rattle.w2c_base.specs.declared.value.Value.TheVariants.{I32, I64}
use Rattle.w2c_base.specs.Values.{bits, value}
use Rattle.c_tree.specs.declared.tree.COp.{COp}
use Rattle.c_tree.specs.declared.tree.COp.TheVariants.{Add, Sub, Mul, Div, Rem, And, Or, Xor, Shl, Shr, Eq, Ne, Lt, Le, Gt, Ge}
use Rattle.c_meaning.specs.State.{Evaluated, Is, Bad, NoRule}

abbrev pub truth : Bool → Evaluated Value
truth b = Is (I32 (if b then 1 else 0))

-- both operands are of the type t, of N bits
abbrev pub operate_at : ValType → COp → ℕ → ℕ → Evaluated Value
operate_at t Add x y = Is (value t ((x + y) % 2 ^ bits t))
operate_at t Sub x y = Is (value t ((x + (2 ^ bits t - y)) % 2 ^ bits t))
operate_at t Mul x y = Is (value t (x * y % 2 ^ bits t))
operate_at t Div x y = if y == 0 then Bad 1 else Is (value t (x / y))
operate_at t Rem x y = if y == 0 then Bad 1 else Is (value t (x % y))
operate_at t And x y = Is (value t (bit_and x y))
operate_at t Or x y = Is (value t (bit_or x y))
operate_at t Xor x y = Is (value t (bit_xor x y))
operate_at t Shl x y = if nat_lt y (bits t) then Is (value t (x * 2 ^ y % 2 ^ bits t)) else Bad 2
operate_at t Shr x y = if nat_lt y (bits t) then Is (value t (x / 2 ^ y)) else Bad 2
operate_at t Eq x y = truth (x == y)
operate_at t Ne x y = truth (not (x == y))
operate_at t Lt x y = truth (nat_lt x y)
operate_at t Le x y = truth (nat_le x y)
operate_at t Gt x y = truth (nat_lt y x)
operate_at t Ge x y = truth (nat_le y x)

abbrev pub operate : COp → Value → Value → Evaluated Value
operate op (I32 x) (I32 y) = operate_at type.I32 op x y
operate op (I64 x) (I64 y) = operate_at type.I64 op x y
operate op _ _ = NoRule
