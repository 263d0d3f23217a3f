-- The order of signed numbers, and signed numbers by their patterns.
use Rattle.c_prelude.proofs.Common.{◌≡◌, ℕ, suc, ◌+◌, ◌-◌, ◌%◌, ◌^◌, ◌<◌, ◌≤◌, pos, negsuc, nat_lt, nat_le, int_lt, int_le, arith}
use Rattle.c_prelude.proofs.Common.{nat_tests, signed}
use Rattle.std.proofs.lemmas.Int.{ints}

-- the order of signed numbers is that of the numbers half a turn on
pub lt_s_32 : (x y : ℕ) → x < 2 ^ 32 → y < 2 ^ 32 → nat_lt ((x + 2147483648) % 4294967296) ((y + 2147483648) % 4294967296) ≡ int_lt
    (signed 32 x) (signed 32 y)
lt_s_32 x y p q = grind (arith, nat_tests, ints)

pub lt_s_64 : (x y : ℕ) → x < 2 ^ 64 → y < 2 ^ 64 → nat_lt ((x + 9223372036854775808) % 18446744073709551616)
    ((y + 9223372036854775808) % 18446744073709551616) ≡ int_lt (signed 64 x) (signed 64 y)
lt_s_64 x y p q = grind (arith, nat_tests, ints)

pub le_s_32 : (x y : ℕ) → x < 2 ^ 32 → y < 2 ^ 32 → nat_le ((x + 2147483648) % 4294967296) ((y + 2147483648) % 4294967296) ≡ int_le
    (signed 32 x) (signed 32 y)
le_s_32 x y p q = grind (arith, nat_tests, ints)

pub le_s_64 : (x y : ℕ) → x < 2 ^ 64 → y < 2 ^ 64 → nat_le ((x + 9223372036854775808) % 18446744073709551616)
    ((y + 9223372036854775808) % 18446744073709551616) ≡ int_le (signed 64 x) (signed 64 y)
le_s_64 x y p q = grind (arith, nat_tests, ints)

-- a signed number by its bits
pub signed_low : (H x : ℕ) → (N : ℕ) → 2 ^ (N - 1) ≡ H → x < H → signed N x ≡ pos x
signed_low H x N e h = grind (arith, nat_tests)

pub signed_high : (H x : ℕ) → (N : ℕ) → 2 ^ (N - 1) ≡ H → H ≤ x → x < 2 ^ N → signed N x ≡ negsuc (2 ^ N - suc x)
signed_high H x N e h l = grind (arith, nat_tests, ints)
