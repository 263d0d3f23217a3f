-- The names of a unit's globals differ, and none is that of a pointer.
use Rattle.alike.proofs.Common.{ℕ, ◌^◌, ◌<◌, ◌≢◌, List, ap, arith, decimal_injective, global_name, pointer_name, tail}

pub global_at_another_place : (h k : ℕ) → h < 2 ^ 64 → k < 2 ^ 64 → h ≢ k → global_name h ≢ global_name k
global_at_another_place h k p q ne e = ne (decimal_injective h k p q (ap tail e))

pub global_is_no_pointer : (k : ℕ) (object : List ℕ) → global_name k ≢ pointer_name object
global_is_no_pointer k object e = grind arith
