-- A signed constant read without its sign, as the program reads it.
use Rattle.c_helpers.proofs.Common.{◌≡◌, ℤ, pos, negsuc, arith, w32, w64, pattern_of}
use mir.Val.{SFits, of_z}

pub pattern_32 : (z : ℤ) → SFits w32 z → of_z w32 z ≡ pattern_of 32 z
pattern_32 (pos n) h = let small = h.sfits in omega (arith, small)
pattern_32 (negsuc n) h = let small = h.sfits in omega (arith, small)

pub pattern_64 : (z : ℤ) → SFits w64 z → of_z w64 z ≡ pattern_of 64 z
pattern_64 (pos n) h = let small = h.sfits in omega (arith, small)
pattern_64 (negsuc n) h = let small = h.sfits in omega (arith, small)
