-- Numbers as their bytes: the library's words and ours say the same.
use Rattle.lin_mem.proofs.Common.{◌≡◌, ℕ, [], ◌∷◌, w32, w64, low_bytes}
use Rattle.std.proofs.Math.Nat.{div-div-eq-div-mul}
use Rattle.std.specs.Int.{to_le_bytes}

pub to_32 : (n : ℕ) → to_le_bytes w32 n ≡ low_bytes 4 n
to_32 n = simp div-div-eq-div-mul

pub to_64 : (n : ℕ) → to_le_bytes w64 n ≡ low_bytes 8 n
to_64 n = simp div-div-eq-div-mul
