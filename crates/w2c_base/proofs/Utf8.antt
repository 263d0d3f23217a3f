-- The test of UTF-8.
use Rattle.std.proofs.Common.{◌≡◌, ℕ, Bool, true, false, List, refl, sym}
use Rattle.std.specs.Str.{IsUtf8, is_utf8}
use Rattle.std.proofs.lemmas.Str.{IsUtf8-from_is_utf8, is_utf8-from_IsUtf8}

pub tested : (bytes : List ℕ) → IsUtf8 bytes → true ≡ is_utf8 bytes
tested bytes u = sym (is_utf8-from_IsUtf8 bytes u)

by_test : (bytes : List ℕ) (b : Bool) → is_utf8 bytes ≡ b → (IsUtf8 bytes → ⊥) → false ≡ b
by_test bytes true e bad = absurd (bad (IsUtf8-from_is_utf8 bytes e))
by_test bytes false e bad = refl

pub failed : (bytes : List ℕ) → (IsUtf8 bytes → ⊥) → false ≡ is_utf8 bytes
failed bytes bad = by_test bytes (is_utf8 bytes) refl bad
