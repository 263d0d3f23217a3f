-- The bytes of a list, wherever they lie.
use Rattle.std.specs.Prelude.{ℕ, List}
use Rattle.w2c_base.specs.declared.short_bytes.Kept.{Kept}
use Rattle.w2c_base.specs.declared.short_bytes.Kept.TheVariants as kept

abbrev pub bytes_of : Kept → List ℕ
bytes_of (kept.Inside short) = short
bytes_of (kept.Outside bytes) = bytes.value
