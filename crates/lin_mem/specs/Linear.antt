-- A linear memory as a list of bytes with a maximum (WebAssembly Core 1.0, 4.2.8).
use Rattle.std.specs.Prelude.{ℕ, ◌+◌, ◌/◌, List, length, Option, Some, None, min, nat_le, if◌then◌else◌}

pub record Linear : Type 0 where
  pub bytes : List ℕ
  pub most : Option ℕ

-- how many pages a memory may have at most, 16,384 where it has no maximum
abbrev pub page_limit : Option ℕ → ℕ
page_limit None = 16384
page_limit (Some most) = min most 16384

-- what growing by so many pages answers: the pages before it, or None past the limit
abbrev pub grown : Linear → ℕ → Option ℕ
grown m pages = let old = length m.bytes / 65536 in if nat_le (old + pages) (page_limit m.most) then Some old else None
