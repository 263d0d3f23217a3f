-- What a word must be.
use Rattle.std.specs.Prelude.{ℕ, ◌&&◌, nat_le, Bool, List, length}
use Rattle.std.specs.List.{list_all}
use Rattle.std.specs.Char.{is_ascii_digit}

-- 1 to so many decimal digits, with leading zeros or without
abbrev pub is_decimal : ℕ → List ℕ → Bool
is_decimal most text = (nat_le 1 (length text) && nat_le (length text) most) && list_all is_ascii_digit text

-- a module may have this name: it has 1 to 1,024 bytes
abbrev pub is_module_name : List ℕ → Bool
is_module_name name = nat_le 1 (length name) && nat_le (length name) 1024
