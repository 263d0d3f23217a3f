-- How a name is written with letters, digits and _ alone, so that it may stand in a C identifier.
use Rattle.std.specs.Prelude.{ℕ, ◌+◌, ◌-◌, ◌/◌, ◌%◌, ◌==◌, ◌&&◌, ◌||◌, not, nat_lt, Bool, List, [], ◌∷◌, if◌then◌else◌}
use Rattle.std.specs.Char.{is_ascii_alphanumeric}
use Rattle.std.specs.List.{flat_map}

-- letters other than Z (90), digits and _ (95) stay
abbrev pub stays : ℕ → Bool
stays b = (is_ascii_alphanumeric b && not (b == 90)) || b == 95

-- the upper-case hexadecimal digit: 0 is 48, A is 65
abbrev pub hexadecimal_digit : ℕ → ℕ
hexadecimal_digit d = if nat_lt d 10 then 48 + d else 65 + (d - 10)

-- any other byte is Z and its two hexadecimal digits
abbrev pub escaped_byte : ℕ → List ℕ
escaped_byte b = if stays b then b ∷ [] else 90 ∷ hexadecimal_digit (b / 16) ∷ hexadecimal_digit (b % 16) ∷ []

-- each byte in turn
abbrev pub escaped : List ℕ → List ℕ
escaped name = flat_map escaped_byte name
