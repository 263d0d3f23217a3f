-- The names that units get when they become one: `u`, the unit's number in decimal without leading zeros, `_`, and the old name.
-- Names that functions of external linkage and of the runtime have stay.
use Rattle.std.specs.Prelude.{ℕ, zero, suc, ◌+◌, not, Bool, List, ◌++◌, codes, map}
use Rattle.std.specs.Int.Digits.{digits_of}
use Rattle.c_tree.specs.Rules.{is_own_name}
use Rattle.c_meaning.specs.State.{Name}

abbrev pub decimal_text : ℕ → List ℕ
decimal_text zero = codes "0"
decimal_text (suc n) = map (λ d. 48 + d) (digits_of 10 (suc n))

abbrev pub name_in : ℕ → Name → Name
name_in u x = codes "u" ++ (decimal_text u ++ (codes "_" ++ x))

-- a name of the runtime, or one that other units see
abbrev pub is_outside : Name → Bool
is_outside x = not (is_own_name x)
