-- Numbers as words: 1 to 20 decimal digits, with leading zeros or without.
use Rattle.std.specs.Prelude.{ℕ, ◌&&◌, nat_lt, if◌then◌else◌, List, Option, Some, None}
use Rattle.c_tree.specs.Grammar.{value_of}
use Rattle.program_words.specs.Tests.{is_decimal}

-- the number that a text writes, where it is one and below a bound
abbrev pub number_below : ℕ → List ℕ → Option ℕ
number_below bound text = if is_decimal 20 text && nat_lt (value_of 0 text) bound then Some (value_of 0 text) else None
