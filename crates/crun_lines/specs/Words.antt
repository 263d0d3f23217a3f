-- How a value, a name and a number stand in a line.
use Rattle.std.specs.Prelude.{ℕ, List, [], ◌∷◌, ◌++◌, codes, flat_map, Option, Some, None}
use Rattle.std.specs.Fmt.{decimal}
use Rattle.w2c_base.specs.declared.value.Value.{Value}
use Rattle.w2c_base.specs.declared.value.Value.TheVariants.{I32, I64}
use Rattle.w2c_mangle.specs.Escaping.{escaped}

-- a value by its type and its number without a sign
abbrev pub number_text : Value → List ℕ
number_text (I32 n) = codes "i32:" ++ decimal n
number_text (I64 n) = codes "i64:" ++ decimal n

abbrev pub value_text : Option Value → List ℕ
value_text None = codes "none"
value_text (Some v) = number_text v

-- values behind one another, a space in front of each
abbrev pub spaced : Value → List ℕ
spaced v = codes " " ++ number_text v

abbrev pub values_text : List Value → List ℕ
values_text values = flat_map spaced values

-- a name without letters is Z, which is no escape
abbrev pub or_z : List ℕ → List ℕ
or_z [] = codes "Z"
or_z (b ∷ text) = b ∷ text

-- the name of a host, or of a function that it offers
abbrev pub name_text : List ℕ → List ℕ
name_text name = or_z (escaped name)
