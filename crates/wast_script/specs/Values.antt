-- The JSON value of a value: an object whose `type` is `i32` or `i64` and whose `value` is a text of 1 to 20 decimal digits,
-- at most the greatest value of the type.
use Rattle.std.specs.Prelude.{ℕ, ◌^◌, List, [], ◌∷◌, Option, Some, None, if◌then◌else◌, option_map, option_and_then, codes}
use Rattle.std.specs.Str.{bytes_eq}
use Rattle.w2c_base.specs.declared.value.ValType.{ValType}
use Rattle.w2c_base.specs.declared.value.ValType.TheVariants.{I32, I64}
use Rattle.w2c_base.specs.declared.value.Value.{Value}
use Rattle.w2c_base.specs.Values.{bits, value}
use Rattle.crun_words.specs.Numbers.{number_below}
use Rattle.serde_json.specs.Data.{Data, Items, no_items, item}
use Rattle.serde_json.specs.Find.{as_array, as_str, get}
use Rattle.wast_script.specs.Lists.{all_given}

-- the items of an array, in order
abbrev pub list_of : Items → List Data
list_of no_items = []
list_of (item d ds) = d ∷ list_of ds

-- a member that is a text; of members with one name the last counts
abbrev pub text_in : List ℕ → Data → Option (List ℕ)
text_in name d = option_and_then as_str (get name d)

-- the items of a value that is an array
abbrev pub items_in : Data → Option (List Data)
items_in d = option_map list_of (as_array d)

-- those of a member that is one
abbrev pub array_in : List ℕ → Data → Option (List Data)
array_in name d = option_and_then items_in (get name d)

-- the type that a text names
abbrev pub type_named : List ℕ → Option ValType
type_named text = if bytes_eq text (codes "i32") then Some I32 else (if bytes_eq text (codes "i64") then Some I64 else None)

-- the value of a type that digits write
abbrev pub value_in_digits : List ℕ → ValType → Option Value
value_in_digits digits ty = option_map (value ty) (number_below (2 ^ bits ty) digits)

-- the value of a type's name and of digits
abbrev pub value_with : Option (List ℕ) → Option (List ℕ) → Option Value
value_with (Some name) (Some digits) = option_and_then (value_in_digits digits) (type_named name)
value_with (Some name) None = None
value_with None digits = None

-- the value that a JSON value stands for
abbrev pub value_of : Data → Option Value
value_of d = value_with (text_in (codes "type") d) (text_in (codes "value") d)

-- a member that is an array of values
abbrev pub values_in : List ℕ → Data → Option (List Value)
values_in name d = option_and_then (all_given value_of) (array_in name d)
