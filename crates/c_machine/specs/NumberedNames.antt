-- Names with their numbers, few or many, as entries of a table.
use Rattle.std.specs.Prelude.{ℕ, List, map}
use Rattle.c_machine.specs.declared.numbered_names.NumberedName.{NumberedName}
use Rattle.c_machine.specs.declared.numbered_names.KeptNames.{KeptNames}
use Rattle.c_machine.specs.declared.numbered_names.KeptNames.TheVariants.{Few, Many}

abbrev pub entry_of : NumberedName → List ℕ × ℕ
entry_of one = (one.name.items, one.number)

abbrev pub entries_of : KeptNames → List (List ℕ × ℕ)
entries_of (Few names) = map entry_of names.items
entries_of (Many numbers) = numbers.value
