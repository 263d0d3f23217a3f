-- What a refusal says of a unit.
use Rattle.std.specs.Prelude.{◌≡◌, List, Some}
use Rattle.c_tree.specs.Tree as tree
use Rattle.c_tree.specs.FirstBroken.{IsFirstBroken, first_broken}
use Rattle.c_check.specs.declared.checked.CheckRefusal.{CheckRefusal}
use Rattle.c_check.specs.declared.checked.CheckRefusal.TheVariants as refusal

-- A rule is the first that the unit breaks: it is broken there, and none that is broken comes before it. Want of memory
-- says nothing of the unit.
abbrev pub IsFirstRule : List tree.Item → CheckRefusal → Type 0
IsFirstRule unit (refusal.Rule item statement rule) = IsFirstBroken unit (record { item = item; statement = statement; rule = rule })
IsFirstRule unit refusal.Memory = Unit {0}

-- the same by what computes it
abbrev pub IsFoundRule : List tree.Item → CheckRefusal → Type 0
IsFoundRule unit (refusal.Rule item statement rule) = first_broken unit ≡ Some (record { item = item; statement = statement; rule = rule })
IsFoundRule unit refusal.Memory = Unit {0}
