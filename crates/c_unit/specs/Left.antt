-- What is left of a unit's items behind those that were given.
use Rattle.std.specs.Prelude.{◌≡◌, List, [], ◌∷◌, drop, Option, Some, None}
use Rattle.c_tree.specs.Tree as tree
use Rattle.c_init.specs.Sources.{module_of}
use Rattle.unit_definition.specs.Items.{items}
use Rattle.c_unit.specs.declared.unit_items.UnitItems.{UnitItems}

-- what was not given yet
abbrev pub left_of : UnitItems → List tree.Item
left_of u = drop u.number (items (module_of u.source))

-- the next of what was left, and what is left then
abbrev pub Given : Option tree.Item → List tree.Item → List tree.Item → Type 0
Given None before after = (before ≡ []) × (after ≡ [])
Given (Some item) before after = before ≡ item ∷ after
