-- Names of a unit by what the rules ask of them: those that it declares, those that it defines, and
-- the first declaration of each.
use Rattle.std.specs.Prelude.{◌≡◌, ◌&&◌, ◌||◌, not, Bool, true, if◌then◌else◌, List, [], ◌∷◌, filter_map, bytes_eq, Option, Some, None}
use Rattle.std.specs.Prelude.{option_map}
use Rattle.std.specs.List.{list_all}
use Rattle.std.specs.Borrow.{Bor}
use Rattle.w2c_base.specs.Lookup.{named}
use Rattle.c_tree.specs.declared.tree.Item.{Item}
use Rattle.c_tree.specs.Tree as tree
use Rattle.c_tree.specs.View.{item_of}
use Rattle.c_tree.specs.Scope.{Name, name_of}
use Rattle.c_tree.specs.Rules.{has_body, may_both_stand}

-- the name that an item declares, and the one that it defines
abbrev pub some_name : tree.Item → Option Name
some_name item = Some (name_of item)

abbrev pub defined_name : tree.Item → Option Name
defined_name item = if has_body item then Some (name_of item) else None

abbrev pub names_of : List tree.Item → List Name
names_of items = filter_map some_name items

abbrev pub defined_of : List tree.Item → List Name
defined_of items = filter_map defined_name items

abbrev pub by_name : tree.Item → Option (Name × tree.Item)
by_name item = Some (name_of item, item)

-- the items by their names
abbrev pub by_names : List tree.Item → List (Name × tree.Item)
by_names items = filter_map by_name items

-- each name stands for the first item that declares it
abbrev pub FindsFirst : List (Name × Bor Item) → List tree.Item → Type 0
FindsFirst table items = (q : Name) → option_map (λ (i : Bor Item). item_of i.now) (named q table) ≡ named q (by_names items)

-- the later of two items does not clash with the earlier one
abbrev pub stands_behind : tree.Item → tree.Item → Bool
stands_behind earlier later = not (bytes_eq (name_of earlier) (name_of later)) || may_both_stand earlier later

-- no two items clash
abbrev pub none_clash : List tree.Item → Bool
none_clash [] = true
none_clash (item ∷ items) = list_all (stands_behind item) items && none_clash items
