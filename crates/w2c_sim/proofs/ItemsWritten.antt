-- The items that `UnitItems` gives, one after another.
use Rattle.w2c_sim.proofs.Common.{◌≡◌, ◌<◌, List, [], ◌∷◌, length, Some, None, Option, option_map, refl, ap, ◌∙◌, arith, Given}
use Rattle.packed_stmts.specs.declared.items.PackedItem.{PackedItem}
use Rattle.packed_stmts.specs.PackedItems.{packed_item_of}
use Rattle.c_tree.specs.Tree as tree

-- the item that was given next
pub given_item : (item : PackedItem) (found : Option PackedItem) (before after : List tree.Item) → found ≡ Some item
    → Given (option_map packed_item_of found) before after → before ≡ packed_item_of item ∷ after
given_item item None before after is given = absurd cc
given_item item (Some i) before after is given =
    let same : i ≡ item = cc in
    given ∙ ap (λ (x : PackedItem). packed_item_of x ∷ after) same

-- none was left
pub none_left : (found : Option PackedItem) (before after : List tree.Item) → ((item : PackedItem) → found ≡ Some item → ⊥)
    → Given (option_map packed_item_of found) before after → before ≡ []
none_left None before after none given = given.0
none_left (Some i) before after none given = absurd (none i refl)

pub shorter : (left after : List tree.Item) (item : tree.Item) → left ≡ item ∷ after → length after < length left
shorter left after item next = rw next (omega arith)
