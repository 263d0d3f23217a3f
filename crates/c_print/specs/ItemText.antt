-- One item of a unit, and which texts spell it.
use Rattle.std.specs.Prelude.{◌≡◌, ℕ, List, [], ◌∷◌, ◌++◌}
use Rattle.std.specs.List.{Contains}
use Rattle.c_tree.specs.declared.token.Tok.TheVariants as tok
use Rattle.c_tree.specs.Tree.{Item}
use Rattle.c_tree.specs.Tokens.{Fixed}
use Rattle.c_tree.specs.Text.{tokens}
use Rattle.c_tree.specs.Trees.{item_tokens}
use Rattle.c_tree.specs.Spelled.{FitsItem, Formed, depth_limit}

-- some unit that a text spells has the item
abbrev pub IsItemOfUnit : Item → Type 0
IsItemOfUnit item = (unit : List Item) × Formed unit × Contains unit item

-- The text spells the item: its tokens are those of the tree in order.
pub record SpellsItem (item : Item) (text : List ℕ) : Type 0 where
  pub in_order : tokens text ≡ item_tokens item ++ Fixed tok.End ∷ []
  pub fits : FitsItem depth_limit item
