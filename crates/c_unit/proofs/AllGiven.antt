-- Items that are given one after the other make the unit.
use Rattle.c_unit.proofs.Common.{◌≡◌, suc, ◌<◌, List, [], ◌∷◌, ◌++◌, length, Some, None, Option, option_map, sym, refl, ap, ◌∙◌}
use Rattle.c_unit.proofs.Common.{append_assoc, append-nil, arith, map_push, item_of, unit_of, Given}
use Rattle.c_tree.specs.declared.tree.Item.{Item}
use Rattle.c_tree.specs.Tree as tree

pub put_next : (unit grown : List Item) (item : Item) (found : Option Item) (before after all : List tree.Item) → found ≡ Some item
    → Given (option_map item_of found) before after → grown ≡ unit ++ item ∷ [] → unit_of unit ++ before ≡ all
    → unit_of grown ++ after ≡ all
put_next unit grown item None before after all is given put so_far = absurd cc
put_next unit grown item (Some i) before after all is given put so_far =
    let same : i ≡ item = cc in
    ap (λ ys. unit_of ys ++ after) put
    ∙ (ap (λ ys. ys ++ after) (map_push item_of unit item)
    ∙ (append_assoc (unit_of unit) (item_of item ∷ []) after
    ∙ (ap (λ y. unit_of unit ++ item_of y ∷ after) (sym same) ∙ (ap (λ ys. unit_of unit ++ ys) (sym given) ∙ so_far))))

pub fewer : (item : Item) (found : Option Item) (before after : List tree.Item) → found ≡ Some item
    → Given (option_map item_of found) before after → length after < length before
fewer item None before after is given = absurd cc
fewer item (Some i) before after is given = let count : length before ≡ suc (length after) = ap length given in omega (arith, count)

pub all_put : (unit : List Item) (found : Option Item) (before after all : List tree.Item) → ((item : Item) → found ≡ Some item → ⊥)
    → Given (option_map item_of found) before after → unit_of unit ++ before ≡ all → unit_of unit ≡ all
all_put unit None before after all none given so_far =
    sym (append-nil (unit_of unit)) ∙ (ap (λ ys. unit_of unit ++ ys) (sym given.0) ∙ so_far)
all_put unit (Some i) before after all none given so_far = absurd (none i refl)
