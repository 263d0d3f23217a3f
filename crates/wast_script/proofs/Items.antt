-- The items of an array as JSON values.
use Rattle.wast_script.proofs.Common.{◌≡◌, ◌≤◌, Bool, true, ◌&&◌, leb, List, [], ◌∷◌, map, length, is_some, Some, Option, Vec, option_map}
use Rattle.wast_script.proofs.Common.{Global, sym, refl, ap, ◌∙◌, Bor, le-leb, Data, Items, items_of, items_view, view, length-map}
use Rattle.wast_script.proofs.Common.{list_all, are_objects, most_commands, items_in, list_of}
use Rattle.std.proofs.lemmas.List.Folds.{list_all-map}
use Rattle.serde_json.specs.Find.{as_array, as_object}
use Rattle.serde_json.specs.declared.value.Value.{Value}

same_items : (ds : List Data) → list_of (items_of ds) ≡ ds
same_items [] = refl
same_items (d ∷ ds) = ap (λ l. d ∷ l) (same_items ds)

abbrev Array : Type 0
Array = Bor (Vec Value Global)

abbrev seen : Option Array → Option Items
seen found = option_map (λ (v : Array). items_view v.now.items) found

pub array_items : (d : Data) (found : Option Array) (items : Array) (slice : List Value) → found ≡ Some items → seen found ≡ as_array d
    → slice ≡ items.now.items → Some (map view slice) ≡ items_in d
array_items d found items slice is same slice_is =
    ap (λ (vs : List Value). Some (map view vs)) slice_is ∙ ap (λ l. Some l) (sym (same_items (map view items.now.items)))
    ∙ ap (λ o. option_map list_of (seen o)) (sym is) ∙ ap (option_map list_of) same

abbrev all_objects : List Value → Bool
all_objects items = list_all (λ item. is_some (as_object (view item))) items

-- at most so many items, each of them an object
pub objects_when : (items : List Value) → length items ≤ most_commands → all_objects items ≡ are_objects (map view items)
objects_when items few =
    let within : leb (length (map view items)) most_commands ≡ true = rw length-map (le-leb (length items) most_commands few) in
    let are : Data → Bool = λ d. is_some (as_object d) in
    sym (list_all-map are view items) ∙ ap (λ b. b && list_all are (map view items)) (sym within)
