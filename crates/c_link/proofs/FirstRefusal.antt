-- The first refusal of units, unit by unit and item by item.
use Rattle.c_link.proofs.Common.{◌≡◌, ℕ, Bool, true, false, List, [], ◌∷◌, take, if◌then◌else◌, Some, None, Option, flat_map, refl, ap, ◌∙◌}
use Rattle.c_link.proofs.Common.{cons_option, option_or, first-append, if_found, numbered, Name, LinkRefusal, external_functions, first}
use Rattle.c_link.proofs.Common.{twice, type_found, unresolved, first_twice, first_unresolved, in_item}
use Rattle.c_tree.specs.Tree as tree
use Rattle.c_link.proofs.Walks.{first_of}

first_flat : {A B : Type 0} (g : A → List B) (xs : List A) → first (flat_map g xs) ≡ first_of (λ x. first (g x)) xs
first_flat g [] = refl
first_flat g (x ∷ xs) = first-append (g x) (flat_map g xs) ∙ ap (option_or (first (g x))) (first_flat g xs)

-- the functions of external linkage, item by item
pub in_items : (g : tree.Func → List LinkRefusal) (items : List tree.Item)
    → first (flat_map g (external_functions items)) ≡ first_of (in_item g) items
in_items g [] = refl
in_items g (tree.Array name count bytes ∷ items) = in_items g items
in_items g (tree.Var ty name number ∷ items) = in_items g items
in_items g (tree.Function f ∷ items) = go f.is_static (in_items g items)
  where
    go : (b : Bool) → first (flat_map g (external_functions items)) ≡ first_of (in_item g) items
        → first (flat_map g (cons_option (if b then None else Some f) (external_functions items)))
        ≡ option_or (if_found (if b then None else Some f) (λ f. first (g f))) (first_of (in_item g) items)
    go true e = e
    go false e = first-append (g f) (flat_map g (external_functions items)) ∙ ap (option_or (first (g f))) e

-- ---- unit by unit

abbrev pub twice_in : List (List tree.Item) → List (Name × tree.FuncType) → ℕ × List tree.Item → Option LinkRefusal
twice_in units symbols u = first (flat_map (twice (type_found (take u.0 units) symbols) u.0) (external_functions u.1))

abbrev pub unresolved_in : (Name → Option tree.FuncType) → ℕ × List tree.Item → Option LinkRefusal
unresolved_in found u = first (flat_map (unresolved found u.0) (external_functions u.1))

pub twice_units : (units : List (List tree.Item)) (symbols : List (Name × tree.FuncType))
    → first_twice units symbols ≡ first_of (twice_in units symbols) (numbered units)
twice_units units symbols =
    first_flat (λ (u : ℕ × List tree.Item). flat_map (twice (type_found (take u.0 units) symbols) u.0) (external_functions u.1))
    (numbered units)

pub unresolved_units : (found : Name → Option tree.FuncType) (units : List (List tree.Item))
    → first_unresolved found units ≡ first_of (unresolved_in found) (numbered units)
unresolved_units found units =
    first_flat (λ (u : ℕ × List tree.Item). flat_map (unresolved found u.0) (external_functions u.1)) (numbered units)
