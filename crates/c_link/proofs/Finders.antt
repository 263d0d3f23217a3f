-- What a table of hosts and units finds, the meaning of C finds.
use Rattle.c_link.proofs.Common.{◌≡◌, ℕ, ◌&&◌, List, [], ◌∷◌, take, is_some, if◌then◌else◌, None, Option, flat_map, sym, ap, ◌∙◌, option_or}
use Rattle.c_link.proofs.Common.{named, Name, LinkRefusal, Twice, external_functions, first, first_refusal, twice, type_found, Holds}
use Rattle.c_link.proofs.Common.{offers, told, first_twice, first_unresolved, types_in, Offer}
use Rattle.c_tree.specs.Tree as tree
use Rattle.c_link.proofs.Apart.{found_same, found_some, some_typed, typed}
use Rattle.c_link.proofs.FirstRefusal.{twice_in}

-- what is defined twice asks only whether something is found
pub twice_found : (table : List (Name × Offer)) (units : List (List tree.Item)) (symbols : List (Name × tree.FuncType)) (u : ℕ)
    (items : List tree.Item) → Holds table (offers (take u units) symbols)
    → first (flat_map (twice (types_in table) u) (external_functions items)) ≡ twice_in units symbols (u, items)
twice_found table units symbols u items holds =
    ap (λ (refusals : tree.Func → List LinkRefusal). first (flat_map refusals (external_functions items))) (λ i f. same f i)
  where
    there : (q : Name) → is_some (types_in table q) ≡ is_some (type_found (take u units) symbols q)
    there q = some_typed (told (named q table)) ∙ ap is_some (holds q) ∙ found_some (take u units) symbols q

    same : (f : tree.Func) → twice (types_in table) u f ≡ twice (type_found (take u units) symbols) u f
    same f = ap (λ b. if is_some f.body && b then Twice u f.name ∷ [] else []) (there f.name)

-- where nothing is defined twice, the first refusal is the first that is not resolved
pub refused_late : (table : List (Name × Offer)) (units : List (List tree.Item)) (symbols : List (Name × tree.FuncType))
    → Holds table (offers units symbols) → first_twice units symbols ≡ None
    → first_refusal units symbols ≡ first_unresolved (types_in table) units
refused_late table units symbols holds none =
    ap (λ o. option_or o (first_unresolved (type_found units symbols) units)) none
    ∙ ap (λ (found : Name → Option tree.FuncType). first_unresolved found units) (λ i q. same q i)
  where
    same : (q : Name) → type_found units symbols q ≡ types_in table q
    same q = sym (ap typed (holds q) ∙ found_same units symbols q none)
