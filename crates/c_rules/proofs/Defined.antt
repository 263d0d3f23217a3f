-- What a unit defines, item by item.
use Rattle.c_rules.proofs.Common.{◌≡◌, ℕ, Bool, true, false, ◌&&◌, ◌||◌, List, [], ◌∷◌, if◌then◌else◌, Some, None, bytes_eq, refl, ap, ◌∙◌}
use Rattle.c_rules.proofs.Common.{cons_option, list_any, bytes_eq-sym, defines, has_body, name_of, defined_of}
use Rattle.c_tree.specs.Tree as tree

pub defined_front : (q : List ℕ) (x : tree.Item) (items : List tree.Item)
    → list_any (bytes_eq q) (defined_of (x ∷ items))
    ≡ ((bytes_eq (name_of x) q && has_body x) || list_any (bytes_eq q) (defined_of items))
defined_front q x items = go (has_body x) (bytes_eq (name_of x) q) (bytes_eq-sym q (name_of x))
  where
    front : (b : Bool) → bytes_eq q (name_of x) ≡ b
        → (bytes_eq q (name_of x) || list_any (bytes_eq q) (defined_of items)) ≡ ((b && true) || list_any (bytes_eq q) (defined_of items))
    front true e = ap (λ c. c || list_any (bytes_eq q) (defined_of items)) e
    front false e = ap (λ c. c || list_any (bytes_eq q) (defined_of items)) e

    go : (h b : Bool) → bytes_eq q (name_of x) ≡ b
        → list_any (bytes_eq q) (cons_option (if h then Some (name_of x) else None) (defined_of items))
        ≡ ((b && h) || list_any (bytes_eq q) (defined_of items))
    go true b e = front b e
    go false true e = refl
    go false false e = refl

pub defines_among : (q : List ℕ) (items : List tree.Item) → list_any (bytes_eq q) (defined_of items) ≡ list_any (defines q) items
defines_among q [] = refl
defines_among q (x ∷ items) = defined_front q x items ∙ ap (λ b. (bytes_eq (name_of x) q && has_body x) || b) (defines_among q items)
