-- Objects by the numbers of their names.
use Rattle.crun_lines.proofs.Common.{◌≡◌, ℕ, ◌+◌, List, [], ◌∷◌, map, length, get_or, drop, zip, sym, refl, ap, ◌∙◌, add-one, arith}
use Rattle.crun_lines.proofs.Common.{drop-cons, insert_entry, match_ordering, Name, in_order, name_order, numbered_from, put_in_order}
use Rattle.crun_lines.proofs.Placing.{map_matched}

-- with something else beside each name
abbrev pub beside : {A B : Type 0} → (A → B) → Name × A → Name × B
beside f e = (e.0, f e.1)

beside_insert : {A B : Type 0} (f : A → B) (entries : List (Name × A)) (k : Name) (v : A)
    → map (beside f) (insert_entry name_order entries k v) ≡ insert_entry name_order (map (beside f) entries) k (f v)
beside_insert f [] k v = refl
beside_insert f (e ∷ entries) k v =
    map_matched (map (beside f)) (name_order k e.0) ((k, v) ∷ e ∷ entries) ((e.0, v) ∷ entries) (e ∷ insert_entry name_order entries k v)
    ∙ ap (λ rest. match_ordering (name_order k e.0) ((k, f v) ∷ beside f e ∷ map (beside f) entries)
    ((e.0, f v) ∷ map (beside f) entries) (beside f e ∷ rest))
    (beside_insert f entries k v)

beside_placed : {A B : Type 0} (f : A → B) (placed entries : List (Name × A))
    → map (beside f) (put_in_order placed entries) ≡ put_in_order (map (beside f) placed) (map (beside f) entries)
beside_placed f placed [] = refl
beside_placed f placed (e ∷ entries) =
    beside_placed f (insert_entry name_order placed e.0 e.1) entries
    ∙ ap (λ front. put_in_order front (map (beside f) entries)) (beside_insert f placed e.0 e.1)

-- objects from a number on, beside their names
zipped : {A : Type 0} (names : List Name) (k : ℕ) (objects : List A) (d : A) → k + length names ≡ length objects
    → zip names (drop k objects) ≡ map (beside (λ i. get_or objects i d)) (numbered_from k names)
zipped [] k objects d e = refl
zipped (name ∷ names) k objects d e =
    let cut : drop k objects ≡ get_or objects k d ∷ drop (k + 1) objects = rw add-one (drop-cons objects k d (omega arith)) in
    ap (λ left. zip (name ∷ names) left) cut
    ∙ ap (λ rest. (name, get_or objects k d) ∷ rest) (zipped names (k + 1) objects d (omega arith))

pub found_by_number : {A : Type 0} (names : List Name) (objects : List A) (d : A) → length names ≡ length objects
    → in_order (zip names objects) ≡ map (beside (λ i. get_or objects i d)) (in_order (numbered_from 0 names))
found_by_number names objects d e =
    ap in_order (zipped names 0 objects d (omega arith)) ∙ sym (beside_placed (λ i. get_or objects i d) [] (numbered_from 0 names))
