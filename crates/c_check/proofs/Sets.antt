-- Sets of names, and tests of all items of a list.
use Rattle.c_check.proofs.Common.{◌≡◌, ℕ, zero, suc, ◌+◌, ◌<◌, ◌≤◌, Bool, true, false, not, ◌&&◌, ◌||◌, List, [], ◌∷◌, map, length, get_or}
use Rattle.c_check.proofs.Common.{take}
use Rattle.c_check.proofs.Common.{is_some, Option, filter_map, bytes_eq, sym, refl, ap, ◌∙◌, arith, length-map, list_all}
use Rattle.c_check.proofs.Common.{list_any, named, hides_none, name_of, CType, names_of, knows_next, variable_pair, Variable}
use Rattle.c_tree.specs.Tree as tree
use Rattle.c_tree.proofs.Tested.{list_all_map}

pub or_nothing : (b : Bool) → (b || false) ≡ b
or_nothing true = refl
or_nothing false = refl

-- a set behind one more item that may name something, and behind all
pub knows_put : {A B C : Type 0} (view : A → B) (of : B → Option (List ℕ)) (xs : List A) (i : ℕ) (x : A) → i < length xs
    → x ≡ get_or xs i x → (before after : List (List ℕ × C)) (o : Option (List ℕ)) → o ≡ of (view x)
    → ((q : List ℕ) → is_some (named q after)
    ≡ (is_some (named q before) || list_any (bytes_eq q) (filter_map (λ (m : Option (List ℕ)). m) (o ∷ []))))
    → ((q : List ℕ) → is_some (named q before) ≡ list_any (bytes_eq q) (filter_map of (take i (map view xs))))
    → (q : List ℕ) → is_some (named q after) ≡ list_any (bytes_eq q) (filter_map of (take (i + 1) (map view xs)))
knows_put view of xs i x lt is before after o e grown so_far =
    knows_next view of xs i x lt is before after
    (λ q. grown q ∙ ap (λ (m : Option (List ℕ)). is_some (named q before)
    || list_any (bytes_eq q) (filter_map (λ (m' : Option (List ℕ)). m') (m ∷ []))) e) so_far

pub knows_all : {A B C : Type 0} (view : A → B) (of : B → Option (List ℕ)) (xs : List A) (i : ℕ) (set : List (List ℕ × C)) → length xs ≤ i
    → ((q : List ℕ) → is_some (named q set) ≡ list_any (bytes_eq q) (filter_map of (take i (map view xs))))
    → (q : List ℕ) → is_some (named q set) ≡ list_any (bytes_eq q) (filter_map of (map view xs))
knows_all view of xs i set past so_far q = so_far q
    ∙ ap (λ ys. list_any (bytes_eq q) (filter_map of ys))
    (whole (map view xs) i (let e : length (map view xs) ≡ length xs = simp length-map in omega arith))
  where
    whole : {B : Type 0} (ys : List B) (n : ℕ) → length ys ≤ n → take n ys ≡ ys
    whole [] zero le = refl
    whole [] (suc n) le = refl
    whole (y ∷ ys) zero le = absurd (omega arith)
    whole (y ∷ ys) (suc n) le = ap (λ zs. y ∷ zs) (whole ys n (omega arith))

-- a test by the set is one by the list
pub all_same : {A : Type 0} (p q : A → Bool) (xs : List A) → ((x : A) → p x ≡ q x) → list_all p xs ≡ list_all q xs
all_same p q [] e = refl
all_same p q (x ∷ xs) e = ap (λ b. b && list_all p xs) (e x) ∙ ap (λ b. q x && b) (all_same p q xs e)

-- the names of variables
pub names_of_pairs : (vs : List Variable) → map (λ (v : Variable). v.name.now) vs ≡ map (λ (p : List ℕ × CType). p.0) (map variable_pair vs)
names_of_pairs [] = refl
names_of_pairs (v ∷ vs) = ap (λ zs. v.name.now ∷ zs) (names_of_pairs vs)

pub names_listed : (items : List tree.Item) → names_of items ≡ map name_of items
names_listed [] = refl
names_listed (x ∷ items) = ap (λ zs. name_of x ∷ zs) (names_listed items)

-- names that are in no set of a unit's names hide none of it
pub hides : {C : Type 0} (set : List (List ℕ × C)) (unit : List tree.Item) (own : List Variable) (names : List (List ℕ))
    → ((q : List ℕ) → is_some (named q set) ≡ list_any (bytes_eq q) (names_of unit))
    → map (λ (v : Variable). v.name.now) own ≡ names
    → list_all (λ (v : Variable). not (is_some (named v.name.now set))) own ≡ hides_none unit names
hides set unit own names knows same =
    all_same (λ (v : Variable). not (is_some (named v.name.now set)))
    (λ (v : Variable). not (list_any (bytes_eq v.name.now) (map name_of unit))) own
    (λ v. ap not (knows v.name.now ∙ ap (list_any (bytes_eq v.name.now)) (names_listed unit)))
    ∙ sym (list_all_map (λ n. not (list_any (bytes_eq n) (map name_of unit))) (λ (v : Variable). v.name.now) own)
    ∙ ap (hides_none unit) same
