-- What the tests of well formed units tell.
use Rattle.c_tree.proofs.Common.{◌≡◌, ℕ, suc, ◌+◌, ◌<◌, Bool, true, false, ◌&&◌, ◌||◌, List, [], ◌∷◌, map, length, get_or, drop, sym, refl}
use Rattle.c_tree.proofs.Common.{ap, ◌∙◌, add-one, drop-cons, list_all, expr_formed}
use Rattle.c_tree.specs.Tree as tree

pub list_all_map : {A B : Type 0} (p : B → Bool) (view : A → B) (xs : List A) → list_all p (map view xs) ≡ list_all (λ x. p (view x)) xs
list_all_map p view [] = refl
list_all_map p view (x ∷ xs) = ap (λ b. p (view x) && b) (list_all_map p view xs)

-- ---- loops that test each element in turn

-- what is left, from an item on
pub at_front : {A : Type 0} (xs : List A) (i : ℕ) (x : A) → i < length xs → x ≡ get_or xs i x → drop i xs ≡ x ∷ drop (i + 1) xs
at_front xs i x lt is = rw add-one (drop-cons xs i x lt ∙ ap (λ y. y ∷ drop (suc i) xs) (sym is))

pub all_more : {A : Type 0} (p : A → Bool) (xs : List A) (i : ℕ) (x : A) (whole : Bool) → i < length xs → x ≡ get_or xs i x → p x ≡ true
    → list_all p (drop i xs) ≡ whole → list_all p (drop (i + 1) xs) ≡ whole
all_more p xs i x whole lt is passes so_far =
    sym (ap (list_all p) (at_front xs i x lt is) ∙ ap (λ b. b && list_all p (drop (i + 1) xs)) passes) ∙ so_far

-- ---- expressions

-- no expression stands inside too many
pub no_room : (e : tree.Expr) → expr_formed 0 e ≡ false
no_room (tree.Name n) = refl
no_room _ = refl
