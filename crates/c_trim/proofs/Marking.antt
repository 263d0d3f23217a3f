-- What reaching functions by their names comes to, name by name.
use Rattle.c_trim.proofs.Common.{◌≡◌, ℕ, zero, suc, ◌+◌, ◌<◌, ◌≤◌, Bool, List, [], ◌∷◌, ◌++◌, map, length, get_or, take, drop}
use Rattle.c_trim.proofs.Common.{if◌then◌else◌, Some, None, flat_map, sym, refl, ap, ◌∙◌, arith, position_from, option_or, named, Name}
use Rattle.c_trim.proofs.Common.{Reached, with_item, with_names}
use Rattle.c_tree.proofs.Tested.{at_front}

pub with_both : (table : List (Name × ℕ)) (xs ys : List Name) (r : Reached) → with_names table (xs ++ ys) r
    ≡ with_names table ys (with_names table xs r)
with_both table [] ys r = refl
with_both table (x ∷ xs) ys r = with_both table xs ys (with_item (named x table) r)

-- what is left of a list reaches the rest
pub one_reached : {A B : Type 0} (table : List (Name × ℕ)) (names : B → List Name) (f : A → B) (xs : List A) (i : ℕ) (item : A)
    (old new whole : Reached) → i < length xs → item ≡ get_or xs i item → new ≡ with_names table (names (f item)) old
    → with_names table (flat_map names (map f (drop i xs))) old ≡ whole
    → with_names table (flat_map names (map f (drop (i + 1) xs))) new ≡ whole
one_reached table names f xs i item old new whole less is reached before =
    ap (with_names table (flat_map names (map f (drop (i + 1) xs)))) reached
    ∙ sym (with_both table (names (f item)) (flat_map names (map f (drop (i + 1) xs))) old)
    ∙ sym (ap (λ l. with_names table (flat_map names (map f l)) old) (at_front xs i item less is))
    ∙ before

-- ---- the first of a list that passes

pub position_push : {A : Type 0} (test : A → Bool) (k : ℕ) (xs : List A) (x : A)
    → position_from test k (xs ++ x ∷ []) ≡ option_or (position_from test k xs) (if test x then Some (k + length xs) else None)
position_push test k [] x = let e : k ≡ k + 0 = omega arith in ap (λ n. if test x then Some n else None) e
position_push {A} test k (y ∷ xs) x = grind (arith, test y, position_push test (k + 1) xs x, test x)

pub length_take : {A : Type 0} (xs : List A) (i : ℕ) → i ≤ length xs → length (take i xs) ≡ i
length_take xs zero le = refl
length_take [] (suc i) le = absurd (omega arith)
length_take (x ∷ xs) (suc i) le = ap suc (length_take xs i (omega arith))
