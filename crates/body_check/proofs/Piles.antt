-- Operands in memory, one more and one less.
use Rattle.body_check.proofs.Common.{◌≡◌, ℕ, zero, suc, ◌+◌, ◌<◌, ◌≤◌, List, [], ◌∷◌, ◌++◌, length, drop, Some, None, refl, ap, ◌∙◌, arith}
use Rattle.body_check.proofs.Common.{Operands, empties, on, pile, popped, Operand}

pile_push : (xs : List Operand) (x : Operand) (s : Operands) → pile (xs ++ x ∷ []) s ≡ on x (pile xs s)
pile_push [] x s = refl
pile_push (y ∷ xs) x s = pile_push xs x (on y s)

drop_push : (n : ℕ) (xs : List Operand) (x : Operand) → n ≤ length xs → drop n (xs ++ x ∷ []) ≡ drop n xs ++ x ∷ []
drop_push zero xs x le = refl
drop_push (suc n) [] x le = absurd (omega (arith, le))
drop_push (suc n) (y ∷ xs) x le = drop_push n xs x (omega (arith, le))

-- one more operand above the first n
pub shown_push : (n : ℕ) (xs ys : List Operand) (x : Operand) (s : Operands) → n ≤ length xs → ys ≡ xs ++ x ∷ []
    → pile (drop n ys) s ≡ on x (pile (drop n xs) s)
shown_push n xs ys x s le e = ap (λ zs. pile (drop n zs) s) e ∙ ap (λ zs. pile zs s) (drop_push n xs x le) ∙ pile_push (drop n xs) x s

-- one less, where there are more than n
pub shown_pop : (n : ℕ) (xs ys : List Operand) (x : Operand) (s : Operands) → n < length xs → xs ≡ ys ++ x ∷ []
    → popped (pile (drop n xs) s) ≡ Some (x, pile (drop n ys) s)
shown_pop n xs ys x s less e =
    let one : length (ys ++ x ∷ []) ≡ length ys + 1 = length_push ys in
    let same : length xs ≡ length (ys ++ x ∷ []) = ap length e in
    ap popped (shown_push n ys xs x s (omega (arith, less, one, same)) e)
  where
    length_push : (zs : List Operand) → length (zs ++ x ∷ []) ≡ length zs + 1
    length_push [] = refl
    length_push (z ∷ zs) = let e : length (zs ++ x ∷ []) ≡ length zs + 1 = length_push zs in omega (arith, e)

pub filled_pile : (n : ℕ) (xs : List Operand) (s : Operands) → n < length xs → empties (pile (drop n xs) s) ≡ None
filled_pile n [] s less = absurd (omega (arith, less))
filled_pile zero (x ∷ xs) s less = full x xs s
  where
    full : (y : Operand) (ys : List Operand) (r : Operands) → empties (pile (y ∷ ys) r) ≡ None
    full y [] r = refl
    full y (z ∷ ys) r = full z ys (on y r)
filled_pile (suc n) (x ∷ xs) s less = filled_pile n xs s (omega (arith, less))
