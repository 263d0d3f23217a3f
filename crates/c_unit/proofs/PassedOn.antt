-- The parameters of a function that passes a call on.
use Rattle.c_unit.proofs.Common.{◌≡◌, ℕ, zero, suc, ◌+◌, ◌<◌, List, [], ◌∷◌, ◌++◌, map, length, get_or, drop, sym, refl, ap, ◌∙◌}
use Rattle.c_unit.proofs.Common.{append_assoc, add-one, arith, map_push, ValType, at_front, c_type_of, args_from, param_name}
use Rattle.c_tree.specs.Tree as tree

pub args_next : (types : List ValType) (k : ℕ) → k < length types
    → args_from k (map c_type_of (drop k types)) ≡ tree.Value (tree.Name (param_name k)) ∷ args_from (k + 1)
    (map c_type_of (drop (k + 1) types))
args_next [] k lt = absurd (omega (arith, lt))
args_next (t ∷ types) k lt = at (drop k (t ∷ types)) (drop (k + 1) (t ∷ types)) _
    (at_front (t ∷ types) k (get_or (t ∷ types) k t) lt (again (t ∷ types) k t))
  where
    again : (xs : List ValType) (i : ℕ) (d : ValType) → get_or xs i d ≡ get_or xs i (get_or xs i d)
    again [] i d = refl
    again (x ∷ xs) zero d = refl
    again (x ∷ xs) (suc i) d = again xs i d

    at : (left rest : List ValType) (u : ValType) → left ≡ u ∷ rest
        → args_from k (map c_type_of left) ≡ tree.Value (tree.Name (param_name k)) ∷ args_from (k + 1) (map c_type_of rest)
    at left rest u e = ap (λ ls. args_from k (map c_type_of ls)) e ∙ (rw add-one refl)

-- one more at the end of what is made
pub put_more : {V B : Type 0} (f : V → B) (made : List V) (v : V) (left rest whole : List B) → left ≡ f v ∷ rest
    → map f made ++ left ≡ whole → map f (made ++ v ∷ []) ++ rest ≡ whole
put_more f made v left rest whole is so_far =
    ap (λ ys. ys ++ rest) (map_push f made v) ∙ append_assoc (map f made) (f v ∷ []) rest ∙ ap (λ ys. map f made ++ ys) (sym is) ∙ so_far
