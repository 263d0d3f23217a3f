-- Units that get their tables one by one.
use Rattle.crun_startup.proofs.Common.{◌≡◌, ℕ, zero, suc, ◌+◌, List, [], ◌∷◌, ◌++◌, length, slice_get, Some, sym, ap, ◌∙◌, subst, arith}
use Rattle.crun_startup.proofs.Common.{map-append, unit_of, LinkedUnit, Symbols, AreUnits, IsUnit, zero-add}
use Rattle.c_tree.specs.Tree as tree

each_push : {A : Type 0} (P : ℕ → A → Type 0) (k : ℕ) (made : List A) (l : A) → ((u : ℕ) (x : A) → slice_get made u ≡ Some x → P (k + u) x)
    → P (k + length made) l → (u : ℕ) (x : A) → slice_get (made ++ l ∷ []) u ≡ Some x → P (k + u) x
each_push P k [] l each one zero x at = let same : l ≡ x = cc in subst (P (k + 0)) same one
each_push P k [] l each one (suc u) x at = absurd cc
each_push P k (y ∷ made) l each one zero x at = each zero x at
each_push P k (y ∷ made) l each one (suc u) x at =
    let move : (n : ℕ) → (k + 1) + n ≡ k + suc n = λ n. omega arith in
    subst (λ n. P n x) (move u)
    (each_push P (k + 1) made l (λ v z e. subst (λ n. P n z) (sym (move v)) (each (suc v) z e)) (rw (move (length made)) one) u x at)

pub units_push : (symbols : Symbols) (units : List (List tree.Item)) (items : List tree.Item) (made : List LinkedUnit) (l : LinkedUnit)
    → unit_of l.items.value ≡ items → IsUnit symbols (length made) l → AreUnits symbols units made
    → AreUnits symbols (units ++ items ∷ []) (made ++ l ∷ [])
units_push symbols units items made l is one are = record {
  items = map-append (λ (l : LinkedUnit). unit_of l.items.value) made (l ∷ [])
      ∙ ap (λ us. us ++ unit_of l.items.value ∷ []) are.items ∙ ap (λ x. units ++ x ∷ []) is;
  each = λ u x at. subst (λ n. IsUnit symbols n x) (zero-add u)
      (each_push (IsUnit symbols) 0 made l (λ v z e. subst (λ n. IsUnit symbols n z) (sym (zero-add v)) (are.each v z e))
      (subst (λ n. IsUnit symbols n l) (sym (zero-add (length made))) one) u x at);
}
