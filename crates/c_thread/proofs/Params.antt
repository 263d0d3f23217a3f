-- Arguments of the types of parameters, one parameter after the other.
use Rattle.c_thread.proofs.Common.{◌≡◌, ℕ, ◌+◌, ◌≤◌, Bool, true, false, ◌&&◌, List, [], ◌∷◌, map, length, drop, is_some, ◌==◌, slice_get}
use Rattle.c_thread.proofs.Common.{Some, None, refl, ap, ◌∙◌, arith, drop_all, drop_front, of_type, CValue, are_of_types, param_types}
use Rattle.c_tree.specs.Tree as tree

module _ {V : Type 0} (view : V → CValue) where
  -- from the i-th parameter on
  abbrev pub left : List tree.Param → ℕ → List V → Bool
  left ps i vs = are_of_types (param_types (drop i ps)) (map view vs)

  abbrev fit : List tree.Param → List V → Bool
  fit ps vs = are_of_types (param_types ps) (map view vs)

  module _ (ps : List tree.Param) (i : ℕ) (q : tree.Param) (at : slice_get ps i ≡ Some q) where
    -- one without a name
    pub passed_over : (vs : List V) → is_some q.1 ≡ false → left ps i vs ≡ left ps (i + 1) vs
    passed_over vs none = ap (λ l. fit l vs) (drop_front ps i q at) ∙ go q none
      where
        go : (q : tree.Param) → is_some q.1 ≡ false → fit (q ∷ drop (i + 1) ps) vs ≡ left ps (i + 1) vs
        go (ty, None) e = refl
        go (ty, Some name) e = absurd cc

    -- one with a name, where no value is left, or one of another type, or one of its type
    pub wanting : is_some q.1 ≡ true → left ps i [] ≡ false
    wanting some = ap (λ l. fit l []) (drop_front ps i q at) ∙ go q some
      where
        go : (q : tree.Param) → is_some q.1 ≡ true → fit (q ∷ drop (i + 1) ps) [] ≡ false
        go (ty, None) e = absurd cc
        go (ty, Some name) e = refl

    pub differs : (v : V) (vs : List V) → is_some q.1 ≡ true → of_type q.0 (view v) ≡ false → left ps i (v ∷ vs) ≡ false
    differs v vs some other = ap (λ l. fit l (v ∷ vs)) (drop_front ps i q at) ∙ go q some other
      where
        go : (q : tree.Param) → is_some q.1 ≡ true → of_type q.0 (view v) ≡ false → fit (q ∷ drop (i + 1) ps) (v ∷ vs) ≡ false
        go (ty, None) e other = absurd cc
        go (ty, Some name) e other = rw other refl

    pub taken : (v : V) (vs : List V) → is_some q.1 ≡ true → of_type q.0 (view v) ≡ true → left ps i (v ∷ vs) ≡ left ps (i + 1) vs
    taken v vs some same = ap (λ l. fit l (v ∷ vs)) (drop_front ps i q at) ∙ go q some same
      where
        go : (q : tree.Param) → is_some q.1 ≡ true → of_type q.0 (view v) ≡ true → fit (q ∷ drop (i + 1) ps) (v ∷ vs) ≡ left ps (i + 1) vs
        go (ty, None) e same = absurd cc
        go (ty, Some name) e same = rw same refl

  -- behind the last
  pub at_end : (ps : List tree.Param) (i : ℕ) (vs : List V) → length ps ≤ i → left ps i vs ≡ fit [] vs
  at_end ps i vs past = ap (λ l. fit l vs) (drop_all i ps past)

  pub none_left : (vs : List V) → fit [] vs ≡ (length vs == 0)
  none_left [] = refl
  none_left (v ∷ vs) = grind arith
