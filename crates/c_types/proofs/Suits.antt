-- Arguments, each beside the type of its parameter.
use Rattle.c_types.proofs.Common.{◌≡◌, ℕ, suc, ◌+◌, ◌<◌, ◌≤◌, Bool, true, false, ◌&&◌, ◌≢◌, List, [], ◌∷◌, map, length, get_or, drop, sym}
use Rattle.c_types.proofs.Common.{refl, ap, ◌∙◌, arith, arg_suits, args_suit}
use Rattle.std.proofs.lemmas.List.{drop_all, length-map}
use Rattle.c_tree.specs.declared.tree.CType.{CType}
use Rattle.c_tree.specs.Tree as tree
use Rattle.c_tree.specs.Scope.{Scope}
use Rattle.c_tree.proofs.Tested.{at_front}

-- as many arguments as parameters
pub suit_many : (s : Scope) (types : List CType) (args : List tree.Arg) → length types ≢ length args → args_suit s types args ≡ false
suit_many s [] [] n = absurd (n refl)
suit_many s [] (a ∷ args) n = refl
suit_many s (t ∷ types) [] n = refl
suit_many s (t ∷ types) (a ∷ args) n = go (arg_suits s t a) (suit_many s types args (λ e. n (ap suc e)))
  where
    go : (b : Bool) → args_suit s types args ≡ false → (b && args_suit s types args) ≡ false
    go true e = e
    go false e = refl

module _ {T A : Type 0} (s : Scope) (type_in : T → CType) (arg_in : A → tree.Arg) (types : List T) (args : List A) where
  pub suit_never : length types ≢ length args → false ≡ args_suit s (map type_in types) (map arg_in args)
  suit_never n =
      let t : length (map type_in types) ≡ length types = simp length-map in
      let a : length (map arg_in args) ≡ length args = simp length-map in
      sym (suit_many s (map type_in types) (map arg_in args) (λ e. n (sym t ∙ e ∙ a)))

  module _ (i : ℕ) where
    pub suit_end : (whole : Bool) → length types ≡ length args → length args ≤ i
        → args_suit s (map type_in (drop i types)) (map arg_in (drop i args)) ≡ whole → true ≡ whole
    suit_end whole same past so_far =
        sym (ap (λ ts. args_suit s (map type_in ts) (map arg_in (drop i args))) (drop_all i types (omega arith))
        ∙ ap (λ ys. args_suit s [] (map arg_in ys)) (drop_all i args past)) ∙ so_far

    module _ (t : T) (a : A) (lt : i < length types) (is : t ≡ get_or types i t) (lt2 : i < length args) (is2 : a ≡ get_or args i a)
        (whole : Bool) where
      front : args_suit s (map type_in (drop i types)) (map arg_in (drop i args))
          ≡ (arg_suits s (type_in t) (arg_in a) && args_suit s (map type_in (drop (i + 1) types)) (map arg_in (drop (i + 1) args)))
      front = ap (λ ts. args_suit s (map type_in ts) (map arg_in (drop i args))) (at_front types i t lt is)
          ∙ ap (λ ys. args_suit s (map type_in (t ∷ drop (i + 1) types)) (map arg_in ys)) (at_front args i a lt2 is2)

      pub suit_more : arg_suits s (type_in t) (arg_in a) ≡ true
          → args_suit s (map type_in (drop i types)) (map arg_in (drop i args)) ≡ whole
          → args_suit s (map type_in (drop (i + 1) types)) (map arg_in (drop (i + 1) args)) ≡ whole
      suit_more suits so_far =
          sym (front ∙ ap (λ b. b && args_suit s (map type_in (drop (i + 1) types)) (map arg_in (drop (i + 1) args))) suits) ∙ so_far

      pub suit_stops : arg_suits s (type_in t) (arg_in a) ≡ false
          → args_suit s (map type_in (drop i types)) (map arg_in (drop i args)) ≡ whole → false ≡ whole
      suit_stops fails so_far =
          sym (front ∙ ap (λ b. b && args_suit s (map type_in (drop (i + 1) types)) (map arg_in (drop (i + 1) args))) fails) ∙ so_far
