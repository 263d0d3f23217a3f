-- A list that is gone through, at the element with a number.
use Rattle.crun_job.proofs.Common.{◌≡◌, ℕ, suc, ◌+◌, ◌<◌, List, [], ◌∷◌, ◌++◌, length, get_or, take, drop, sym, ap, ◌∙◌, arith}
use Rattle.crun_job.proofs.Common.{take-append-drop, length-take-le, drop-cons, take_more}

module _ {X : Type 0} (xs : List X) (i : ℕ) (x : X) (less : i < length xs) (is : x ≡ get_or xs i x) where
  -- the elements in front of it, it, and those behind it
  pub split_at : xs ≡ take i xs ++ x ∷ drop (suc i) xs
  split_at =
      sym (take-append-drop i xs)
      ∙ ap (λ l. take i xs ++ l) (drop-cons xs i x less ∙ ap (λ y. y ∷ drop (suc i) xs) (sym is))

  -- one more
  pub take_next : take (i + 1) xs ≡ take i xs ++ x ∷ []
  take_next = take_more xs i x less ∙ ap (λ y. take i xs ++ y ∷ []) (sym is)

  -- so many are in front of it
  pub in_front : i ≡ length (take i xs)
  in_front = sym (length-take-le i xs (omega arith))
