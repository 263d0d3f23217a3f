-- Words that are written for items, one for each.
use Rattle.journal_lines.proofs.Common.{◌≡◌, ℕ, zero, suc, ◌+◌, ◌<◌, List, [], ◌∷◌, ◌++◌, map, length, take, IfNone, slice_get}
use Rattle.journal_lines.proofs.Common.{slice_index_or, Some, None, Option, sym, refl, ap, ◌∙◌, subst, arith, Bor, map_push, AllByRecursion}
use Rattle.journal_lines.proofs.Common.{texts}
use Rattle.w2c_base.proofs.Places.{take_next}

pub text_in : (names : List (Bor (List ℕ))) (k : ℕ) (other : Bor (List ℕ)) → k < length names
    → slice_get (texts names) k ≡ Some (slice_index_or names k other).now
text_in [] k other within = absurd (omega arith)
text_in (n ∷ names) zero other within = refl
text_in (n ∷ names) (suc k) other within = text_in names k other (omega arith)

pub at_none : {A P : Type 0} (found : Option A) → found ≡ None → IfNone found P → P
at_none None is h = h
at_none (Some x) is h = absurd cc

module _ {A : Type 0} where
  pub all_more : (P : A → Type 0) (xs new : List A) (x : A) → AllByRecursion P xs → P x → new ≡ xs ++ x ∷ [] → AllByRecursion P new
  all_more P xs new x are is same = subst (AllByRecursion P) (sym same) (by_recursion xs are)
    where
      by_recursion : (xs : List A) → AllByRecursion P xs → AllByRecursion P (xs ++ x ∷ [])
      by_recursion [] are = (is, tt)
      by_recursion (y ∷ ys) are = (are.0, by_recursion ys are.1)

module _ {A : Type 0} (f : A → List ℕ) where
  -- one more item
  pub one_more : (words : List (List ℕ)) (k : ℕ) (word : List ℕ) (xs new : List A) (x : A) → slice_get words k ≡ Some word
      → map f xs ≡ take k words → f x ≡ word → new ≡ xs ++ x ∷ [] → map f new ≡ take (k + 1) words
  one_more words k word xs new x at so_far is pushed =
      ap (map f) pushed ∙ map_push f xs x ∙ (λ i. so_far i ++ is i ∷ []) ∙ sym (take_next words k word at)

  -- a word that no item has
  pub not_written : (P : A → Type 0) (words : List (List ℕ)) (k : ℕ) (word : List ℕ) → slice_get words k ≡ Some word
      → ((x : A) → P x → f x ≡ word → ⊥) → (xs : List A) → AllByRecursion P xs → map f xs ≡ words → ⊥
  not_written P words k word at none [] are is =
      (let none_there : slice_get {X = List ℕ} [] k ≡ Some word = subst (λ l. slice_get l k ≡ Some word) (sym is) at in cc)
  not_written P [] k word at none (x ∷ xs) are is = cc
  not_written P (w ∷ words) zero word at none (x ∷ xs) are is =
      let first : f x ≡ w = cc in let same : w ≡ word = cc in none x are.0 (first ∙ same)
  not_written P (w ∷ words) (suc k) word at none (x ∷ xs) are is =
      let rest : map f xs ≡ words = cc in not_written P words k word at none xs are.1 rest
