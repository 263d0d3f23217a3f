-- Lists without two equal items, from the end on.
use Rattle.c_rules.proofs.Common.{◌≡◌, ℕ, zero, suc, ◌+◌, Bool, true, false, not, ◌&&◌, ◌||◌, List, [], ◌∷◌, drop, is_some, if◌then◌else◌}
use Rattle.c_rules.proofs.Common.{slice_get, Some, None, Option, bytes_eq, sym, refl, ap, ◌∙◌, list_any, named, bytes_eq-sym, are_distinct}
use Rattle.std.specs.Option.{option_or}
use Rattle.w2c_base.proofs.Places.{drop_front}

-- where the end is not distinct, the whole is not
pub distinct_end : (names : List (List ℕ)) (j : ℕ) → are_distinct (drop j names) ≡ false → are_distinct names ≡ false
distinct_end [] zero e = e
distinct_end [] (suc j) e = e
distinct_end (n ∷ names) zero e = e
distinct_end (n ∷ names) (suc j) e = go (list_any (bytes_eq n) names) (distinct_end names j e)
  where
    go : (b : Bool) → are_distinct names ≡ false → (not b && are_distinct names) ≡ false
    go true h = refl
    go false h = h

module _ (names : List (List ℕ)) (i j : ℕ) (n : List ℕ) (at : slice_get names j ≡ Some n) (next : i ≡ j + 1) where
  front : drop j names ≡ n ∷ drop i names
  front = drop_front names j n at ∙ ap (λ k. n ∷ drop k names) (sym next)

  pub distinct_more : false ≡ list_any (bytes_eq n) (drop i names) → are_distinct (drop i names) ≡ true → are_distinct (drop j names) ≡ true
  distinct_more fresh so_far = ap are_distinct front ∙ ap (λ b. not b && are_distinct (drop i names)) (sym fresh) ∙ so_far

  pub distinct_stops : true ≡ list_any (bytes_eq n) (drop i names) → false ≡ are_distinct names
  distinct_stops twice = sym (distinct_end names j (ap are_distinct front ∙ ap (λ b. not b && are_distinct (drop i names)) (sym twice)))

  pub knows_before : {C : Type 0} (before after : List (List ℕ × C)) (of : C)
      → ((q : List ℕ) → named q after ≡ option_or (named q before) (if bytes_eq n q then Some of else None))
      → ((q : List ℕ) → is_some (named q before) ≡ list_any (bytes_eq q) (drop i names))
      → (q : List ℕ) → is_some (named q after) ≡ list_any (bytes_eq q) (drop j names)
  knows_before {C} before after of grown so_far q =
      ap is_some (grown q) ∙ at_end (named q before) (bytes_eq n q) ∙ ap (λ b. bytes_eq n q || b) (so_far q)
      ∙ ap (λ b. b || list_any (bytes_eq q) (drop i names)) (bytes_eq-sym n q)
      ∙ sym (ap (list_any (bytes_eq q)) front)
    where
      at_end : (o : Option C) (b : Bool) → is_some (option_or o (if b then Some of else None)) ≡ (b || is_some o)
      at_end None true = refl
      at_end None false = refl
      at_end (Some y) true = refl
      at_end (Some y) false = refl
