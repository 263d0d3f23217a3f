-- Numbers without two equal ones, from the end on.
use Rattle.c_check.proofs.Common.{◌≡◌, ℕ, zero, suc, ◌+◌, Bool, true, false, cond, not, ◌&&◌, ◌||◌, List, [], ◌∷◌, drop, ◌==◌, slice_get}
use Rattle.c_check.proofs.Common.{Some, nat_cmp, is_eq, BTreeSet, sym, refl, ap, ◌∙◌, is_at, contains, list_any, are_distinct_numbers}
use Rattle.std.specs.Cmp.{unsigned_tied}
use Rattle.w2c_base.proofs.Places.{drop_front}

-- where the end is not distinct, the whole is not
pub distinct_end : (numbers : List ℕ) (j : ℕ) → are_distinct_numbers (drop j numbers) ≡ false → are_distinct_numbers numbers ≡ false
distinct_end [] zero e = e
distinct_end [] (suc j) e = e
distinct_end (n ∷ numbers) zero e = e
distinct_end (n ∷ numbers) (suc j) e = go (list_any (λ m. m == n) numbers) (distinct_end numbers j e)
  where
    go : (b : Bool) → are_distinct_numbers numbers ≡ false → (not b && are_distinct_numbers numbers) ≡ false
    go true h = refl
    go false h = h

-- a set that has the numbers from the i-th on, before the number in front of them comes
module _ (numbers : List ℕ) (i j : ℕ) (n : ℕ) (at : slice_get numbers j ≡ Some n) (next : i ≡ j + 1) (set : BTreeSet ℕ)
    (known : (m : ℕ) → contains nat_cmp set m ≡ list_any (λ k. k == m) (drop i numbers)) where
  front : drop j numbers ≡ n ∷ drop i numbers
  front = drop_front numbers j n at ∙ ap (λ k. n ∷ drop k numbers) (sym next)

  pub distinct_more : false ≡ contains nat_cmp set n → are_distinct_numbers (drop i numbers) ≡ true
      → are_distinct_numbers (drop j numbers) ≡ true
  distinct_more fresh so_far =
      ap are_distinct_numbers front ∙ ap (λ b. not b && are_distinct_numbers (drop i numbers)) (sym (fresh ∙ known n)) ∙ so_far

  pub distinct_stops : true ≡ contains nat_cmp set n → false ≡ are_distinct_numbers numbers
  distinct_stops twice =
      sym (distinct_end numbers j (ap are_distinct_numbers front
      ∙ ap (λ b. not b && are_distinct_numbers (drop i numbers)) (sym (twice ∙ known n))))

  with_number : (b c : Bool) → cond b true c ≡ (b || c)
  with_number true c = refl
  with_number false c = refl

  pub knows_before : (after : BTreeSet ℕ) → ((m : ℕ) → contains nat_cmp after m ≡ cond (is_at (nat_cmp n) m) true (contains nat_cmp set m))
      → (m : ℕ) → contains nat_cmp after m ≡ list_any (λ k. k == m) (drop j numbers)
  knows_before after grown m =
      grown m ∙ with_number (is_eq (nat_cmp n m)) (contains nat_cmp set m)
      ∙ ap (λ b. b || contains nat_cmp set m) (unsigned_tied n m)
      ∙ ap (λ b. (n == m) || b) (known m)
      ∙ sym (ap (list_any (λ k. k == m)) front)
