-- The helper of a table's elements.
use Rattle.c_prelude.proofs.Common.{◌≡◌, ℕ, zero, suc, ◌<◌, ◌≤◌, true, false, ◌≢◌, ◌⊎◌, List, [], ◌∷◌, length, nat_eq, nat_le, slice_get}
use Rattle.c_prelude.proofs.Common.{Some, None, Option, refl, inl, inr, arith, eqb_tells, nat_tests, on_table, Element, Pointer}
use Rattle.c_prelude.proofs.Common.{CallComesTo, element_helper, DoesElement, element_found, number}
use Rattle.w2c_base.specs.declared.value.ValType.TheVariants as type
use Rattle.c_prelude.proofs.Computed.{computed}

-- the place i of a list
place : {A : Type 0} (xs : List A) (i : ℕ) → ((slice_get xs i ≡ None) × (length xs ≤ i))
    ⊎ ((x : A) × (slice_get xs i ≡ Some x) × (i < length xs))
place [] i = inl (refl, omega arith)
place (x ∷ xs) zero = inr (x, refl, omega arith)
place (x ∷ xs) (suc i) = elim (place xs i) [ inl h ↦ inl (h.0, omega arith) | inr h ↦ inr (h.0, h.1, omega arith) ]

at_end : (n i : ℕ) → n ≤ i → nat_le n i ≡ true
at_end n i h = grind (arith, nat_tests)

inside : (n i : ℕ) → i < n → nat_le n i ≡ false
inside n i h = grind (arith, nat_tests)

some_signature : (s : ℕ) → s ≢ 0 → nat_eq s 0 ≡ false
some_signature s h = grind (arith, nat_tests)

pub element_right : DoesElement element_helper
element_right m a table is signed i s =
    elim (place table.elements i) [
      | inl h ↦ computed 4 (omega arith) (λ p pending unit item below. simp (on_table, is, h.0, at_end (length table.elements) i h.1))
      | inr h ↦ at_element h.0 h.1 h.2
    ]
  where
    at_element : (e : Option Element) → slice_get table.elements i ≡ Some e → i < length table.elements
        → CallComesTo 100 element_helper (Pointer (Some a) ∷ number type.I32 i ∷ number type.I64 s ∷ []) m
        (element_found m (slice_get table.elements i) s)
    at_element None e b = computed 6 (omega arith) (λ p pending unit item below. simp (on_table, is, e, inside (length table.elements) i b))
    at_element (Some f) e b =
        let n : nat_eq f.signature 0 ≡ false = some_signature f.signature (signed i f e) in
        elim (eqb_tells f.signature s) [
          | inl g ↦ computed 8 (omega arith) (λ p pending unit item below. simp
              (on_table, is, e, inside (length table.elements) i b, n, g.0))
          | inr g ↦ computed 7 (omega arith) (λ p pending unit item below. simp
              (on_table, is, e, inside (length table.elements) i b, n, g.0))
        ]
