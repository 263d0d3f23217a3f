-- Helpers that differ have places and names that differ, and a mark at a helper's place is that helper's.
use Rattle.c_helpers.proofs.Common.{◌≡◌, ℕ, ◌<◌, Bool, true, false, ◌||◌, List, length, get_or, Some, Option, bytes_eq, sym, refl, ap}
use Rattle.c_helpers.proofs.Common.{◌∙◌, arith, set, replicate, slice_get, inl, inr, or-false, get_or-set_other, get_or-set_same, helper_of}
use Rattle.c_helpers.proofs.Common.{Helper, HELPERS, marked, named_by}
use Rattle.std.proofs.Common.{leb-true}
use Rattle.std.proofs.lemmas.Bool.{cases_eq}
use Rattle.std.proofs.lemmas.Option.{slice_get_within}
use Rattle.std.proofs.lemmas.Slice.Eq.{bytes_eq-Decides}
use Rattle.wasm_tree.specs.declared.operators.LoadOp.TheVariants as load
use Rattle.wasm_tree.specs.declared.operators.StoreOp.TheVariants as store
use Rattle.c_helpers.specs.declared.operation.Helper.TheVariants as helper
use Rattle.c_helpers.specs.declared.operation.NumOp.TheVariants as op
use Rattle.c_helpers.specs.Numbers.{number_of, place}

listed : (w : Helper) → slice_get HELPERS (number_of w) ≡ Some w
listed (helper.Num op.I32DivS) = refl
listed (helper.Load load.I32Load) = refl
listed (helper.Store store.I32Store) = refl
listed _ = refl

below : (w : Helper) → number_of w < 64
below w = omega (arith, slice_get_within HELPERS (number_of w) w (listed w), leb-true (length HELPERS) 64 refl)

same_helper : (q w : Helper) → number_of q ≡ number_of w → q ≡ w
same_helper q w same =
    let e : ◌≡◌ {A = Option Helper} (Some q) (Some w) = sym (listed q) ∙ ap (λ (n : ℕ). slice_get HELPERS n) same ∙ listed w in
    cc

names_differ : (q w : Helper) → (number_of q ≡ number_of w → ⊥) → bytes_eq (helper_of q).name (helper_of w).name ≡ false
names_differ q w other = at (bytes_eq (helper_of q).name (helper_of w).name) refl
  where
    at : (b : Bool) → bytes_eq (helper_of q).name (helper_of w).name ≡ b → b ≡ false
    at true e =
        absurd (other (ap place ((bytes_eq-Decides (helper_of q).name (helper_of w).name).0 e)))
    at false e = refl

or_true : (b : Bool) → (b || true) ≡ true
or_true true = refl
or_true false = refl

pub marks_more : (old : List Bool) (n : ℕ) (w : Helper) → length old ≡ 64 → n ≡ number_of w → (q : Helper)
    → marked (set old n true) q ≡ (marked old q || named_by (helper_of q).name (Some w))
marks_more old n w long is q =
    elim (cases_eq (number_of q) (number_of w)) [
      | inl same ↦
          let name : bytes_eq (helper_of q).name (helper_of w).name ≡ true =
          (bytes_eq-Decides (helper_of q).name (helper_of w).name).1 (ap (λ (h : Helper). (helper_of h).name) (same_helper q w same)) in
          ap (λ (m : ℕ). get_or (set old m true) (number_of q) false) (is ∙ sym same)
          ∙ get_or-set_same old (number_of q) true false (omega (arith, long, below q))
          ∙ sym (ap (λ b. marked old q || b) name ∙ or_true (marked old q))
      | inr other ↦
          ap (λ (m : ℕ). get_or (set old m true) (number_of q) false) is
          ∙ get_or-set_other old (number_of w) (number_of q) true false other
          ∙ sym (ap (λ b. marked old q || b) (names_differ q w other) ∙ or-false (marked old q))
    ]

pub none_marked : (q : Helper) → marked (replicate 64 false) q ≡ false
none_marked (helper.Num op.I32DivS) = refl
none_marked (helper.Load load.I32Load) = refl
none_marked (helper.Store store.I32Store) = refl
none_marked _ = refl
