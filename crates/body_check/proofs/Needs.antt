-- The needs of an instruction, met and unmet; and instructions that go by their row.
use Rattle.wasm_typing.specs.declared.fault.ValidCause.TheVariants as cause
use Rattle.body_check.proofs.Common.{◌≡◌, ℕ, ◌^◌, ◌<◌, ◌≤◌, Bool, true, false, not, List, [], ◌∷◌, is_some, is_none, nat_le, slice_get}
use Rattle.body_check.proofs.Common.{Some, None, Option, Result, sym, refl, ap, ◌∙◌, arith, pow_mono, lt-leb, kind_tree, RustKind, cause_of}
use Rattle.body_check.proofs.Common.{first_cause, misaligned, Operands, has_memory, step, when, Context, Labels, row_cause, row_step, unmet}
use Rattle.body_check.proofs.Common.{where_met, Plain, Access, Stop}
use Rattle.wasm_tree.specs.declared.operators.Kind.TheVariants as kind

-- no width of 32 bits is as large
pub too_large : (exponent width : ℕ) → 32 ≤ exponent → width < 2 ^ 32 → nat_le (2 ^ exponent) width ≡ false
too_large exponent width many small = lt-leb (2 ^ exponent) width (omega (arith, small, pow_mono many))

pub not_none : {A : Type 0} (o : Option A) → is_some o ≡ true → is_none o ≡ false
not_none None e = cc
not_none (Some a) e = refl

when_true : (b : Bool) (r : Option Operands) → b ≡ true → when b r ≡ r
when_true b r e = ap (λ t. when t r) e

pub aligned_met : (c : Context) (align width : ℕ) → has_memory c ≡ true → nat_le (2 ^ align) width ≡ true
    → ((r : Option Operands) → where_met c (Access align width) r ≡ r) × (first_cause (unmet c (Access align width)) ≡ cause.TypeMismatch)
aligned_met c align width there fits = (
  λ r. when_true (has_memory c) (when (nat_le (2 ^ align) width) r) there ∙ when_true (nat_le (2 ^ align) width) r fits,
  ap (λ b. first_cause ((b, cause.UnknownMemory) ∷ misaligned align width ∷ [])) (not_none (slice_get c.memories 0) there)
      ∙ ap (λ b. first_cause ((not b, cause.Alignment) ∷ [])) fits,
)

pub misaligned_unmet : (c : Context) (align width : ℕ) → has_memory c ≡ true → nat_le (2 ^ align) width ≡ false
    → ((r : Option Operands) → where_met c (Access align width) r ≡ None) × (cause.Alignment ≡ first_cause (unmet c (Access align width)))
misaligned_unmet c align width there fits = (
  λ r. when_true (has_memory c) (when (nat_le (2 ^ align) width) r) there ∙ ap (λ t. when t r) fits,
  sym
      (ap (λ b. first_cause ((b, cause.UnknownMemory) ∷ misaligned align width ∷ [])) (not_none (slice_get c.memories 0) there)
      ∙ ap (λ b. first_cause ((not b, cause.Alignment) ∷ [])) fits),
)

-- an instruction that is none of those with a rule of their own
pub plain_by_row : (c : Context) (labels : Labels) (k : RustKind) (result : Result Unit Stop) (s new : Operands)
    → (k ≡ kind.Unreachable → ⊥) → ((i : ℕ) → k ≡ kind.Br i → ⊥) → ((i : ℕ) → k ≡ kind.BrIf i → ⊥)
    → ((is : List ℕ) (i : ℕ) → k ≡ kind.BrTable is i → ⊥) → (k ≡ kind.Return → ⊥) → ((i : ℕ) → k ≡ kind.Call i → ⊥)
    → ((i : ℕ) → k ≡ kind.CallIndirect i → ⊥) → (k ≡ kind.Drop → ⊥) → (k ≡ kind.Select → ⊥) → ((i : ℕ) → k ≡ kind.LocalGet i → ⊥)
    → ((i : ℕ) → k ≡ kind.LocalSet i → ⊥) → ((i : ℕ) → k ≡ kind.LocalTee i → ⊥) → ((i : ℕ) → k ≡ kind.GlobalGet i → ⊥)
    → ((i : ℕ) → k ≡ kind.GlobalSet i → ⊥)
    → Plain result (row_step c (kind_tree k) s) (row_cause c (kind_tree k)) new
    → Plain result (step c labels (kind_tree k) s) (cause_of c labels (kind_tree k)) new
plain_by_row c labels kind.Unreachable result s new a _ _ _ _ _ _ _ _ _ _ _ _ _ p = absurd (a refl)
plain_by_row c labels (kind.Br i) result s new _ a _ _ _ _ _ _ _ _ _ _ _ _ p = absurd (a i refl)
plain_by_row c labels (kind.BrIf i) result s new _ _ a _ _ _ _ _ _ _ _ _ _ _ p = absurd (a i refl)
plain_by_row c labels (kind.BrTable is i) result s new _ _ _ a _ _ _ _ _ _ _ _ _ _ p = absurd (a is i refl)
plain_by_row c labels kind.Return result s new _ _ _ _ a _ _ _ _ _ _ _ _ _ p = absurd (a refl)
plain_by_row c labels (kind.Call i) result s new _ _ _ _ _ a _ _ _ _ _ _ _ _ p = absurd (a i refl)
plain_by_row c labels (kind.CallIndirect i) result s new _ _ _ _ _ _ a _ _ _ _ _ _ _ p = absurd (a i refl)
plain_by_row c labels kind.Drop result s new _ _ _ _ _ _ _ a _ _ _ _ _ _ p = absurd (a refl)
plain_by_row c labels kind.Select result s new _ _ _ _ _ _ _ _ a _ _ _ _ _ p = absurd (a refl)
plain_by_row c labels (kind.LocalGet i) result s new _ _ _ _ _ _ _ _ _ a _ _ _ _ p = absurd (a i refl)
plain_by_row c labels (kind.LocalSet i) result s new _ _ _ _ _ _ _ _ _ _ a _ _ _ p = absurd (a i refl)
plain_by_row c labels (kind.LocalTee i) result s new _ _ _ _ _ _ _ _ _ _ _ a _ _ p = absurd (a i refl)
plain_by_row c labels (kind.GlobalGet i) result s new _ _ _ _ _ _ _ _ _ _ _ _ a _ p = absurd (a i refl)
plain_by_row c labels (kind.GlobalSet i) result s new _ _ _ _ _ _ _ _ _ _ _ _ _ a p = absurd (a i refl)
plain_by_row c labels k result s new _ _ _ _ _ _ _ _ _ _ _ _ _ _ p = p
