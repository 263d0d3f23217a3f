-- The step of an instruction that has an operator, or of none.
use Rattle.c_helpers.proofs.Common.{◌≡◌, ℤ, refl, kind_tree, operator_step, step_of}
use Rattle.wasm_tree.specs.declared.operators.Kind.{Kind as RustKind}
use Rattle.wasm_tree.specs.declared.operators.Kind.TheVariants as kind
use Rattle.wasm_tree.specs.Parts.{parts_of}

-- the step of an instruction that has an operator, or of none
pub by_operator : (k : RustKind) → ((z : ℤ) → k ≡ kind.I32Const z → ⊥) → ((z : ℤ) → k ≡ kind.I64Const z → ⊥)
    → (k ≡ kind.MemorySize → ⊥) → (k ≡ kind.MemoryGrow → ⊥) → (k ≡ kind.MemoryCopy → ⊥) → (k ≡ kind.MemoryFill → ⊥)
    → operator_step (parts_of (kind_tree k)) ≡ step_of (kind_tree k)
by_operator (kind.I32Const z) a _ _ _ _ _ = absurd (a z refl)
by_operator (kind.I64Const z) _ a _ _ _ _ = absurd (a z refl)
by_operator kind.MemorySize _ _ a _ _ _ = absurd (a refl)
by_operator kind.MemoryGrow _ _ _ a _ _ = absurd (a refl)
by_operator kind.MemoryCopy _ _ _ _ a _ = absurd (a refl)
by_operator kind.MemoryFill _ _ _ _ _ a = absurd (a refl)
by_operator _ _ _ _ _ _ _ = refl
