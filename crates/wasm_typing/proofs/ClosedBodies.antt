-- The closed cases of typing and of first faults.
use Rattle.std.proofs.Common.{ℕ, zero, suc, ◌≤◌, [], ◌∷◌, pos, Some, None, refl, arith}
use Rattle.w2c_base.specs.declared.value.ValType.TheVariants.{I32}
use Rattle.wasm_tree.specs.Instructions.{Binary, Block, Br, Code, Drop, I32Const, If, Load, no_else}
use Rattle.wasm_tree.specs.declared.operators.BinaryOp.TheVariants.{Add}
use Rattle.wasm_tree.specs.declared.operators.LoadOp.TheVariants.{I32Load}
use Rattle.wasm_typing.specs.BodyFault.{FirstBodyFault}
use Rattle.wasm_typing.specs.Completion.{closing, completed}
use Rattle.wasm_typing.specs.Typing.{BodyHasType, HasType, Stack}
use Rattle.wasm_typing.specs.declared.fault.ValidCause.TheVariants as cause
use Rattle.wasm_typing.specs.Samples.{code_from, context, body, two_functions}
use Rattle.wasm_typing.specs.Verdict.{IsValid}

-- the code that closes a block has every type, in every context
closes : (old new : Stack) → HasType (context [] None) [] closing old new
closes old new = (new, (old, refl), refl)

abbrev dead : Code
dead = code_from 0 (Block None (code_from 2 (Br 0 ∷ Binary I32 Add ∷ Drop ∷ [])) 6 ∷ [])

pub dead_code : BodyHasType (context [] None) dead
dead_code = (
  [],
  ((I32 ∷ I32 ∷ [], (None, refl, ([], refl)), (I32 ∷ [], ([], refl, refl), ([], (I32, ([], refl, refl)), refl))), ([], refl, refl)),
  refl,
)

abbrev one_sided : Code
one_sided = code_from 33 (I32Const (pos 1) ∷ If (Some I32) (code_from 36 (I32Const (pos 5) ∷ [])) no_else 37 ∷ [])

one_sided_before : (j : ℕ) → j ≤ 3 → BodyHasType (context [] (Some I32)) (completed j one_sided)
one_sided_before zero le = closes [] (I32 ∷ [])
one_sided_before (suc zero) le = (I32 ∷ [], ([], refl, refl), closes (I32 ∷ []) (I32 ∷ []))
one_sided_before (suc (suc zero)) le =
    (I32 ∷ [], ([], refl, refl), (I32 ∷ [], (closes [] (I32 ∷ []), closes [] (I32 ∷ []), ([], refl, refl)), closes (I32 ∷ []) (I32 ∷ [])))
one_sided_before (suc (suc (suc zero))) le = (
  I32 ∷ [],
  ([], refl, refl),
  (
    I32 ∷ [],
    ((I32 ∷ [], ([], refl, refl), closes (I32 ∷ []) (I32 ∷ [])), closes [] (I32 ∷ []), ([], refl, refl)),
    closes (I32 ∷ []) (I32 ∷ []),
  ),
)
one_sided_before (suc (suc (suc (suc j)))) le = absurd (omega (arith, le))

one_sided_faulty : BodyHasType (context [] (Some I32)) (completed 4 one_sided) → ⊥
one_sided_faulty h = let no_result = h.2.1.1 in cc

pub if_without_else : FirstBodyFault (context [] (Some I32)) (body one_sided 38) (record { place = 37; cause = cause.TypeMismatch })
if_without_else = record { k = 3; token = refl; before = one_sided_before; faulty = one_sided_faulty }

abbrev two : Code
two = code_from 31 (I32Const (pos 40) ∷ I32Const (pos 2) ∷ [])

two_before : (j : ℕ) → j ≤ 2 → BodyHasType (context [] (Some I32)) (completed j two)
two_before zero le = closes [] (I32 ∷ [])
two_before (suc zero) le = (I32 ∷ [], ([], refl, refl), closes (I32 ∷ []) (I32 ∷ []))
two_before (suc (suc zero)) le =
    (I32 ∷ [], ([], refl, refl), (I32 ∷ I32 ∷ [], (I32 ∷ [], refl, refl), closes (I32 ∷ I32 ∷ []) (I32 ∷ [])))
two_before (suc (suc (suc j))) le = absurd (omega (arith, le))

two_faulty : BodyHasType (context [] (Some I32)) (completed 3 two) → ⊥
two_faulty h = let a = h.1.2 in let b = h.2.1.1 in let d = h.2.1.2 in let e = h.2.2 in cc

pub two_results : FirstBodyFault (context [] (Some I32)) (body two 33) (record { place = 33; cause = cause.TypeMismatch })
two_results = record { k = 2; token = refl; before = two_before; faulty = two_faulty }

abbrev unaligned : Code
unaligned = code_from 0 (I32Const (pos 0) ∷ Load I32Load (record { align = 3; offset = 0 }) ∷ [])

unaligned_before : (j : ℕ) → j ≤ 1 → BodyHasType (context [] (Some I32)) (completed j unaligned)
unaligned_before zero le = closes [] (I32 ∷ [])
unaligned_before (suc zero) le = (I32 ∷ [], ([], refl, refl), closes (I32 ∷ []) (I32 ∷ []))
unaligned_before (suc (suc j)) le = absurd (omega (arith, le))

unaligned_faulty : BodyHasType (context [] (Some I32)) (completed 2 unaligned) → ⊥
unaligned_faulty h = omega (arith, h.2.1.1)

pub alignment : FirstBodyFault (context [] (Some I32)) (body unaligned 2) (record { place = 1; cause = cause.Alignment })
alignment = record { k = 1; token = refl; before = unaligned_before; faulty = unaligned_faulty }

pub second_body : IsValid (two_functions (body (code_from 24 (I32Const (pos 1) ∷ [])) 26) (body (code_from 29 []) 29)) → ⊥
second_body valid = let no_result = valid.bodies.1.0 in cc
