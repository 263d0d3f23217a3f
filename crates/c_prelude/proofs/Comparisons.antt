-- The helpers of signed comparisons.
use Rattle.c_prelude.proofs.Common.{◌≡◌, ℕ, ◌%◌, ◌^◌, Bool, true, false, List, if◌then◌else◌, Some, Option, refl, ap, ◌∙◌, arith, ValType}
use Rattle.c_prelude.proofs.Common.{I32, truth, Program, Pending, Progress, go_on, Frame, Machine, Number, give, number_helper}
use Rattle.c_prelude.proofs.Common.{DoesOperator, Compare}
use Rattle.w2c_base.specs.declared.value.ValType.TheVariants as type
use Rattle.wasm_tree.specs.declared.operators.CompareOp.TheVariants as comparison_op
use Rattle.c_helpers.specs.declared.operation.Form.TheVariants as form
use Rattle.c_prelude.proofs.Computed.{computed}
use Rattle.c_prelude.proofs.Numbers.{lt_s_32, lt_s_64, le_s_32, le_s_64}

-- the run when a u32 was given back
abbrev given : Program → Pending → Machine → List Frame → ℕ → Option Progress
given p pending m below n = Some (go_on p pending (give m (Some (Number (I32 n))) below))

-- a test of C as the value of a comparison
bit : (b c : Bool) → b ≡ c → (if b then 1 else 0) % 2 ^ 32 ≡ truth c
bit b c e = narrow b ∙ ap truth e
  where
    narrow : (b : Bool) → (if b then 1 else 0) % 2 ^ 32 ≡ truth b
    narrow true = refl
    narrow false = refl

pub lt_s_right : (t : ValType) → DoesOperator (number_helper (record { ty = t; form = form.LtS })) t (Compare comparison_op.LtS)
lt_s_right type.I32 m x y p q = computed 1 (omega arith) (λ program pending unit item below. ap (given program pending m below)
    (bit _ _ (lt_s_32 x y p q)))
lt_s_right type.I64 m x y p q = computed 1 (omega arith) (λ program pending unit item below. ap (given program pending m below)
    (bit _ _ (lt_s_64 x y p q)))

pub gt_s_right : (t : ValType) → DoesOperator (number_helper (record { ty = t; form = form.GtS })) t (Compare comparison_op.GtS)
gt_s_right type.I32 m x y p q = computed 1 (omega arith) (λ program pending unit item below. ap (given program pending m below)
    (bit _ _ (lt_s_32 y x q p)))
gt_s_right type.I64 m x y p q = computed 1 (omega arith) (λ program pending unit item below. ap (given program pending m below)
    (bit _ _ (lt_s_64 y x q p)))

pub le_s_right : (t : ValType) → DoesOperator (number_helper (record { ty = t; form = form.LeS })) t (Compare comparison_op.LeS)
le_s_right type.I32 m x y p q = computed 1 (omega arith) (λ program pending unit item below. ap (given program pending m below)
    (bit _ _ (le_s_32 x y p q)))
le_s_right type.I64 m x y p q = computed 1 (omega arith) (λ program pending unit item below. ap (given program pending m below)
    (bit _ _ (le_s_64 x y p q)))

pub ge_s_right : (t : ValType) → DoesOperator (number_helper (record { ty = t; form = form.GeS })) t (Compare comparison_op.GeS)
ge_s_right type.I32 m x y p q = computed 1 (omega arith) (λ program pending unit item below. ap (given program pending m below)
    (bit _ _ (le_s_32 y x q p)))
ge_s_right type.I64 m x y p q = computed 1 (omega arith) (λ program pending unit item below. ap (given program pending m below)
    (bit _ _ (le_s_64 y x q p)))
