-- The helpers of division and remainder.
use Rattle.c_prelude.proofs.Common.{ℕ, ◌-◌, ◌^◌, refl, inl, inr, arith, eqb_tells, bits, DivByZero, IntOverflow, ValType, Gives, Traps}
use Rattle.c_prelude.proofs.Common.{Machine, number_helper, DoesOperator, Binary}
use Rattle.w2c_base.specs.declared.value.ValType.TheVariants as type
use Rattle.wasm_tree.specs.declared.operators.BinaryOp.TheVariants as binary_op
use Rattle.c_helpers.specs.declared.operation.Form.TheVariants as form
use Rattle.c_prelude.proofs.Computed.{BeginsWith, computed_from}
use Rattle.c_prelude.proofs.Widths.{widths, at_operands, twice, half_pos, answers, sides}
use Rattle.c_prelude.proofs.Signs.{minus, minus_not_zero, quot_pp, quot_pn, quot_np, quot_nn, rem_pp, rem_pn, rem_np, rem_nn, div_s_zero}
use Rattle.c_prelude.proofs.Signs.{div_s_value, div_s_overflow, rem_s_zero, rem_s_value}

div_u_begins : (t : ValType) (m : Machine) (x y : ℕ) → BeginsWith form.DivU t m x y
div_u_begins type.I32 m x y p pending unit item below = refl
div_u_begins type.I64 m x y p pending unit item below = refl

pub div_u_right : (t : ValType) → DoesOperator (number_helper (record { ty = t; form = form.DivU })) t (Binary binary_op.DivU)
div_u_right t m x y p q =
    elim (eqb_tells y 0) [
      | inl z ↦ computed_from form.DivU t m x y 2 (omega arith) (div_u_begins t m x y)
          (λ program pending unit item below. simp (widths, at_operands program m unit t x y, z.0))
      | inr z ↦ computed_from form.DivU t m x y 2 (omega arith) (div_u_begins t m x y)
          (λ program pending unit item below. simp (widths, at_operands program m unit t x y, z.0))
    ]

rem_u_begins : (t : ValType) (m : Machine) (x y : ℕ) → BeginsWith form.RemU t m x y
rem_u_begins type.I32 m x y p pending unit item below = refl
rem_u_begins type.I64 m x y p pending unit item below = refl

pub rem_u_right : (t : ValType) → DoesOperator (number_helper (record { ty = t; form = form.RemU })) t (Binary binary_op.RemU)
rem_u_right t m x y p q =
    elim (eqb_tells y 0) [
      | inl z ↦ computed_from form.RemU t m x y 2 (omega arith) (rem_u_begins t m x y)
          (λ program pending unit item below. simp (widths, at_operands program m unit t x y, z.0))
      | inr z ↦ computed_from form.RemU t m x y 2 (omega arith) (rem_u_begins t m x y)
          (λ program pending unit item below. simp (widths, at_operands program m unit t x y, z.0))
    ]

div_s_begins : (t : ValType) (m : Machine) (x y : ℕ) → BeginsWith form.DivS t m x y
div_s_begins type.I32 m x y p pending unit item below = refl
div_s_begins type.I64 m x y p pending unit item below = refl

pub div_s_right : (t : ValType) → DoesOperator (number_helper (record { ty = t; form = form.DivS })) t (Binary binary_op.DivS)
div_s_right t m x y p q =
    let N = bits t in
    let d = twice t in
    let h = half_pos t in
    elim (eqb_tells y 0) [
      | inl z ↦ answers t (Traps DivByZero) _ (div_s_zero N d h x y z.1)
          (computed_from form.DivS t m x y 2 (omega arith) (div_s_begins t m x y)
          (λ program pending unit item below. simp (widths, at_operands program m unit t x y, z.0)))
      | inr z ↦ elim (sides (2 ^ (N - 1)) x) [
        | inl a ↦ elim (sides (2 ^ (N - 1)) y) [
          | inl b ↦ elim (eqb_tells y (2 ^ N - 1)) [
            | inl c ↦ elim (eqb_tells x (2 ^ (N - 1))) [
              | inl e ↦ answers t (Traps IntOverflow) _ (div_s_overflow N d h x y e.1 (omega arith))
                  (computed_from form.DivS t m x y 6 (omega arith) (div_s_begins t m x y)
                  (λ program pending unit item below. simp (widths, at_operands program m unit t x y, z.0, a.0, b.0, c.0, e.0)))
              | inr e ↦ answers t (Gives _) _ (div_s_value N d h x y _ z.1 (inl e.1) (quot_nn N d h x y a.2 p b.2 q))
                  (computed_from form.DivS t m x y 6 (omega arith) (div_s_begins t m x y)
                  (λ program pending unit item below. simp (
                    widths,
                    at_operands program m unit t x y,
                    z.0,
                    a.0,
                    b.0,
                    c.0,
                    e.0,
                    minus_not_zero N d h y b.2 q,
                  )))
            ]
            | inr c ↦ answers t (Gives _) _ (div_s_value N d h x y _ z.1 (inr (omega arith)) (quot_nn N d h x y a.2 p b.2 q))
                (computed_from form.DivS t m x y 5 (omega arith) (div_s_begins t m x y)
                (λ program pending unit item below. simp (
                  widths,
                  at_operands program m unit t x y,
                  z.0,
                  a.0,
                  b.0,
                  c.0,
                  minus_not_zero N
                      d h y b.2 q,
                )))
          ]
          | inr b ↦ answers t (Gives _) _ (div_s_value N d h x y _ z.1 (inr (omega arith)) (quot_np N d h x y a.2 p b.2 z.1))
              (computed_from form.DivS t m x y 4 (omega arith) (div_s_begins t m x y)
              (λ program pending unit item below. simp (widths, at_operands program m unit t x y, z.0, a.0, b.0)))
        ]
        | inr a ↦ elim (sides (2 ^ (N - 1)) y) [
          | inl b ↦ answers t (Gives _) _ (div_s_value N d h x y _ z.1 (inl (omega arith)) (quot_pn N d h x y a.2 b.2 q))
              (computed_from form.DivS t m x y 4 (omega arith) (div_s_begins t m x y)
              (λ program pending unit item below. simp (
                widths,
                at_operands program m unit t x y,
                z.0,
                a.0,
                b.0,
                minus_not_zero N d h y
                    b.2 q,
              )))
          | inr b ↦ answers t (Gives _) _ (div_s_value N d h x y _ z.1 (inl (omega arith)) (quot_pp N d h x y a.2 b.2 z.1))
              (computed_from form.DivS t m x y 4 (omega arith) (div_s_begins t m x y)
              (λ program pending unit item below. simp (widths, at_operands program m unit t x y, z.0, a.0, b.0)))
        ]
      ]
    ]

rem_s_begins : (t : ValType) (m : Machine) (x y : ℕ) → BeginsWith form.RemS t m x y
rem_s_begins type.I32 m x y p pending unit item below = refl
rem_s_begins type.I64 m x y p pending unit item below = refl

pub rem_s_right : (t : ValType) → DoesOperator (number_helper (record { ty = t; form = form.RemS })) t (Binary binary_op.RemS)
rem_s_right t m x y p q =
    let N = bits t in
    let d = twice t in
    let h = half_pos t in
    elim (eqb_tells y 0) [
      | inl z ↦ answers t (Traps DivByZero) _ (rem_s_zero N d h x y z.1)
          (computed_from form.RemS t m x y 2 (omega arith) (rem_s_begins t m x y)
          (λ program pending unit item below. simp (widths, at_operands program m unit t x y, z.0)))
      | inr z ↦ elim (sides (2 ^ (N - 1)) x) [
        | inl a ↦ elim (sides (2 ^ (N - 1)) y) [
          | inl b ↦ answers t (Gives _) _ (rem_s_value N d h x y _ z.1 (rem_nn N d h x y a.2 p b.2 q))
              (computed_from form.RemS t m x y 5 (omega arith) (rem_s_begins t m x y)
              (λ program pending unit item below. simp (
                widths,
                at_operands program m unit t x y,
                at_operands program m unit t x
                    (minus N y),
                z.0,
                a.0,
                b.1,
                minus_not_zero N d h y b.2 q,
              )))
          | inr b ↦ answers t (Gives _) _ (rem_s_value N d h x y _ z.1 (rem_np N d h x y a.2 p b.2 z.1))
              (computed_from form.RemS t m x y 4 (omega arith) (rem_s_begins t m x y)
              (λ program pending unit item below. simp (widths, at_operands program m unit t x y, z.0, a.0, b.1)))
        ]
        | inr a ↦ elim (sides (2 ^ (N - 1)) y) [
          | inl b ↦ answers t (Gives _) _ (rem_s_value N d h x y _ z.1 (rem_pn N d h x y a.2 b.2 q))
              (computed_from form.RemS t m x y 5 (omega arith) (rem_s_begins t m x y)
              (λ program pending unit item below. simp (
                widths,
                at_operands program m unit t x y,
                at_operands program m unit t x
                    (minus N y),
                z.0,
                a.0,
                b.1,
                minus_not_zero N d h y b.2 q,
              )))
          | inr b ↦ answers t (Gives _) _ (rem_s_value N d h x y _ z.1 (rem_pp N d h x y a.2 b.2 z.1))
              (computed_from form.RemS t m x y 4 (omega arith) (rem_s_begins t m x y)
              (λ program pending unit item below. simp (widths, at_operands program m unit t x y, z.0, a.0, b.1)))
        ]
      ]
    ]
