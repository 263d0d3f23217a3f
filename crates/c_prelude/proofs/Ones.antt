-- The helper that counts ones.
use Rattle.c_prelude.proofs.Common.{◌≡◌, ℕ, zero, suc, ◌-◌, ◌*◌, ◌/◌, ◌%◌, ◌^◌, ◌<◌, ◌≤◌, true, List, [], ◌∷◌, nat_lt, Some, codes, Option}
use Rattle.c_prelude.proofs.Common.{refl, ap, ◌∙◌, mod-eq_of_lt, arith, ones, pow_below, bits, value, ValType, step_on, walk, Program}
use Rattle.c_prelude.proofs.Common.{Going, Progress, Number, c_type_of, number_helper, DoesOperator, num, Unary}
use Rattle.w2c_base.specs.declared.value.ValType.TheVariants as type
use Rattle.w2c_base.proofs.Numbers.{below_is_found}
use Rattle.wasm_tree.specs.declared.operators.UnaryOp.TheVariants as unary_op
use Rattle.c_tree.specs.declared.tree.COp.TheVariants as op
use Rattle.c_tree.specs.Tree as tree
use Rattle.c_helpers.specs.declared.operation.Form.TheVariants as form
use Rattle.c_prelude.proofs.Computed.{computed}
use Rattle.c_prelude.proofs.Widths.{widths, evaluate-num, seen}
use Rattle.c_prelude.proofs.Zeros.{Call, called, gives, steps_of, whole_width}
use Rattle.c_prelude.proofs.Blocks.{low_halves, summed, sums, sums-below, gathered_32, gathered_64}

abbrev x : tree.Expr
x = tree.Name (codes "x")

-- each block of 2 ^ (i + 1) bits gets the sum of its halves
abbrev sum_stage : ValType → ℕ → tree.Stmt
sum_stage t i =
    tree.Set (codes "x") (tree.Value (tree.Op op.Add
    (tree.Op op.And x (num t (low_halves i (steps_of t))))
    (tree.Op op.And (tree.Op op.Shr x (num t (2 ^ i))) (num t (low_halves i (steps_of t))))))

-- the stages from 0 to i - 1
abbrev sum_stages : ValType → ℕ → List tree.Stmt → List tree.Stmt
sum_stages t zero rest = rest
sum_stages t (suc i) rest = sum_stages t i (sum_stage t i ∷ rest)

abbrev at : ValType → Call → List tree.Stmt → ℕ → Progress
at t call rest a = Going call.pending (record {
  machine = call.machine;
  running = record {
    unit = call.unit;
    item = call.item;
    result = c_type_of t;
    stmts = call.stmts;
    rest = rest;
    vars = (codes "x", Number (value t a)) ∷ [];
  };
  below = call.below;
})

walk-suc : (p : Program) (n : ℕ) (from : Option Progress) → walk p (suc n) from ≡ step_on p (walk p n from)
walk-suc p zero from = refl
walk-suc p (suc n) from = walk-suc p n (step_on p from)

shift_test : (t : ValType) (i : ℕ) → i < steps_of t → nat_lt (2 ^ i) (bits t) ≡ true
shift_test t i l = let p : 2 ^ i < 2 ^ steps_of t = pow_below i (steps_of t) l in rw (whole_width t) at
    (below_is_found (2 ^ i) (2 ^ steps_of t) p)

stage_step : (t : ValType) (call : Call) (rest : List tree.Stmt) (i a : ℕ) → i < steps_of t
    → summed (2 ^ i) (low_halves i (steps_of t)) a < 2 ^ bits t
    → step_on call.program (Some (at t call (sum_stage t i ∷ rest) a)) ≡ Some
    (at t call rest (summed (2 ^ i) (low_halves i (steps_of t)) a))
stage_step t call rest i a l h =
    simp (
      widths,
      evaluate-num call.program call.machine (seen call.unit ((codes "x", Number (value t a)) ∷ [])) t,
      shift_test t i l,
      mod-eq_of_lt h,
    )

stages_run : (t : ValType) (call : Call) (rest : List tree.Stmt) (i a : ℕ) → i ≤ steps_of t → a < 2 ^ bits t
    → walk call.program i (Some (at t call (sum_stages t i rest) a)) ≡ Some (at t call rest (sums i (steps_of t) a))
stages_run t call rest zero a l h = refl
stages_run t call rest (suc i) a l h =
    let b : sums (suc i) (steps_of t) a < 2 ^ bits t = rw whole_width at (sums-below (suc i) (steps_of t) a l (rw whole_width h)) in
    walk-suc call.program i (Some (at t call (sum_stages t (suc i) rest) a))
    ∙ (ap (step_on call.program) (stages_run t call (sum_stage t i ∷ rest) i a (omega arith) h)
    ∙ stage_step t call rest i (sums i (steps_of t) a) l b)

-- the lowest bit of each byte, and of the highest byte
abbrev each_byte : ValType → ℕ
each_byte t = (2 ^ bits t - 1) / 255

abbrev high_byte : ValType → ℕ
high_byte t = 2 ^ (bits t - 8)

-- the last statement
abbrev sum_end : ValType → List tree.Stmt
sum_end t = tree.Return (tree.Value (tree.Op op.Div (tree.Op op.Mul x (num t (each_byte t))) (num t (high_byte t)))) ∷ []

returns : (t : ValType) (call : Call) (a : ℕ)
    → step_on call.program (Some (at t call (sum_end t) a)) ≡ Some (gives t call (a * each_byte t % 2 ^ bits t / high_byte t))
returns type.I32 call a = refl
returns type.I64 call a = refl

gathered : (t : ValType) (a : ℕ) → a < 2 ^ bits t → sums 3 (steps_of t) a * each_byte t % 2 ^ bits t / high_byte t ≡ ones a
gathered type.I32 a h = gathered_32 a h
gathered type.I64 a h = gathered_64 a h

three_stages : (t : ValType) → 3 ≤ steps_of t
three_stages type.I32 = omega arith
three_stages type.I64 = omega arith

-- three stages and the last statement
ones_run : (t : ValType) (call : Call) (a : ℕ) → a < 2 ^ bits t
    → walk call.program 4 (Some (at t call (sum_stages t 3 (sum_end t)) a)) ≡ Some (gives t call (ones a))
ones_run t call a h =
    walk-suc call.program 3 (Some (at t call (sum_stages t 3 (sum_end t)) a))
    ∙ (ap (step_on call.program) (stages_run t call (sum_end t) 3 a (three_stages t) h)
    ∙ (returns t call (sums 3 (steps_of t) a) ∙ ap (λ n. Some (gives t call n)) (gathered t a h)))

pub popcnt_right : (t : ValType) → DoesOperator (number_helper (record { ty = t; form = form.Popcnt })) t (Unary unary_op.Popcnt)
popcnt_right type.I32 m x p = computed 4 (omega arith) (λ program pending unit item below. ones_run type.I32
    (called form.Popcnt type.I32 program pending m unit item below) x p)
popcnt_right type.I64 m x p = computed 4 (omega arith) (λ program pending unit item below. ones_run type.I64
    (called form.Popcnt type.I64 program pending m unit item below) x p)
