-- The helpers that count zeros.
use Rattle.c_prelude.proofs.Common.{◌≡◌, ℕ, zero, suc, ◌+◌, ◌-◌, ◌*◌, ◌/◌, ◌%◌, ◌^◌, ◌<◌, ◌≤◌, true, List, [], ◌∷◌, nat_eq, nat_lt, bit_and}
use Rattle.c_prelude.proofs.Common.{Some, codes, sym, refl, ap, ◌∙◌, inl, inr, arith, count_leading_zeros, count_trailing_zeros}
use Rattle.c_prelude.proofs.Common.{trailing_of_zero, eqb_tells, bits, value, ValType, Gives, truth, walk, Program, Going, Pending}
use Rattle.c_prelude.proofs.Common.{Progress, Frame, Machine, Number, Vars, call_ended, c_type_of, number_helper, number_stmts}
use Rattle.c_prelude.proofs.Common.{DoesOperator, answered, flag, num, Unary, Form}
use Rattle.w2c_base.specs.declared.value.ValType.TheVariants as type
use Rattle.w2c_base.proofs.Types.{bits_below}
use Rattle.w2c_base.proofs.Numbers.{below_is_found}
use Rattle.wasm_tree.specs.declared.operators.UnaryOp.TheVariants as unary_op
use Rattle.c_tree.specs.declared.tree.COp.TheVariants as op
use Rattle.c_tree.specs.Tree as tree
use Rattle.c_helpers.specs.declared.operation.Form.TheVariants as form
use Rattle.c_prelude.proofs.Computed.{computed}
use Rattle.c_prelude.proofs.Widths.{widths, evaluate-num, evaluate-flag, seen, sides, twice, half_pos}
use Rattle.c_prelude.proofs.Halving.{Shifted, shift-some, shift-none, shifted-some, shifted-none, counted, room, more_room, lowest}
use Rattle.c_prelude.proofs.Halving.{lowest-is}

-- ---- the statements, by recursion on the stages

abbrev x : tree.Expr
x = tree.Name (codes "x")

abbrev n : tree.Expr
n = tree.Name (codes "n")

abbrev k : tree.Expr
k = tree.Name (codes "t")

abbrev set : List ℕ → tree.Expr → tree.Stmt
set name e = tree.Set name (tree.Value e)

-- where x is below 2 ^ (N - s), its top s bits are zeros: they are counted and shifted out
abbrev clz_stage : ValType → ℕ → List tree.Stmt → List tree.Stmt
clz_stage t s rest =
    set (codes "t") (tree.Op op.Mul (flag t (tree.Op op.Lt x (num t (2 ^ (bits t - s))))) (num t s))
    ∷ set (codes "n") (tree.Op op.Add n k)
    ∷ set (codes "x") (tree.Op op.Shl x k)
    ∷ rest

-- the lower half of each block of 2 * s bits
abbrev mask : ValType → ℕ → ℕ
mask t s = (2 ^ bits t - 1) / (2 ^ s + 1)

-- where the lowest bit that is set has no place there, s is counted
abbrev ctz_stage : ValType → ℕ → List tree.Stmt → List tree.Stmt
ctz_stage t s rest =
    set (codes "n")
    (tree.Op op.Add n
    (tree.Op op.Mul
    (flag t (tree.Op op.Eq (tree.Op op.And (tree.Op op.And x (tree.Op op.Sub (num t 0) x)) (num t (mask t s))) (num t 0))) (num t s)))
    ∷ rest

-- the stages for 2 ^ (c - 1), .., 2, 1 bits
abbrev stages : (ValType → ℕ → List tree.Stmt → List tree.Stmt) → ValType → ℕ → List tree.Stmt → List tree.Stmt
stages stage t zero rest = rest
stages stage t (suc c) rest = stage t (2 ^ c) (stages stage t c rest)

abbrev pub steps_of : ValType → ℕ
steps_of type.I32 = 5
steps_of type.I64 = 6

abbrev count_end : ValType → List tree.Stmt
count_end t = tree.Return (tree.Value (tree.Op op.Add n (flag t (tree.Op op.Eq x (num t 0))))) ∷ []

-- ---- runs

-- the variables of a count of zeros
abbrev counting : ValType → ℕ → ℕ → ℕ → Vars
counting t a b c = (codes "x", Number (value t a)) ∷ (codes "n", Number (value t b)) ∷ (codes "t", Number (value t c)) ∷ []

-- a call of the helper with these statements, when these are to come
pub record Call : Type 0 where
  pub program : Program
  pub pending : Pending
  pub machine : Machine
  pub unit : ℕ
  pub item : ℕ
  pub stmts : List tree.Stmt
  pub below : List Frame

abbrev at : ValType → Call → List tree.Stmt → ℕ → ℕ → ℕ → Progress
at t call rest a b c = Going call.pending (record {
  machine = call.machine;
  running = record {
    unit = call.unit;
    item = call.item;
    result = c_type_of t;
    stmts = call.stmts;
    rest = rest;
    vars = counting t a b c;
  };
  below = call.below;
})

abbrev pub gives : ValType → Call → ℕ → Progress
gives t call v = call_ended call.program call.pending (answered call.machine t (Gives v)) call.below

-- a stage that shifts by u
clz_step : (t : ValType) (call : Call) (rest : List tree.Stmt) (s a b c u : ℕ)
    → truth (nat_lt a (2 ^ (bits t - s))) * s % 2 ^ bits t ≡ u → nat_lt u (bits t) ≡ true
    → walk call.program 3 (Some (at t call (clz_stage t s rest) a b c))
    ≡ Some (at t call rest (a * 2 ^ u % 2 ^ bits t) ((b + u) % 2 ^ bits t) u)
clz_step t call rest s a b c u e h =
    simp (
      widths,
      evaluate-num call.program call.machine (seen call.unit (counting t a b c)) t,
      evaluate-flag call.program call.machine
          (seen call.unit (counting t a b c)) t,
      e,
      h,
    )

-- the last statement
ends : (t : ValType) (call : Call) (a b c : ℕ) → walk call.program 1 (Some (at t call (count_end t) a b c)) ≡ Some
    (gives t call ((b + truth (nat_eq a 0)) % 2 ^ bits t))
ends t call a b c = simp (
  widths,
  evaluate-num call.program call.machine
      (seen call.unit (counting t a b c)) t,
  evaluate-flag call.program call.machine (seen call.unit (counting t a b c)) t,
)

turns : ℕ → ℕ
turns zero = 1
turns (suc c) = suc (suc (suc (turns c)))

clz_run : (t : ValType) (call : Call) (c y a b v : ℕ) → Shifted (bits t) c y a b
    → walk call.program (turns c) (Some (at t call (stages clz_stage t c (count_end t)) a b v)) ≡ Some
    (gives t call (count_leading_zeros (bits t) y))
unfolding turns
clz_run t call zero y a b v h = ends t call a b v ∙ ap (λ n. Some (gives t call n)) (counted (bits t) y a b (bits_below t) h)
clz_run t call (suc c) y a b v h =
    let N = bits t in
    let rest = stages clz_stage t c (count_end t) in
    elim (sides (2 ^ (N - 2 ^ c)) a) [
      | inl l ↦
          ap (walk call.program (turns c)) (clz_step t call rest (2 ^ c) a b v 0 (shift-none N c y a b (bits_below t) h l.2)
          (below_is_found 0 N (room N c b h.reach)))
          ∙ clz_run t call c y _ _ 0 (shifted-none N c y a b (bits_below t) h l.2)
      | inr l ↦
          ap (walk call.program (turns c)) (clz_step t call rest (2 ^ c) a b v (2 ^ c) (shift-some N c y a b (bits_below t) h l.2)
          (below_is_found (2 ^ c) N (more_room N c b h.reach)))
          ∙ clz_run t call c y _ _ (2 ^ c) (shifted-some N c y a b (bits_below t) h l.2)
    ]

-- ---- the same of trailing zeros: each stage by itself

abbrev places : ValType → ℕ → ℕ → Vars
places t a b = (codes "x", Number (value t a)) ∷ (codes "n", Number (value t b)) ∷ []

abbrev at_place : ValType → Call → List tree.Stmt → ℕ → ℕ → Progress
at_place t call rest a b = Going call.pending (record {
  machine = call.machine;
  running = record {
    unit = call.unit;
    item = call.item;
    result = c_type_of t;
    stmts = call.stmts;
    rest = rest;
    vars = places t a b;
  };
  below = call.below;
})

-- the count after a stage, where l is the lowest bit
abbrev added : ValType → ℕ → ℕ → ℕ → ℕ
added t s l b = (b + truth (nat_eq (bit_and l (mask t s)) 0) * s % 2 ^ bits t) % 2 ^ bits t

-- the count after all stages, and one more where no bit is set
abbrev tally : ValType → ℕ → ℕ → ℕ → ℕ → ℕ
tally t zero l z b = (b + z) % 2 ^ bits t
tally t (suc c) l z b = tally t c l z (added t (2 ^ c) l b)

ctz_step : (t : ValType) (call : Call) (rest : List tree.Stmt) (s a b : ℕ)
    → walk call.program 1 (Some (at_place t call (ctz_stage t s rest) a b))
    ≡ Some (at_place t call rest a (added t s (lowest (bits t) a) b))
ctz_step t call rest s a b =
    simp (
      widths,
      evaluate-num call.program call.machine (seen call.unit (places t a b)) t,
      evaluate-flag call.program call.machine
          (seen call.unit (places t a b)) t,
    )

ctz_ends : (t : ValType) (call : Call) (a b : ℕ) → walk call.program 1 (Some (at_place t call (count_end t) a b)) ≡ Some
    (gives t call ((b + truth (nat_eq a 0)) % 2 ^ bits t))
ctz_ends t call a b = simp (
  widths,
  evaluate-num call.program call.machine
      (seen call.unit (places t a b)) t,
  evaluate-flag call.program call.machine (seen call.unit (places t a b)) t,
)

ctz_run : (t : ValType) (call : Call) (c a b : ℕ)
    → walk call.program (suc c) (Some (at_place t call (stages ctz_stage t c (count_end t)) a b)) ≡ Some
    (gives t call (tally t c (lowest (bits t) a) (truth (nat_eq a 0)) b))
ctz_run t call zero a b = ctz_ends t call a b
ctz_run t call (suc c) a b =
    ap (walk call.program (suc c)) (ctz_step t call (stages ctz_stage t c (count_end t)) (2 ^ c) a b)
    ∙ ctz_run t call c a (added t (2 ^ c) (lowest (bits t) a) b)

-- the count where bit i alone is set
tallied : ValType → ℕ → ℕ
tallied t i = tally t (steps_of t) (2 ^ i) 0 0

tallied-is : (t : ValType) (i : ℕ) → tally t (steps_of t) (2 ^ i) 0 0 ≡ tallied t i
unfolding tallied
tallied-is t i = refl

-- how far it is from i, over all below k
wrong : ValType → ℕ → ℕ
wrong t zero = 0
wrong t (suc k) = wrong t k + (tallied t k - k) + (k - tallied t k)

none_wrong : (t : ValType) → wrong t (bits t) ≡ 0
unfolding wrong tallied
none_wrong type.I32 = refl
none_wrong type.I64 = refl

right-below : (t : ValType) (k i : ℕ) → wrong t k ≡ 0 → i < k → tallied t i ≡ i
unfolding wrong
right-below t zero i h l = absurd (omega arith)
right-below t (suc k) i h l =
    elim (eqb_tells i k) [
      | inl e ↦ let f : tallied t k ≡ k = omega arith in ap (tallied t) e.1 ∙ (f ∙ sym e.1)
      | inr e ↦ right-below t k i (omega arith) (omega arith)
    ]

none_set : (t : ValType) → tally t (steps_of t) 0 1 0 ≡ bits t
none_set type.I32 = refl
none_set type.I64 = refl

tally-right : (t : ValType) (x : ℕ) → x < 2 ^ bits t
    → tally t (steps_of t) (lowest (bits t) x) (truth (nat_eq x 0)) 0 ≡ count_trailing_zeros (bits t) x
tally-right t x h =
    elim (eqb_tells x 0) [
      | inl z ↦ rw (z.1) (none_set t ∙ sym (trailing_of_zero (bits t)))
      | inr z ↦
          let found = lowest-is (bits t) (twice t) (half_pos t) x (omega arith) h in
          rw (z.0, found.2, found.3) (tallied-is t found.0 ∙ right-below t (bits t) found.0 (none_wrong t) found.1)
    ]

-- ---- the beginning

clz_begin : (t : ValType) (x : ℕ) → x < 2 ^ bits t → Shifted (bits t) (steps_of t) x x 0
clz_begin type.I32 x p = record { value = omega arith; below = p; reach = omega arith; high = λ q. q; none = λ z. refl }
clz_begin type.I64 x p = record { value = omega arith; below = p; reach = omega arith; high = λ q. q; none = λ z. refl }

pub whole_width : (t : ValType) → 2 ^ steps_of t ≡ bits t
whole_width type.I32 = refl
whole_width type.I64 = refl

few_turns : (t : ValType) → turns (steps_of t) ≤ 390
unfolding turns
few_turns type.I32 = omega arith
few_turns type.I64 = omega arith

abbrev pub called : Form → ValType → Program → Pending → Machine → ℕ → ℕ → List Frame → Call
called form t program pending m unit item below = record {
  program = program;
  pending = pending;
  machine = m;
  unit = unit;
  item = item;
  stmts = number_stmts (record { ty = t; form = form });
  below = below;
}

pub clz_right : (t : ValType) → DoesOperator (number_helper (record { ty = t; form = form.Clz })) t (Unary unary_op.Clz)
clz_right type.I32 m x p = computed (turns 5) (few_turns type.I32)
    (λ program pending unit item below. clz_run type.I32 (called form.Clz type.I32 program pending m unit item below) 5 x x 0 0
    (clz_begin type.I32 x p))
clz_right type.I64 m x p = computed (turns 6) (few_turns type.I64)
    (λ program pending unit item below. clz_run type.I64 (called form.Clz type.I64 program pending m unit item below) 6 x x 0 0
    (clz_begin type.I64 x p))

pub ctz_right : (t : ValType) → DoesOperator (number_helper (record { ty = t; form = form.Ctz })) t (Unary unary_op.Ctz)
ctz_right type.I32 m x p = computed 6 (omega arith) (λ program pending unit item below. ctz_run type.I32
    (called form.Ctz type.I32 program pending m unit item below) 5 x 0
    ∙ ap (λ v. Some (gives type.I32 (called form.Ctz type.I32 program pending m unit item below) v)) (tally-right type.I32 x p))
ctz_right type.I64 m x p = computed 7 (omega arith) (λ program pending unit item below. ctz_run type.I64
    (called form.Ctz type.I64 program pending m unit item below) 6 x 0
    ∙ ap (λ v. Some (gives type.I64 (called form.Ctz type.I64 program pending m unit item below) v)) (tally-right type.I64 x p))
