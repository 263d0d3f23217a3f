-- However an operator is done, in C or by a helper, it gives what its instruction gives.
use Rattle.body_meaning.proofs.Common.{◌≡◌, ℕ, ◌+◌, ◌-◌, ◌*◌, ◌%◌, ◌^◌, ◌<◌, Bool, not, [], ◌∷◌, nat_lt, nat_le, ◌==◌, bit_and, bit_or}
use Rattle.body_meaning.proofs.Common.{bit_xor, refl, ap, ◌∙◌, bits, value, ValType, I32, extend_type, extend_width, BinaryOp, CompareOp}
use Rattle.body_meaning.proofs.Common.{ExtendOp, UnaryOp, COp, Answer, Gives, binary, compare, extend_s, shl, shr_u, truth, unary, Program}
use Rattle.body_meaning.proofs.Common.{operate_at, Is, Machine, Running, evaluate, helper_right, evaluate-num, flagged, flagged-bit}
use Rattle.body_meaning.proofs.Common.{operate-value, CallComesTo, helper_of, number, NumOp, binary_way, compare_way, extend_helper}
use Rattle.body_meaning.proofs.Common.{unary_helper, Way, ByHelper, ByOperator, ByShift}
use Rattle.w2c_base.specs.declared.value.ValType.TheVariants as type
use Rattle.wasm_tree.specs.declared.operators.UnaryOp.TheVariants as unary_op
use Rattle.wasm_tree.specs.declared.operators.BinaryOp.TheVariants as binary_op
use Rattle.wasm_tree.specs.declared.operators.CompareOp.TheVariants as comparison_op
use Rattle.wasm_tree.specs.declared.operators.ExtendOp.TheVariants as extension_op
use Rattle.c_tree.specs.declared.tree.COp.TheVariants as op
use Rattle.c_tree.specs.Tree as tree
use Rattle.c_helpers.specs.declared.operation.NumOp.TheVariants as num
use Rattle.c_helpers.specs.declared.operation.Helper.TheVariants as helper
use Rattle.c_prelude.specs.Operators.{number as c_number, answered}
use Rattle.c_prelude.proofs.Shifts.{count-below}

-- an expression has the number that an answer gives
pub record Evaluates (p : Program) (m : Machine) (r : Running) (e : tree.Expr) (u : ValType) (answer : Answer) : Type 0 where
  pub n : ℕ
  pub gives : answer ≡ Gives n
  pub is : evaluate p m r e ≡ Is (value u n)

-- an expression made of two has the number that the answer to their numbers gives
abbrev pub Operates : ValType → ValType → (ℕ → ℕ → Answer) → (tree.Expr → tree.Expr → tree.Expr) → Type 0
Operates t u answer made = (p : Program) (m : Machine) (r : Running) (a b : tree.Expr) (x y : ℕ)
    → evaluate p m r a ≡ Is (value t x) → evaluate p m r b ≡ Is (value t y) → Evaluates p m r (made a b) u (answer x y)

abbrev pub WayIsRight : ValType → ValType → (ℕ → ℕ → Answer) → (tree.Expr → tree.Expr) → Way → Type 0
WayIsRight t u answer as_value (ByOperator o) = Operates t u answer (λ a b. as_value (tree.Op o a b))
WayIsRight t u answer as_value (ByShift o) = Operates t u answer (λ a b. as_value (tree.Op o a (tree.Op op.Rem b (number t (bits t)))))
WayIsRight t u answer as_value (ByHelper which) = (m : Machine) (x y : ℕ) → x < 2 ^ bits t → y < 2 ^ bits t
    → CallComesTo 390 (helper_of (helper.Num which)) (c_number t x ∷ c_number t y ∷ []) m (answered m u (answer x y))

-- ---- operators of C

pub operated : (p : Program) (m : Machine) (r : Running) (t : ValType) (o : COp) (a b : tree.Expr) (x y : ℕ)
    → evaluate p m r a ≡ Is (value t x) → evaluate p m r b ≡ Is (value t y) → evaluate p m r (tree.Op o a b) ≡ operate_at t o x y
operated p m r t o a b x y left right = rw (left, right) (operate-value t o x y)

by_operator : (t : ValType) (o : COp) (answer : ℕ → ℕ → Answer) (result : ℕ → ℕ → ℕ) → ((x y : ℕ) → answer x y ≡ Gives (result x y))
    → ((x y : ℕ) → operate_at t o x y ≡ Is (value t (result x y))) → Operates t t answer (λ a b. tree.Op o a b)
by_operator t o answer result gives is p m r a b x y left right =
    record { n = result x y; gives = gives x y; is = operated p m r t o a b x y left right ∙ is x y }

-- a count of a shift is taken modulo the width
reduced_at : (t : ValType) (y : ℕ) → operate_at t op.Rem y (bits t) ≡ Is (value t (y % bits t))
reduced_at type.I32 y = refl
reduced_at type.I64 y = refl

reduced : (p : Program) (m : Machine) (r : Running) (t : ValType) (b : tree.Expr) (y : ℕ) → evaluate p m r b ≡ Is (value t y)
    → evaluate p m r (tree.Op op.Rem b (number t (bits t))) ≡ Is (value t (y % bits t))
reduced p m r t b y is = operated p m r t op.Rem b (number t (bits t)) y (bits t) is (evaluate-num p m r t (bits t)) ∙ reduced_at t y

by_shift : (t : ValType) (o : COp) (answer : ℕ → ℕ → Answer) (result : ℕ → ℕ → ℕ) → ((x y : ℕ) → answer x y ≡ Gives (result x y))
    → ((x y : ℕ) → operate_at t o x (y % bits t) ≡ Is (value t (result x y)))
    → Operates t t answer (λ a b. tree.Op o a (tree.Op op.Rem b (number t (bits t))))
by_shift t o answer result gives is p m r a b x y left right = record {
  n = result x y;
  gives = gives x y;
  is = operated p m r t o a (tree.Op op.Rem b (number t (bits t))) x (y % bits t) left (reduced p m r t b y right) ∙ is x y;
}

by_comparison : (t : ValType) (o : COp) (test : ℕ → ℕ → Bool) → ((x y : ℕ) → operate_at t o x y ≡ Is (I32 (truth (test x y))))
    → Operates t type.I32 (λ x y. Gives (truth (test x y))) (λ a b. tree.To32 (tree.Op o a b))
by_comparison t o test is p m r a b x y left right = record {
  n = truth (test x y);
  gives = refl;
  is = ap (flagged type.I32) (operated p m r t o a b x y left right ∙ is x y) ∙ flagged-bit type.I32 (test x y);
}

-- ---- all operators

-- the helper of a way that is one
abbrev helper_in : Way → NumOp
helper_in (ByHelper which) = which
helper_in _ = num.I32DivS

pub binary_right : (t : ValType) (o : BinaryOp) → WayIsRight t t (binary o (bits t)) (λ e. e) (binary_way t o)
binary_right t binary_op.Add =
    by_operator t op.Add (binary binary_op.Add (bits t)) (λ x y. (x + y) % 2 ^ bits t) (λ x y. refl) (λ x y. refl)
binary_right t binary_op.Sub =
    by_operator t op.Sub (binary binary_op.Sub (bits t)) (λ x y. (x + (2 ^ bits t - y)) % 2 ^ bits t) (λ x y. refl) (λ x y. refl)
binary_right t binary_op.Mul = by_operator t op.Mul (binary binary_op.Mul (bits t)) (λ x y. x * y % 2 ^ bits t) (λ x y. refl) (λ x y. refl)
binary_right t binary_op.And = by_operator t op.And (binary binary_op.And (bits t)) bit_and (λ x y. refl) (λ x y. refl)
binary_right t binary_op.Or = by_operator t op.Or (binary binary_op.Or (bits t)) bit_or (λ x y. refl) (λ x y. refl)
binary_right t binary_op.Xor = by_operator t op.Xor (binary binary_op.Xor (bits t)) bit_xor (λ x y. refl) (λ x y. refl)
binary_right t binary_op.Shl =
    by_shift t op.Shl (binary binary_op.Shl (bits t)) (shl (bits t)) (λ x y. refl) (λ x y. rw (count-below t y) refl)
binary_right t binary_op.ShrU =
    by_shift t op.Shr (binary binary_op.ShrU (bits t)) (shr_u (bits t)) (λ x y. refl) (λ x y. rw (count-below t y) refl)
binary_right type.I32 o = helper_right (helper.Num (helper_in (binary_way type.I32 o)))
binary_right type.I64 o = helper_right (helper.Num (helper_in (binary_way type.I64 o)))

pub compare_right : (t : ValType) (o : CompareOp) → WayIsRight t type.I32 (λ x y. Gives (truth (compare o (bits t) x y))) tree.To32
    (compare_way t o)
compare_right t comparison_op.Eq = by_comparison t op.Eq (λ x y. x == y) (λ x y. refl)
compare_right t comparison_op.Ne = by_comparison t op.Ne (λ x y. not (x == y)) (λ x y. refl)
compare_right t comparison_op.LtU = by_comparison t op.Lt nat_lt (λ x y. refl)
compare_right t comparison_op.GtU = by_comparison t op.Gt (λ x y. nat_lt y x) (λ x y. refl)
compare_right t comparison_op.LeU = by_comparison t op.Le nat_le (λ x y. refl)
compare_right t comparison_op.GeU = by_comparison t op.Ge (λ x y. nat_le y x) (λ x y. refl)
compare_right type.I32 o = helper_right (helper.Num (helper_in (compare_way type.I32 o)))
compare_right type.I64 o = helper_right (helper.Num (helper_in (compare_way type.I64 o)))

pub unary_right : (t : ValType) (o : UnaryOp) (m : Machine) (x : ℕ) → x < 2 ^ bits t
    → CallComesTo 390 (helper_of (helper.Num (unary_helper t o))) (c_number t x ∷ []) m (answered m t (Gives (unary o (bits t) x)))
unary_right type.I32 unary_op.Clz = helper_right (helper.Num num.I32Clz)
unary_right type.I32 o = helper_right (helper.Num (unary_helper type.I32 o))
unary_right type.I64 unary_op.Clz = helper_right (helper.Num num.I64Clz)
unary_right type.I64 o = helper_right (helper.Num (unary_helper type.I64 o))

pub extend_right : (o : ExtendOp) (m : Machine) (x : ℕ) → x < 2 ^ bits (extend_type o)
    → CallComesTo 390 (helper_of (helper.Num (extend_helper o))) (c_number (extend_type o) x ∷ []) m
    (answered m (extend_type o) (Gives (extend_s (extend_width o) (bits (extend_type o)) x)))
extend_right extension_op.I32Extend8S = helper_right (helper.Num num.I32Extend8S)
extend_right o = helper_right (helper.Num (extend_helper o))
