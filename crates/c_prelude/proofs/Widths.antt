-- What numbers of a type do, so that one proof serves both types.
use Rattle.c_prelude.proofs.Common.{◌≡◌, ℕ, ◌-◌, ◌*◌, ◌%◌, ◌^◌, ◌<◌, ◌≤◌, Bool, true, false, ◌⊎◌, List, [], ◌∷◌, if◌then◌else◌, nat_lt}
use Rattle.c_prelude.proofs.Common.{nat_le, codes, sym, refl, ap, subst, inl, inr, arith, leb_tells, nat_tests, bits, number_of, type_of}
use Rattle.c_prelude.proofs.Common.{value, ValType, Value, I32, I64, Void, Answer, Program, of_type, CValue, Evaluated, Is, Machine, Number}
use Rattle.c_prelude.proofs.Common.{Running, Vars, then_evaluate, evaluate, CallComesTo, c_type_of, answered, flag, num}
use Rattle.w2c_base.specs.declared.value.ValType.TheVariants as type
use Rattle.c_tree.specs.declared.tree.COp.{COp}
use Rattle.c_tree.specs.Tree as tree
use Rattle.w2c_base.proofs.Types.{type_equals_itself}
use Rattle.c_meaning.specs.Operators.{operate, operate_at}

pub evaluate-num : (p : Program) (m : Machine) (r : Running) (t : ValType) (n : ℕ) → evaluate p m r (num t n) ≡ Is (value t n)
evaluate-num p m r type.I32 n = refl
evaluate-num p m r type.I64 n = refl

pub operate-value : (t : ValType) (o : COp) (x y : ℕ) → operate o (value t x) (value t y) ≡ operate_at t o x y
operate-value type.I32 o x y = refl
operate-value type.I64 o x y = refl

pub number_of-value : (t : ValType) (n : ℕ) → number_of (value t n) ≡ n
number_of-value type.I32 n = refl
number_of-value type.I64 n = refl

-- the truth of a test as a number of a type
abbrev pub flagged : ValType → Evaluated Value → Evaluated Value
flagged type.I32 e = then_evaluate e (λ v. Is (I32 (number_of v % 2 ^ 32)))
flagged type.I64 e = then_evaluate (then_evaluate e (λ v. Is (I32 (number_of v % 2 ^ 32)))) (λ v. Is (I64 (number_of v)))

pub evaluate-flag : (p : Program) (m : Machine) (r : Running) (t : ValType) (e : tree.Expr)
    → evaluate p m r (flag t e) ≡ flagged t (evaluate p m r e)
evaluate-flag p m r type.I32 e = refl
evaluate-flag p m r type.I64 e = refl

bit_stays : (b : Bool) → (if b then 1 else 0) % 2 ^ 32 ≡ (if b then 1 else 0)
bit_stays true = refl
bit_stays false = refl

pub flagged-bit : (t : ValType) (b : Bool) → flagged t (Is (I32 (if b then 1 else 0))) ≡ Is (value t (if b then 1 else 0))
flagged-bit type.I32 b = ap (λ n. Is (I32 n)) (bit_stays b)
flagged-bit type.I64 b = ap (λ n. Is (I64 n)) (bit_stays b)

-- a number goes where its type is wanted or one of its type is held
pub of_type-value : (t : ValType) (n : ℕ) → of_type (c_type_of t) (Number (value t n)) ≡ true
of_type-value type.I32 n = refl
of_type-value type.I64 n = refl

pub type_of-value : (t : ValType) (n : ℕ) → type_of (value t n) ≡ t
type_of-value type.I32 n = refl
type_of-value type.I64 n = refl

pub ruleset widths = (operate-value, number_of-value, flagged-bit, of_type-value, type_of-value, type_equals_itself)

-- a function as expressions see it: its unit and its variables
abbrev pub seen : ℕ → Vars → Running
seen unit vars = record { unit = unit; item = 0; result = Void; stmts = []; rest = []; vars = vars }

-- the operands
abbrev pub operands : ValType → ℕ → ℕ → Vars
operands t x y = (codes "x", Number (value t x)) ∷ (codes "y", Number (value t y)) ∷ []

pub twice : (t : ValType) → 2 ^ bits t ≡ 2 * 2 ^ (bits t - 1)
twice type.I32 = refl
twice type.I64 = refl

pub half_pos : (t : ValType) → 0 < 2 ^ (bits t - 1)
half_pos type.I32 = omega arith
half_pos type.I64 = omega arith

pub at_operands : (p : Program) (m : Machine) (unit : ℕ) (t : ValType) (x y n : ℕ)
    → evaluate p m (seen unit (operands t x y)) (num t n) ≡ Is (value t n)
at_operands p m unit t x y n = evaluate-num p m (seen unit (operands t x y)) t n

-- another answer that is equal
pub answers : {most : ℕ} {f : tree.Func} {args : List CValue} {m : Machine} (t : ValType) (a b : Answer) → b ≡ a
    → CallComesTo most f args m (answered m t a) → CallComesTo most f args m (answered m t b)
answers {most} {f} {args} {m} t a b e h = subst (λ (x : Answer). CallComesTo most f args m (answered m t x)) (sym e) h

-- the two sides of H, by both tests of C
pub sides : (H x : ℕ) → ((nat_le H x ≡ true) × (nat_lt x H ≡ false) × (H ≤ x)) ⊎ ((nat_le H x ≡ false) × (nat_lt x H ≡ true) × (x < H))
sides H x = elim (leb_tells H x) [ inl a ↦ inl (a.0, (grind (arith, nat_tests)), a.1) | inr a ↦ inr (a.0, (grind (arith, nat_tests)), a.1) ]
