-- The table of operators: what stands at an opcode has that opcode, and each operator stands at its own.
use Rattle.wasm_tree.proofs.Common.{◌≡◌, ℕ, zero, suc, ◌<◌, Bool, true, ◌&&◌, eqb, List, get_or, IfNone, IfSome, Some, None, Option}
use Rattle.wasm_tree.proofs.Common.{sym, refl, subst, inl, inr, arith, eqb-true, HasOp, op_opcode}
use Rattle.std.proofs.lemmas.Bool.{cases_eq}
use Rattle.w2c_base.proofs.Conjunctions.{left_holds, right_holds}
use Rattle.w2c_base.specs.declared.value.ValType.TheVariants as type
use Rattle.wasm_tree.specs.declared.operators.UnaryOp.TheVariants as unary
use Rattle.wasm_tree.specs.declared.operators.BinaryOp.TheVariants as binary
use Rattle.wasm_tree.specs.declared.operators.CompareOp.TheVariants as comparison
use Rattle.wasm_tree.specs.declared.operators.ExtendOp.TheVariants as extension
use Rattle.wasm_tree.specs.declared.operators.LoadOp.TheVariants as load
use Rattle.wasm_tree.specs.declared.operators.StoreOp.TheVariants as store
use Rattle.wasm_tree.specs.declared.operators.Simple.TheVariants as simple
use Rattle.wasm_tree.specs.declared.operators.IndexOp.TheVariants as index
use Rattle.wasm_tree.specs.declared.operators.AccessOp.TheVariants as access
use Rattle.wasm_tree.specs.declared.operators.Numeric.TheVariants as numeric
use Rattle.wasm_tree.specs.declared.opcodes.Op.{Op}
use Rattle.wasm_tree.specs.declared.opcodes.Op.TheVariants as op
use Rattle.wasm_tree.specs.declared.opcodes.TheConstants.{BY_OPCODE}

-- ---- what stands at an opcode has it

stands_at : Option Op → ℕ → Bool
stands_at None n = true
stands_at (Some o) n = eqb (op_opcode o) n

-- so at all places below n; what a place past the end would have is open
all_stand : List (Option Op) → Option Op → ℕ → Bool
all_stand ops d zero = true
all_stand ops d (suc n) = stands_at (get_or ops n d) n && all_stand ops d n

each_stands : (ops : List (Option Op)) (d : Option Op) (n : ℕ) → all_stand ops d n ≡ true → (b : ℕ) → b < n
    → stands_at (get_or ops b d) b ≡ true
unfolding all_stand
each_stands ops d zero all b less = absurd (omega (arith, less))
each_stands ops d (suc n) all b less =
    let last : stands_at (get_or ops n d) n ≡ true = left_holds (stands_at (get_or ops n d) n) (all_stand ops d n) all in
    let before : all_stand ops d n ≡ true = right_holds (stands_at (get_or ops n d) n) (all_stand ops d n) all in
    elim (cases_eq b n) [
      | inl same ↦ subst (λ (k : ℕ). stands_at (get_or ops k d) k ≡ true) (sym same) last
      | inr other ↦ each_stands ops d n before b (omega arith)
    ]

has_it : (r : Option Op) (opcode : ℕ) → stands_at r opcode ≡ true → IfSome r (λ o. op_opcode o ≡ opcode)
unfolding stands_at
has_it None opcode is = tt
has_it (Some o) opcode is = eqb-true (op_opcode o) opcode is

pub found : (opcode : ℕ) (d : Option Op) → opcode < 256 → IfSome (get_or BY_OPCODE opcode d) (λ o. op_opcode o ≡ opcode)
unfolding all_stand stands_at
found opcode d less = has_it (get_or BY_OPCODE opcode d) opcode (each_stands BY_OPCODE d 256 refl opcode less)

-- ---- each operator stands at its opcode

listed : (o : Op) (d : Option Op) → get_or BY_OPCODE (op_opcode o) d ≡ Some o
listed (op.Simple simple.Unreachable) d = refl
listed (op.Index index.Br) d = refl
listed (op.Access (access.Load load.I32Load)) d = refl
listed (op.Access (access.Store store.I32Store)) d = refl
listed (op.Numeric (numeric.Eqz type.I32)) d = refl
listed (op.Numeric (numeric.Compare type.I32 comparison.Eq)) d = refl
listed (op.Numeric (numeric.Compare type.I64 comparison.Eq)) d = refl
listed (op.Numeric (numeric.Unary type.I32 unary.Clz)) d = refl
listed (op.Numeric (numeric.Unary type.I64 unary.Clz)) d = refl
listed (op.Numeric (numeric.Binary type.I32 binary.Add)) d = refl
listed (op.Numeric (numeric.Binary type.I64 binary.Add)) d = refl
listed (op.Numeric (numeric.Extend extension.I32Extend8S)) d = refl
listed _ d = refl

apart : (r : Option Op) (o : Op) → r ≡ Some o → r ≡ None → ⊥
apart r o some none = absurd cc

if_none : (r : Option Op) (opcode : ℕ) (d : Option Op) → get_or BY_OPCODE opcode d ≡ r → IfNone r (HasOp opcode → ⊥)
if_none (Some o) opcode d is = tt
if_none None opcode d is =
    λ has. apart (get_or BY_OPCODE opcode d) has.0
    (subst (λ (n : ℕ). get_or BY_OPCODE n d ≡ Some has.0) has.1 (listed has.0 d)) is

pub not_found : (opcode : ℕ) (d : Option Op) → IfNone (get_or BY_OPCODE opcode d) (HasOp opcode → ⊥)
not_found opcode d = if_none (get_or BY_OPCODE opcode d) opcode d refl
