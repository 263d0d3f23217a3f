-- Instructions but for blocks: what their opcodes say of what is read behind them.
use Rattle.wasm_binary.proofs.Common.{◌≡◌, ℕ, [], pos, Some, None, Ok, Err, Option, Result, sym, refl, ap, ◌∙◌, subst, Makes, form_in}
use Rattle.wasm_binary.proofs.Common.{form_of, Form, Prefixed, Row, a_mem_arg, a_sub_opcode, a_type, a_zero, an_i32, an_i64, an_index}
use Rattle.wasm_binary.proofs.Common.{labels, nothing, opcode_of, prefixed_of, row_of, Binary, Br, BrIf, BrTable, Call, CallIndirect}
use Rattle.wasm_binary.proofs.Common.{Compare, Drop, Eqz, Extend, GlobalGet, GlobalSet, I32Const, I32WrapI64, I64Const, I64ExtendI32S}
use Rattle.wasm_binary.proofs.Common.{I64ExtendI32U, Kind, Load, LocalGet, LocalSet, LocalTee, MemoryCopy, MemoryFill, MemoryGrow}
use Rattle.wasm_binary.proofs.Common.{MemorySize, Nop, Return, Select, Store, Unary, Unreachable, At, times_at, number_at, ◌>>=◌, ReadFault}
use Rattle.wasm_binary.proofs.Common.{Malformed, Memory, Fails, Gives, kept}
use Rattle.wasm_tree.specs.declared.code.MemArg.{MemArg}
use Rattle.wasm_tree.specs.declared.opcodes.Op.{Op}
use Rattle.wasm_tree.specs.declared.opcodes.Op.TheVariants as op
use Rattle.wasm_tree.specs.declared.operators.Simple.TheVariants as simple
use Rattle.wasm_tree.specs.declared.operators.IndexOp.TheVariants as index
use Rattle.wasm_tree.specs.declared.operators.AccessOp.TheVariants as access
use Rattle.wasm_tree.specs.declared.operators.Numeric.TheVariants as numeric
use Rattle.wasm_tree.specs.Parts.{access_tree, index_tree, numeric_tree, op_opcode, simple_tree, HasOp}
use Rattle.wasm_tree.proofs.ExactTable.{has_row, row_makes}
use Rattle.wasm_spelling.specs.declared.fault.Cause.TheVariants as cause
use Rattle.wasm_spelling.specs.Steps.{reads, checked, sub_opcode_in, sub_opcode_of}
use Rattle.wasm_spelling.specs.Reading.{exactly_at, form_at}
use Rattle.wasm_binary.specs.Opcodes.{op_form, fault_of, by_form, plain_at}

-- ---- the opcode of a row

pub plain_is : (place b : ℕ) (f : Form) (a : At) → form_in (row_of b) ≡ Some f → plain_at place b a ≡ form_at f a
unfolding plain_at
plain_is place b f a is = ap (λ o. by_form place b o a) is

-- an opcode of one row
pub by_opcode : {X : Type 0} (view : X → Kind × At) (r : Result X ReadFault) (place b n : ℕ) (f : Form) (a : At)
    → b ≡ n → form_in (row_of n) ≡ Some f → Gives view r (form_at f a) → Gives view r (plain_at place b a)
by_opcode view r place b n f a same is g =
    subst (Gives view r) (sym (plain_is place b f a (ap (λ (x : ℕ). form_in (row_of x)) same ∙ is))) g

-- ---- a sub-opcode

abbrev zeros_behind : Prefixed × At → Result (Kind × At) ReadFault
zeros_behind x = kept x.0.kind (times_at (exactly_at 0x00 cause.ZeroByteExpected) x.0.zeros x.1)

pub by_sub_opcode : (a : At) (n : ℕ) (b : At) (r : Prefixed) → number_at a ≡ Ok (n, b) → prefixed_of n ≡ Some r
    → form_at a_sub_opcode a ≡ zeros_behind (r, b)
unfolding form_at reads checked
by_sub_opcode a n b r e is =
    ap (λ (x : Result (ℕ × At) ReadFault). (x >>= λ y. sub_opcode_of a.place y.0 >>= λ v. Ok (v, y.1)) >>= zeros_behind) e
    ∙ ap (λ (o : Option Prefixed). (sub_opcode_in o a.place >>= λ v. Ok (v, b)) >>= zeros_behind) is

-- ---- the opcode of an operator

no_arg : MemArg
no_arg = record { align = 0; offset = 0 }

-- an instruction of an operator
abbrev op_tree : Op → Kind
op_tree (op.Simple o) = simple_tree o
op_tree (op.Index o) = index_tree o 0
op_tree (op.Access o) = access_tree o no_arg
op_tree (op.Numeric o) = numeric_tree o

op_has : (o : Op) → (opcode_of (op_tree o) ≡ op_opcode o) × (form_of (op_tree o) ≡ Some (op_form o))
op_has (op.Simple simple.Unreachable) = (refl, refl)
op_has (op.Index index.Br) = (refl, refl)
op_has (op.Access (access.Load o)) = (refl, refl)
op_has (op.Access (access.Store o)) = (refl, refl)
op_has (op.Numeric (numeric.Eqz ty)) = (refl, refl)
op_has _ = (refl, refl)

pub op_row : (o : Op) → form_in (row_of (op_opcode o)) ≡ Some (op_form o)
op_row o =
    let has = op_has o in
    subst (λ n. form_in (row_of n) ≡ Some (op_form o)) has.0 (has_row (op_tree o) (op_form o) has.1)

pub by_op : {X : Type 0} (view : X → Kind × At) (r : Result X ReadFault) (place b : ℕ) (o : Op) (a : At)
    → op_opcode o ≡ b → Gives view r (form_at (op_form o) a) → Gives view r (plain_at place b a)
by_op view r place b o a is g = by_opcode view r place b (op_opcode o) (op_form o) a (sym is) (op_row o) g

-- ---- an opcode of no row

record OfNone (b : ℕ) : Type 0 where
  no_op : HasOp b → ⊥
  not_labels : b ≡ 0x0E → ⊥
  not_type : b ≡ 0x11 → ⊥
  not_size : b ≡ 0x3F → ⊥
  not_grow : b ≡ 0x40 → ⊥
  not_i32 : b ≡ 0x41 → ⊥
  not_i64 : b ≡ 0x42 → ⊥
  not_prefix : b ≡ 0xFC → ⊥

-- of such an opcode there are blocks alone
opens_block : (k : Kind) → OfNone (opcode_of k) → form_of k ≡ None
opens_block Unreachable n = absurd (n.no_op (op.Simple simple.Unreachable, refl))
opens_block Nop n = absurd (n.no_op (op.Simple simple.Nop, refl))
opens_block Return n = absurd (n.no_op (op.Simple simple.Return, refl))
opens_block Drop n = absurd (n.no_op (op.Simple simple.Drop, refl))
opens_block Select n = absurd (n.no_op (op.Simple simple.Select, refl))
opens_block (Br i) n = absurd (n.no_op (op.Index index.Br, refl))
opens_block (BrIf i) n = absurd (n.no_op (op.Index index.BrIf, refl))
opens_block (Call i) n = absurd (n.no_op (op.Index index.Call, refl))
opens_block (LocalGet i) n = absurd (n.no_op (op.Index index.LocalGet, refl))
opens_block (LocalSet i) n = absurd (n.no_op (op.Index index.LocalSet, refl))
opens_block (LocalTee i) n = absurd (n.no_op (op.Index index.LocalTee, refl))
opens_block (GlobalGet i) n = absurd (n.no_op (op.Index index.GlobalGet, refl))
opens_block (GlobalSet i) n = absurd (n.no_op (op.Index index.GlobalSet, refl))
opens_block (Load o arg) n = absurd (n.no_op (op.Access (access.Load o), refl))
opens_block (Store o arg) n = absurd (n.no_op (op.Access (access.Store o), refl))
opens_block (Eqz ty) n = absurd (n.no_op (op.Numeric (numeric.Eqz ty), refl))
opens_block (Compare ty o) n = absurd (n.no_op (op.Numeric (numeric.Compare ty o), refl))
opens_block (Unary ty o) n = absurd (n.no_op (op.Numeric (numeric.Unary ty o), refl))
opens_block (Binary ty o) n = absurd (n.no_op (op.Numeric (numeric.Binary ty o), refl))
opens_block I32WrapI64 n = absurd (n.no_op (op.Numeric numeric.I32WrapI64, refl))
opens_block I64ExtendI32S n = absurd (n.no_op (op.Numeric numeric.I64ExtendI32S, refl))
opens_block I64ExtendI32U n = absurd (n.no_op (op.Numeric numeric.I64ExtendI32U, refl))
opens_block (Extend o) n = absurd (n.no_op (op.Numeric (numeric.Extend o), refl))
opens_block (BrTable ls d) n = absurd (n.not_labels refl)
opens_block (CallIndirect i) n = absurd (n.not_type refl)
opens_block MemorySize n = absurd (n.not_size refl)
opens_block MemoryGrow n = absurd (n.not_grow refl)
opens_block MemoryCopy n = absurd (n.not_prefix refl)
opens_block MemoryFill n = absurd (n.not_prefix refl)
opens_block (I32Const i) n = absurd (n.not_i32 refl)
opens_block (I64Const i) n = absurd (n.not_i64 refl)
opens_block _ n = refl

-- a form makes some instruction
OneOf : ℕ → Form → Type 0
OneOf b f = (k : Kind) × (opcode_of k ≡ b) × (form_of k ≡ Some f)

one_of : (b : ℕ) (f : Form) → Makes b f → OneOf b f
unfolding OneOf
one_of b (nothing kind) m = (kind, m.0, m.1)
one_of b (an_index make) m = (make 0, (m 0).0, (m 0).1)
one_of b (a_mem_arg make) m = (make no_arg, (m no_arg).0, (m no_arg).1)
one_of b (labels make) m = (make [] 0, (m [] 0).0, (m [] 0).1)
one_of b (a_type make) m = (make 0, (m 0).0, (m 0).1)
one_of b (a_zero kind) m = (kind, m.0, m.1)
one_of b (an_i32 make) m = (make (pos 0), (m (pos 0)).0, (m (pos 0)).1)
one_of b (an_i64 make) m = (make (pos 0), (m (pos 0)).0, (m (pos 0)).1)
one_of b a_sub_opcode m = (MemoryCopy, m.0.0, m.0.1)

some_none : (A : Type 0) (o : Option Form) (f : Form) → o ≡ Some f → o ≡ None → A
some_none A o f s n = absurd cc

none_in : (b : ℕ) (o : Option Row) → row_of b ≡ o → OfNone b → form_in o ≡ None
unfolding OneOf
none_in b None e n = refl
none_in b (Some r) e n =
    let k = one_of b r.form (row_makes b r e) in
    some_none _ (form_of k.0) r.form k.2 (opens_block k.0 (subst OfNone (sym k.1) n))

as_fails : (A : Type 0) (f : ReadFault) (r : Result A ReadFault) → r ≡ Err f → Fails f r
as_fails A Memory r e = tt
as_fails A (Malformed p c) r e = e
as_fails A _ r e = e

pub none_fails : (place b : ℕ) (a : At) (f : ReadFault) → f ≡ fault_of place b → (HasOp b → ⊥)
    → (b ≡ 0x0E → ⊥) → (b ≡ 0x11 → ⊥) → (b ≡ 0x3F → ⊥)
    → (b ≡ 0x40 → ⊥) → (b ≡ 0x41 → ⊥) → (b ≡ 0x42 → ⊥) → (b ≡ 0xFC → ⊥) → Fails f (plain_at place b a)
unfolding plain_at
none_fails place b a f is no_op not_labels not_type not_size not_grow not_i32 not_i64 not_prefix =
    let none : OfNone b = record {
      no_op = no_op;
      not_labels = not_labels;
      not_type = not_type;
      not_size = not_size;
      not_grow = not_grow;
      not_i32 = not_i32;
      not_i64 = not_i64;
      not_prefix = not_prefix;
    } in
    as_fails (Kind × At) f (plain_at place b a)
    (ap (λ o. by_form place b o a) (none_in b (row_of b) refl none) ∙ ap (λ (f : ReadFault). Err f) (sym is))
