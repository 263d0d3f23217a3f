-- The statements of the instructions that take operands and give a value by one statement, at the height under the operands.
use Rattle.std.specs.Prelude.{ℕ, ◌+◌, if◌then◌else◌, Bool, true, false, [], ◌∷◌, codes, Some, None}
use Rattle.w2c_base.specs.declared.value.ValType.{ValType}
use Rattle.w2c_base.specs.declared.value.ValType.TheVariants as type
use Rattle.wasm_tree.specs.declared.operators.LoadOp.{LoadOp}
use Rattle.wasm_tree.specs.declared.operators.StoreOp.{StoreOp}
use Rattle.wasm_tree.specs.declared.tree.Module.{Module}
use Rattle.c_tree.specs.declared.tree.COp.TheVariants as op
use Rattle.c_tree.specs.Tree as tree
use Rattle.c_tree.specs.Makers.{num as number}
use Rattle.c_helpers.specs.declared.operation.NumOp.{NumOp}
use Rattle.c_helpers.specs.declared.operation.NumOp.TheVariants as num
use Rattle.c_helpers.specs.declared.operation.Helper.TheVariants as helper
use Rattle.c_helpers.specs.declared.steps.Step.{Step}
use Rattle.c_helpers.specs.declared.steps.Step.TheVariants as step
use Rattle.c_symbols.specs.Objects.{memory_arg}
use Rattle.body_forms.specs.Names.{slot}
use Rattle.body_forms.specs.Slots.{operand, set_slot}
use Rattle.body_definition.specs.Plain.{call_helper, bytes_stmt, by_way}

-- a truth value is an u32
abbrev pub as_value : Bool → tree.Expr → tree.Expr
as_value is_truth e = if is_truth then tree.To32 e else e

abbrev pub eqz_stmt : ValType → ℕ → tree.Stmt
eqz_stmt t h = set_slot type.I32 h (tree.To32 (tree.Op op.Eq (operand t h) (number t 0)))

abbrev pub unary_stmt : ValType → ValType → NumOp → ℕ → tree.Stmt
unary_stmt from to o h = call_helper (Some (slot to h)) (helper.Num o) (tree.Value (operand from h) ∷ [])

abbrev pub wrap_stmt : ℕ → tree.Stmt
wrap_stmt h = set_slot type.I32 h (tree.To32 (operand type.I64 h))

abbrev pub extend_stmt : ℕ → tree.Stmt
extend_stmt h = set_slot type.I64 h (tree.To64 (operand type.I32 h))

abbrev pub load_stmt : Module → LoadOp → ValType → ℕ → ℕ → tree.Stmt
load_stmt m o t offset h = call_helper
    (Some (slot t h))
    (helper.Load o)
    (memory_arg m ∷ tree.Value (operand type.I32 h) ∷ tree.Value (number type.I32 offset) ∷ [])

abbrev pub store_stmt : Module → StoreOp → ValType → ℕ → ℕ → tree.Stmt
store_stmt m o t offset h = call_helper
    None
    (helper.Store o)
    (memory_arg m ∷ tree.Value (operand type.I32 h) ∷ tree.Value (number type.I32 offset) ∷ tree.Value (operand t (1 + h)) ∷ [])

abbrev pub size_stmt : Module → ℕ → tree.Stmt
size_stmt m h = call_helper (Some (slot type.I32 h)) helper.Size (memory_arg m ∷ [])

abbrev pub grow_stmt : Module → ℕ → tree.Stmt
grow_stmt m h = tree.Call
    (Some (slot type.I32 h))
    (tree.Called (codes "w2c_mem_grow"))
    (memory_arg m ∷ tree.Value (operand type.I32 h) ∷ [])

-- its statement, where its operands stand from the height h on
abbrev pub step_stmt : Module → ℕ → Step → tree.Stmt
step_stmt m h (step.Const32 n) = set_slot type.I32 h (number type.I32 n)
step_stmt m h (step.Const64 n) = set_slot type.I64 h (number type.I64 n)
step_stmt m h (step.Eqz t) = eqz_stmt t h
step_stmt m h (step.Compare t w) = by_way w t type.I32 h (as_value true)
step_stmt m h (step.Unary t o) = unary_stmt t t o h
step_stmt m h (step.Binary t w) = by_way w t t h (as_value false)
step_stmt m h step.Wrap = wrap_stmt h
step_stmt m h step.ExtendS = unary_stmt type.I32 type.I64 num.I64ExtendI32S h
step_stmt m h step.ExtendU = extend_stmt h
step_stmt m h (step.Load o t offset) = load_stmt m o t offset h
step_stmt m h (step.Store o t offset) = store_stmt m o t offset h
step_stmt m h step.Size = size_stmt m h
step_stmt m h step.Grow = grow_stmt m h
step_stmt m h step.Copy = bytes_stmt m helper.Copy h
step_stmt m h step.Fill = bytes_stmt m helper.Fill h
