-- The instructions that take operands and give a value by one statement: how each is done, which helper it calls, how many operands it
-- takes, and of what type its value is.
use Rattle.std.specs.Prelude.{ℕ, Option, Some, None}
use Rattle.w2c_base.specs.declared.value.ValType.{ValType}
use Rattle.w2c_base.specs.declared.value.ValType.TheVariants as type
use Rattle.w2c_base.specs.Values.{pattern_of}
use Rattle.wasm_tree.specs.Instructions as wasm
use Rattle.wasm_tree.specs.Accesses.{load_access, store_access, extend_type}
use Rattle.wasm_tree.specs.Parts.{parts_of}
use Rattle.wasm_tree.specs.declared.operators.AccessOp.{AccessOp}
use Rattle.wasm_tree.specs.declared.operators.AccessOp.TheVariants as access
use Rattle.wasm_tree.specs.declared.operators.Numeric.{Numeric}
use Rattle.wasm_tree.specs.declared.operators.Numeric.TheVariants as numeric
use Rattle.wasm_tree.specs.declared.operators.Parts.{Parts}
use Rattle.wasm_tree.specs.declared.operators.Parts.TheVariants as parts
use Rattle.c_helpers.specs.declared.operation.NumOp.TheVariants as num
use Rattle.c_helpers.specs.declared.operation.Helper.{Helper}
use Rattle.c_helpers.specs.declared.operation.Helper.TheVariants as helper
use Rattle.c_helpers.specs.declared.steps.Step.{Step}
use Rattle.c_helpers.specs.declared.steps.Step.TheVariants as step
use Rattle.c_helpers.specs.Ways.{helper_of_way, unary_helper, extend_helper, binary_way, compare_way}

abbrev pub numeric_step : Numeric → Step
numeric_step (numeric.Eqz t) = step.Eqz t
numeric_step (numeric.Compare t o) = step.Compare t (compare_way t o)
numeric_step (numeric.Unary t o) = step.Unary t (unary_helper t o)
numeric_step (numeric.Binary t o) = step.Binary t (binary_way t o)
numeric_step numeric.I32WrapI64 = step.Wrap
numeric_step numeric.I64ExtendI32S = step.ExtendS
numeric_step numeric.I64ExtendI32U = step.ExtendU
numeric_step (numeric.Extend o) = step.Unary (extend_type o) (extend_helper o)

abbrev pub access_step : AccessOp → ℕ → Step
access_step (access.Load o) offset = step.Load o (load_access o).ty offset
access_step (access.Store o) offset = step.Store o (store_access o).ty offset

abbrev pub operator_step : Parts → Option Step
operator_step (parts.Access o arg) = Some (access_step o arg.offset)
operator_step (parts.Numeric o) = Some (numeric_step o)
operator_step _ = None

abbrev pub step_of : wasm.Kind → Option Step
step_of (wasm.I32Const z) = Some (step.Const32 (pattern_of 32 z))
step_of (wasm.I64Const z) = Some (step.Const64 (pattern_of 64 z))
step_of wasm.MemorySize = Some step.Size
step_of wasm.MemoryGrow = Some step.Grow
step_of wasm.MemoryCopy = Some step.Copy
step_of wasm.MemoryFill = Some step.Fill
step_of kind = operator_step (parts_of kind)

-- the helper that it calls
abbrev pub step_helper : Step → Option Helper
step_helper (step.Compare t w) = helper_of_way w
step_helper (step.Unary t o) = Some (helper.Num o)
step_helper (step.Binary t w) = helper_of_way w
step_helper step.ExtendS = Some (helper.Num num.I64ExtendI32S)
step_helper (step.Load o t offset) = Some (helper.Load o)
step_helper (step.Store o t offset) = Some (helper.Store o)
step_helper step.Size = Some helper.Size
step_helper step.Copy = Some helper.Copy
step_helper step.Fill = Some helper.Fill
step_helper _ = None

-- and that of an indirect call, which is no such step
abbrev pub element_for : wasm.Kind → Option Helper
element_for (wasm.CallIndirect type_index) = Some helper.Element
element_for _ = None

-- how many operands it takes
abbrev pub taken : Step → ℕ
taken (step.Const32 n) = 0
taken (step.Const64 n) = 0
taken (step.Compare t w) = 2
taken (step.Binary t w) = 2
taken (step.Store o t offset) = 2
taken step.Size = 0
taken step.Copy = 3
taken step.Fill = 3
taken _ = 1

-- the type of its value
abbrev pub given : Step → Option ValType
given (step.Const32 n) = Some type.I32
given (step.Const64 n) = Some type.I64
given (step.Eqz t) = Some type.I32
given (step.Compare t w) = Some type.I32
given (step.Unary t o) = Some t
given (step.Binary t w) = Some t
given step.Wrap = Some type.I32
given step.ExtendS = Some type.I64
given step.ExtendU = Some type.I64
given (step.Load o t offset) = Some t
given (step.Store o t offset) = None
given step.Size = Some type.I32
given step.Grow = Some type.I32
given step.Copy = None
given step.Fill = None
