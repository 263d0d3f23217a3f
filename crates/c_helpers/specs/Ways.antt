-- How an operator is done: by an operator of C, by one that shifts, or by a helper; and the helper that an instruction calls (WebAssembly
-- Core 1.0, 2.4.1 to 2.4.4).
use Rattle.std.specs.Prelude.{Option, Some, None}
use Rattle.w2c_base.specs.declared.value.ValType.{ValType}
use Rattle.w2c_base.specs.declared.value.ValType.TheVariants as type
use Rattle.wasm_tree.specs.Instructions as wasm
use Rattle.wasm_tree.specs.declared.operators.UnaryOp.{UnaryOp}
use Rattle.wasm_tree.specs.declared.operators.UnaryOp.TheVariants as unary_op
use Rattle.wasm_tree.specs.declared.operators.BinaryOp.{BinaryOp}
use Rattle.wasm_tree.specs.declared.operators.BinaryOp.TheVariants as binary_op
use Rattle.wasm_tree.specs.declared.operators.CompareOp.{CompareOp}
use Rattle.wasm_tree.specs.declared.operators.CompareOp.TheVariants as comparison_op
use Rattle.wasm_tree.specs.declared.operators.ExtendOp.{ExtendOp}
use Rattle.wasm_tree.specs.declared.operators.ExtendOp.TheVariants as extension_op
use Rattle.c_tree.specs.declared.tree.COp.TheVariants as op
use Rattle.c_helpers.specs.declared.operation.NumOp.{NumOp}
use Rattle.c_helpers.specs.declared.operation.NumOp.TheVariants as num
use Rattle.c_helpers.specs.declared.operation.Helper.{Helper}
use Rattle.c_helpers.specs.declared.operation.Helper.TheVariants as helper
use Rattle.c_helpers.specs.declared.steps.Way.{Way}
use Rattle.c_helpers.specs.declared.steps.Way.TheVariants.{ByOperator, ByShift, ByHelper}

abbrev pub unary_helper : ValType → UnaryOp → NumOp
unary_helper type.I32 unary_op.Clz = num.I32Clz
unary_helper type.I32 unary_op.Ctz = num.I32Ctz
unary_helper type.I32 unary_op.Popcnt = num.I32Popcnt
unary_helper type.I64 unary_op.Clz = num.I64Clz
unary_helper type.I64 unary_op.Ctz = num.I64Ctz
unary_helper type.I64 unary_op.Popcnt = num.I64Popcnt

-- one of two helpers, by the type
abbrev pub by_type : ValType → NumOp → NumOp → Way
by_type type.I32 narrow wide = ByHelper narrow
by_type type.I64 narrow wide = ByHelper wide

abbrev pub binary_way : ValType → BinaryOp → Way
binary_way t binary_op.Add = ByOperator op.Add
binary_way t binary_op.Sub = ByOperator op.Sub
binary_way t binary_op.Mul = ByOperator op.Mul
binary_way t binary_op.DivS = by_type t num.I32DivS num.I64DivS
binary_way t binary_op.DivU = by_type t num.I32DivU num.I64DivU
binary_way t binary_op.RemS = by_type t num.I32RemS num.I64RemS
binary_way t binary_op.RemU = by_type t num.I32RemU num.I64RemU
binary_way t binary_op.And = ByOperator op.And
binary_way t binary_op.Or = ByOperator op.Or
binary_way t binary_op.Xor = ByOperator op.Xor
binary_way t binary_op.Shl = ByShift op.Shl
binary_way t binary_op.ShrS = by_type t num.I32ShrS num.I64ShrS
binary_way t binary_op.ShrU = ByShift op.Shr
binary_way t binary_op.Rotl = by_type t num.I32Rotl num.I64Rotl
binary_way t binary_op.Rotr = by_type t num.I32Rotr num.I64Rotr

abbrev pub compare_way : ValType → CompareOp → Way
compare_way t comparison_op.Eq = ByOperator op.Eq
compare_way t comparison_op.Ne = ByOperator op.Ne
compare_way t comparison_op.LtS = by_type t num.I32LtS num.I64LtS
compare_way t comparison_op.LtU = ByOperator op.Lt
compare_way t comparison_op.GtS = by_type t num.I32GtS num.I64GtS
compare_way t comparison_op.GtU = ByOperator op.Gt
compare_way t comparison_op.LeS = by_type t num.I32LeS num.I64LeS
compare_way t comparison_op.LeU = ByOperator op.Le
compare_way t comparison_op.GeS = by_type t num.I32GeS num.I64GeS
compare_way t comparison_op.GeU = ByOperator op.Ge

abbrev pub extend_helper : ExtendOp → NumOp
extend_helper extension_op.I32Extend8S = num.I32Extend8S
extend_helper extension_op.I32Extend16S = num.I32Extend16S
extend_helper extension_op.I64Extend8S = num.I64Extend8S
extend_helper extension_op.I64Extend16S = num.I64Extend16S
extend_helper extension_op.I64Extend32S = num.I64Extend32S

abbrev pub helper_of_way : Way → Option Helper
helper_of_way (ByOperator o) = None
helper_of_way (ByShift o) = None
helper_of_way (ByHelper which) = Some (helper.Num which)

-- the helper that an instruction calls
abbrev pub helper_for : wasm.Kind → Option Helper
helper_for (wasm.Unary t o) = Some (helper.Num (unary_helper t o))
helper_for (wasm.Binary t o) = helper_of_way (binary_way t o)
helper_for (wasm.Compare t o) = helper_of_way (compare_way t o)
helper_for wasm.I64ExtendI32S = Some (helper.Num num.I64ExtendI32S)
helper_for (wasm.Extend o) = Some (helper.Num (extend_helper o))
helper_for (wasm.Load o arg) = Some (helper.Load o)
helper_for (wasm.Store o arg) = Some (helper.Store o)
helper_for wasm.MemorySize = Some helper.Size
helper_for wasm.MemoryCopy = Some helper.Copy
helper_for wasm.MemoryFill = Some helper.Fill
helper_for (wasm.CallIndirect type_index) = Some helper.Element
helper_for _ = None
