-- The tables of helpers: what each operator on numbers stands for, at which type (WebAssembly Core 1.0, 4.3.2),
-- and how the names of helpers are made.
use Rattle.std.specs.Prelude.{ℕ, List, codes}
use Rattle.w2c_base.specs.declared.value.ValType.{ValType}
use Rattle.w2c_base.specs.declared.value.ValType.TheVariants as type
use Rattle.wasm_tree.specs.declared.operators.UnaryOp.{UnaryOp}
use Rattle.wasm_tree.specs.declared.operators.UnaryOp.TheVariants as unary_op
use Rattle.wasm_tree.specs.declared.operators.BinaryOp.{BinaryOp}
use Rattle.wasm_tree.specs.declared.operators.BinaryOp.TheVariants as binary_op
use Rattle.wasm_tree.specs.declared.operators.CompareOp.{CompareOp}
use Rattle.wasm_tree.specs.declared.operators.CompareOp.TheVariants as comparison_op
use Rattle.wasm_tree.specs.declared.operators.LoadOp.{LoadOp}
use Rattle.wasm_tree.specs.declared.operators.LoadOp.TheVariants as load
use Rattle.wasm_tree.specs.declared.operators.StoreOp.{StoreOp}
use Rattle.wasm_tree.specs.declared.operators.StoreOp.TheVariants as store
use Rattle.c_helpers.specs.declared.operation.NumOp.{NumOp}
use Rattle.c_helpers.specs.declared.operation.NumOp.TheVariants as num
use Rattle.c_helpers.specs.declared.operation.Form.{Form}
use Rattle.c_helpers.specs.declared.operation.Form.TheVariants.{DivS, DivU, RemS, RemU, ShrS, Rotl, Rotr, Clz, Ctz, Popcnt, LtS, GtS, LeS}
use Rattle.c_helpers.specs.declared.operation.Form.TheVariants.{GeS, ExtendS, Extend8S, Extend16S, Extend32S}
use Rattle.c_helpers.specs.declared.operation.Row.{Row}

abbrev row : ValType → Form → Row
row t form = record { ty = t; form = form }

-- the type and the form of an operator
abbrev pub row_of : NumOp → Row
row_of num.I32DivS = row type.I32 DivS
row_of num.I32DivU = row type.I32 DivU
row_of num.I32RemS = row type.I32 RemS
row_of num.I32RemU = row type.I32 RemU
row_of num.I32ShrS = row type.I32 ShrS
row_of num.I32Rotl = row type.I32 Rotl
row_of num.I32Rotr = row type.I32 Rotr
row_of num.I32Clz = row type.I32 Clz
row_of num.I32Ctz = row type.I32 Ctz
row_of num.I32Popcnt = row type.I32 Popcnt
row_of num.I32LtS = row type.I32 LtS
row_of num.I32GtS = row type.I32 GtS
row_of num.I32LeS = row type.I32 LeS
row_of num.I32GeS = row type.I32 GeS
row_of num.I64DivS = row type.I64 DivS
row_of num.I64DivU = row type.I64 DivU
row_of num.I64RemS = row type.I64 RemS
row_of num.I64RemU = row type.I64 RemU
row_of num.I64ShrS = row type.I64 ShrS
row_of num.I64Rotl = row type.I64 Rotl
row_of num.I64Rotr = row type.I64 Rotr
row_of num.I64Clz = row type.I64 Clz
row_of num.I64Ctz = row type.I64 Ctz
row_of num.I64Popcnt = row type.I64 Popcnt
row_of num.I64LtS = row type.I64 LtS
row_of num.I64GtS = row type.I64 GtS
row_of num.I64LeS = row type.I64 LeS
row_of num.I64GeS = row type.I64 GeS
row_of num.I64ExtendI32S = row type.I64 ExtendS
row_of num.I32Extend8S = row type.I32 Extend8S
row_of num.I32Extend16S = row type.I32 Extend16S
row_of num.I64Extend8S = row type.I64 Extend8S
row_of num.I64Extend16S = row type.I64 Extend16S
row_of num.I64Extend32S = row type.I64 Extend32S

-- the operator of a form. `Extend` extends so many low bits of a number by their sign
pub data Operator : Type 0 where
  Unary : UnaryOp → Operator
  Binary : BinaryOp → Operator
  Compare : CompareOp → Operator
  ExtendI32S : Operator
  Extend : (width : ℕ) → Operator

abbrev pub operator_of : Form → Operator
operator_of DivS = Binary binary_op.DivS
operator_of DivU = Binary binary_op.DivU
operator_of RemS = Binary binary_op.RemS
operator_of RemU = Binary binary_op.RemU
operator_of ShrS = Binary binary_op.ShrS
operator_of Rotl = Binary binary_op.Rotl
operator_of Rotr = Binary binary_op.Rotr
operator_of Clz = Unary unary_op.Clz
operator_of Ctz = Unary unary_op.Ctz
operator_of Popcnt = Unary unary_op.Popcnt
operator_of LtS = Compare comparison_op.LtS
operator_of GtS = Compare comparison_op.GtS
operator_of LeS = Compare comparison_op.LeS
operator_of GeS = Compare comparison_op.GeS
operator_of ExtendS = ExtendI32S
operator_of Extend8S = Extend 8
operator_of Extend16S = Extend 16
operator_of Extend32S = Extend 32

abbrev pub prefix_of : ValType → List ℕ
prefix_of type.I32 = codes "i32_"
prefix_of type.I64 = codes "i64_"

abbrev pub form_name : Form → List ℕ
form_name DivS = codes "div_s"
form_name DivU = codes "div_u"
form_name RemS = codes "rem_s"
form_name RemU = codes "rem_u"
form_name ShrS = codes "shr_s"
form_name Rotl = codes "rotl"
form_name Rotr = codes "rotr"
form_name Clz = codes "clz"
form_name Ctz = codes "ctz"
form_name Popcnt = codes "popcnt"
form_name LtS = codes "lt_s"
form_name GtS = codes "gt_s"
form_name LeS = codes "le_s"
form_name GeS = codes "ge_s"
form_name ExtendS = codes "extend_i32_s"
form_name Extend8S = codes "extend8_s"
form_name Extend16S = codes "extend16_s"
form_name Extend32S = codes "extend32_s"

abbrev pub load_name : LoadOp → List ℕ
load_name load.I32Load = codes "i32_load"
load_name load.I64Load = codes "i64_load"
load_name load.I32Load8S = codes "i32_load8_s"
load_name load.I32Load8U = codes "i32_load8_u"
load_name load.I32Load16S = codes "i32_load16_s"
load_name load.I32Load16U = codes "i32_load16_u"
load_name load.I64Load8S = codes "i64_load8_s"
load_name load.I64Load8U = codes "i64_load8_u"
load_name load.I64Load16S = codes "i64_load16_s"
load_name load.I64Load16U = codes "i64_load16_u"
load_name load.I64Load32S = codes "i64_load32_s"
load_name load.I64Load32U = codes "i64_load32_u"

abbrev pub store_name : StoreOp → List ℕ
store_name store.I32Store = codes "i32_store"
store_name store.I64Store = codes "i64_store"
store_name store.I32Store8 = codes "i32_store8"
store_name store.I32Store16 = codes "i32_store16"
store_name store.I64Store8 = codes "i64_store8"
store_name store.I64Store16 = codes "i64_store16"
store_name store.I64Store32 = codes "i64_store32"
