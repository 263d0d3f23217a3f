-- Every helper does what its instruction does.
use Rattle.c_prelude.proofs.Common.{◌≡◌, sym, subst, helper_of, number_helper, DoesItsInstruction, DoesOperator, operator_of, row_of}
use Rattle.c_prelude.proofs.Common.{Helper, NumOp}
use Rattle.w2c_base.specs.declared.value.ValType.TheVariants as type
use Rattle.c_tree.specs.Tree as tree
use Rattle.c_helpers.specs.declared.operation.NumOp.TheVariants as num
use Rattle.c_helpers.specs.declared.operation.Helper.TheVariants as helper
use Rattle.c_prelude.proofs.Division.{div_u_right, rem_u_right, div_s_right, rem_s_right}
use Rattle.c_prelude.proofs.Comparisons.{lt_s_right, gt_s_right, le_s_right, ge_s_right}
use Rattle.c_prelude.proofs.Shifts.{shr_s_right, rotl_right, rotr_right}
use Rattle.c_prelude.proofs.Extensions.{extend_right, extend8_right_32, extend16_right_32, extend8_right_64, extend16_right_64}
use Rattle.c_prelude.proofs.Extensions.{extend32_right_64}
use Rattle.c_prelude.proofs.Zeros.{clz_right, ctz_right}
use Rattle.c_prelude.proofs.Ones.{popcnt_right}
use Rattle.c_prelude.proofs.Memories.{load_right, store_right, size_right}
use Rattle.c_prelude.proofs.Tables.{element_right}
use Rattle.c_prelude.proofs.Bytes.{copy_right, fill_right}

number_right : (op : NumOp) → DoesOperator (number_helper (row_of op)) (row_of op).ty (operator_of (row_of op).form)
number_right num.I32DivS = div_s_right type.I32
number_right num.I32DivU = div_u_right type.I32
number_right num.I32RemS = rem_s_right type.I32
number_right num.I32RemU = rem_u_right type.I32
number_right num.I32ShrS = shr_s_right type.I32
number_right num.I32Rotl = rotl_right type.I32
number_right num.I32Rotr = rotr_right type.I32
number_right num.I32Clz = clz_right type.I32
number_right num.I32Ctz = ctz_right type.I32
number_right num.I32Popcnt = popcnt_right type.I32
number_right num.I32LtS = lt_s_right type.I32
number_right num.I32GtS = gt_s_right type.I32
number_right num.I32LeS = le_s_right type.I32
number_right num.I32GeS = ge_s_right type.I32
number_right num.I64DivS = div_s_right type.I64
number_right num.I64DivU = div_u_right type.I64
number_right num.I64RemS = rem_s_right type.I64
number_right num.I64RemU = rem_u_right type.I64
number_right num.I64ShrS = shr_s_right type.I64
number_right num.I64Rotl = rotl_right type.I64
number_right num.I64Rotr = rotr_right type.I64
number_right num.I64Clz = clz_right type.I64
number_right num.I64Ctz = ctz_right type.I64
number_right num.I64Popcnt = popcnt_right type.I64
number_right num.I64LtS = lt_s_right type.I64
number_right num.I64GtS = gt_s_right type.I64
number_right num.I64LeS = le_s_right type.I64
number_right num.I64GeS = ge_s_right type.I64
number_right num.I64ExtendI32S = extend_right
number_right num.I32Extend8S = extend8_right_32
number_right num.I32Extend16S = extend16_right_32
number_right num.I64Extend8S = extend8_right_64
number_right num.I64Extend16S = extend16_right_64
number_right num.I64Extend32S = extend32_right_64

pub helper_right : (which : Helper) → DoesItsInstruction which (helper_of which)
helper_right (helper.Num op) = number_right op
helper_right (helper.Load op) = load_right op
helper_right (helper.Store op) = store_right op
helper_right helper.Size = size_right
helper_right helper.Element = element_right
helper_right helper.Copy = copy_right
helper_right helper.Fill = fill_right

-- the same of a function that is the helper
pub made_right : (which : Helper) (f : tree.Func) → f ≡ helper_of which → DoesItsInstruction which f
made_right which f e = subst (DoesItsInstruction which) (sym e) (helper_right which)
