use Rattle.wasm_binary.proofs.Common.{sym, refl, ap, ◌∙◌, subst, rules, form_in, a_sub_opcode, a_type, a_zero, an_i32, an_i64, labels}
use Rattle.wasm_binary.proofs.Common.{row_of, BrTable, CallIndirect, I32Const, I64Const, MemoryGrow, MemorySize, kind_tree, as_kind, Fails}
use Rattle.wasm_binary.proofs.Common.{at}
use Rattle.wasm_spelling.specs.Steps.{reads}
use Rattle.wasm_spelling.specs.Reading.{form_at}
use Rattle.wasm_binary.proofs.Instructions.{by_opcode, by_op, plain_is}
use Rattle.wasm_binary.proofs.Kept.{viewed}
use Rattle.wasm_binary.proofs.code.instruction.Goals as goal

pub returns-in-Some : goal.returns-in-Some
returns-in-Some c =
    by_op as_kind c.with_operator.result c.args.place c.args.opcode c.in-Some.op (at c.args.rest) c.in-Some.ensures.some
    c.with_operator.ensures

pub returns-in-14 : goal.returns-in-14
returns-in-14 c =
    by_opcode as_kind c.branch_table.result c.args.place c.args.opcode 14 (labels BrTable) (at c.args.rest) c.in-14.is refl
    c.branch_table.ensures

pub returns-in-17 : goal.returns-in-17
returns-in-17 c =
    by_opcode as_kind c.indirect_call.result c.args.place c.args.opcode 17 (a_type CallIndirect) (at c.args.rest) c.in-17.is refl
    c.indirect_call.ensures

pub returns-in-63 : goal.returns-in-63
unfolding form_at reads
returns-in-63 c =
    by_opcode as_kind c.behind.result c.args.place c.args.opcode 63 (a_zero MemorySize) (at c.args.rest) c.in-63.is refl
    (viewed kind_tree _ c.behind.result _ (c.behind.ensures _ c.read.ensures))

pub returns-in-64 : goal.returns-in-64
unfolding form_at reads
returns-in-64 c =
    by_opcode as_kind c.behind-in-64.result c.args.place c.args.opcode 64 (a_zero MemoryGrow) (at c.args.rest) c.in-64.is refl
    (viewed kind_tree _ c.behind-in-64.result _ (c.behind-in-64.ensures _ c.read-in-64.ensures))

pub returns-in-Ok : goal.returns-in-Ok
unfolding form_at reads
returns-in-Ok c =
    plain_is c.args.place c.args.opcode (an_i32 I32Const) (at c.args.rest) (ap (λ n. form_in (row_of n)) c.in-65.is) ∙ search rules

pub returns-in-Err : goal.returns-in-Err
unfolding form_at reads
returns-in-Err c =
    subst (Fails c.in-Err.fault)
    (sym (plain_is c.args.place c.args.opcode (an_i32 I32Const) (at c.args.rest) (ap (λ n. form_in (row_of n)) c.in-65.is)))
    (search rules)

pub returns-in-Ok-signed64 : goal.returns-in-Ok-signed64
unfolding form_at reads
returns-in-Ok-signed64 c =
    plain_is c.args.place c.args.opcode (an_i64 I64Const) (at c.args.rest) (ap (λ n. form_in (row_of n)) c.in-66.is) ∙ search rules

pub returns-in-Err-signed64 : goal.returns-in-Err-signed64
unfolding form_at reads
returns-in-Err-signed64 c =
    subst (Fails c.in-Err-signed64.fault)
    (sym (plain_is c.args.place c.args.opcode (an_i64 I64Const) (at c.args.rest) (ap (λ n. form_in (row_of n)) c.in-66.is)))
    (search rules)

pub returns-in-252 : goal.returns-in-252
returns-in-252 c =
    by_opcode as_kind c.with_sub_opcode.result c.args.place c.args.opcode 252 a_sub_opcode (at c.args.rest) c.in-252.is refl
    c.with_sub_opcode.ensures
