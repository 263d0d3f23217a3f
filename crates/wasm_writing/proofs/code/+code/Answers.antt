use Rattle.wasm_writing.proofs.Common.{Option, sym, ap, ◌∙◌, subst, kind_tree, byte, instr_fields, Puts}
use Rattle.wasm_tree.specs.declared.operators.Kind.{Kind as RustKind}
use Rattle.wasm_tree.specs.declared.operators.Kind.TheVariants as kind
use Rattle.wasm_tree.specs.declared.code.ElsePart.{ElsePart}
use Rattle.wasm_writing.proofs.Codes.{instrs_more, puts_access, puts_block, puts_branches, puts_index, puts_no_room, puts_numeric}
use Rattle.wasm_writing.proofs.Codes.{puts_simple}
use Rattle.wasm_writing.proofs.code.+code.Goals as goal

pub block-returns-then-room-eq0 : goal.block-returns-then-room-eq0
block-returns-then-room-eq0 t c =
    λ end_place. puts_no_room c.args.room (byte c.args.opcode) _ _ _ _ c.if-room-eq0.true c.byte.ensures c.refuse.ensures

pub block-returns : goal.block-returns
block-returns t c = λ end_place.
    puts_block c.args.room c.args.opcode c.args.ty c.args.code.now end_place _ _ _ _ _ c.if-room-eq0.false c.byte.ensures
    c.block_type.ensures c.instructions.ensures c.byte-2.ensures

pub branches-returns-then-room-eq0 : goal.branches-returns-then-room-eq0
branches-returns-then-room-eq0 t c =
    λ else_place end_place. puts_no_room c.args.room (byte 0x04) _ _ _ _ c.if-room-eq0.true c.byte.ensures c.refuse.ensures

pub branches-returns : goal.branches-returns
branches-returns t c = λ else_place end_place.
    puts_branches c.args.room c.args.ty c.args.first.now c.args.second.now.code else_place
    end_place _ _ _ _ _ _ _ c.if-room-eq0.false c.byte.ensures
    c.block_type.ensures c.instructions.ensures c.byte-2.ensures c.instructions-2.ensures c.byte-3.ensures

pub other-returns-in-Block : goal.other-returns-in-Block
other-returns-in-Block t c =
    subst (λ (k : RustKind). Puts (instr_fields c.args.room (kind_tree k)) c.args.draft.now c.block.new.draft) (sym c.in-Block.is)
    (c.block.ensures c.in-Block.end_place)

pub other-returns-in-Loop : goal.other-returns-in-Loop
other-returns-in-Loop t c =
    subst (λ (k : RustKind). Puts (instr_fields c.args.room (kind_tree k)) c.args.draft.now c.block-in-Loop.new.draft) (sym c.in-Loop.is)
    (c.block-in-Loop.ensures c.in-Loop.end_place)

pub instruction-returns-in-Simple : goal.instruction-returns-in-Simple
instruction-returns-in-Simple t c =
    puts_simple c.args.room (kind_tree c.args.kind.now) c.in-Simple.op _ _ (sym c.in-Simple.is ∙ c.parts.ensures)
    (subst (λ b. Puts (byte b) c.args.draft.now c.byte.new.self) c.opcode.ensures c.byte.ensures)

pub instruction-returns-in-Index : goal.instruction-returns-in-Index
instruction-returns-in-Index t c =
    puts_index c.args.room (kind_tree c.args.kind.now) c.in-Index.op c.in-Index.index _ _ _ (sym c.in-Index.is ∙ c.parts.ensures)
    (subst (λ b. Puts (byte b) c.args.draft.now c.byte-in-Index.new.self) c.opcode-in-Index.ensures
    c.byte-in-Index.ensures) c.number.ensures

pub instruction-returns-in-Access : goal.instruction-returns-in-Access
instruction-returns-in-Access t c =
    puts_access c.args.room (kind_tree c.args.kind.now) c.in-Access.op c.in-Access.arg _ _ _ (sym c.in-Access.is ∙ c.parts.ensures)
    (subst (λ b. Puts (byte b) c.args.draft.now c.byte-in-Access.new.self) c.opcode-in-Access.ensures
    c.byte-in-Access.ensures) c.mem_arg.ensures

pub instruction-returns-in-Numeric : goal.instruction-returns-in-Numeric
instruction-returns-in-Numeric t c =
    puts_numeric c.args.room (kind_tree c.args.kind.now) c.in-Numeric.op _ _ (sym c.in-Numeric.is ∙ c.parts.ensures)
    (subst (λ b. Puts (byte b) c.args.draft.now c.byte-in-Numeric.new.self) c.opcode-in-Numeric.ensures c.byte-in-Numeric.ensures)

pub instructions-loop-instr-preserved : goal.instructions-loop-instr-preserved
instructions-loop-instr-preserved t c =
    instrs_more c.args.room c.as_slice-instr-items.result.now c.loop-instr.instr-index
    c.instr-item.result _ _ _ c.loop-instr-test.true c.instr-item.is c.loop-instr.invariant c.instruction.ensures

pub other-returns-in-None : goal.other-returns-in-None
other-returns-in-None t c =
    let i = c.in-If in
    subst (λ (k : RustKind). Puts (instr_fields c.args.room (kind_tree k)) c.args.draft.now c.block-in-None.new.draft)
    (sym (i.is ∙ ap (λ (o : Option ElsePart). kind.If i.result i.code o i.end_place) c.in-None.is)) (c.block-in-None.ensures i.end_place)

pub other-returns-in-Some : goal.other-returns-in-Some
other-returns-in-Some t c =
    let i = c.in-If in
    subst (λ (k : RustKind). Puts (instr_fields c.args.room (kind_tree k)) c.args.draft.now c.branches.new.draft)
    (sym (i.is ∙ ap (λ (o : Option ElsePart). kind.If i.result i.code o i.end_place) c.in-Some.is))
    (c.branches.ensures c.in-Some.part.place i.end_place)
