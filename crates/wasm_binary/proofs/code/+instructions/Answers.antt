use Rattle.wasm_binary.proofs.Common.{◌-◌, Ok, sym, ap, ◌∙◌, subst, arith, err_from_is_err_and, Code, instr_tree, code_at, as_item, as_one}
use Rattle.wasm_binary.proofs.Common.{ender_of, head_of_opener, item_of, Gives, at}
use Rattle.wasm_binary.specs.declared.code.Item.{Item}
use Rattle.wasm_binary.proofs.Items.{Ahead, at_start, goes_on, stops, is_done, shorter, byte_fails, end_item, else_item, no_room}
use Rattle.wasm_binary.proofs.Items.{block_item, plain_item, alone_item, opens_as, opens_none}
use Rattle.wasm_tree.specs.Appended.{InstrTree, ◌+>◌}
use Rattle.wasm_binary.specs.Opcodes.{alone_tree}
use Rattle.wasm_binary.proofs.Blocks.{opened_is}
use Rattle.wasm_binary.proofs.code.+instructions.Goals as goal

pub instructions-loop-code-init : goal.instructions-loop-code-init
instructions-loop-code-init t c =
    subst (λ (code : Code). Ahead c.args.room c.args.may_else code (at c.args.rest) (code_at c.args.room c.args.may_else (at c.args.rest)))
    (sym c.new-code.ensures) (at_start c.args.room c.args.may_else (at c.args.rest))

pub instructions-returns-in_err-item : goal.instructions-returns-in_err-item
instructions-returns-in_err-item t c =
    let l = c.loop-code in
    let p = err_from_is_err_and c.from_residual-in_err-item.result c.from_residual-in_err-item.ensures.1 in
    rw (p.1, p.2) (stops c.args.room c.args.may_else l.code (at l.ahead) c.in_err-item.field-0.0
    (code_at c.args.room c.args.may_else (at c.args.rest)) c.in_err-item.ensures l.invariant)

pub instructions-returns-in-Closed : goal.instructions-returns-in-Closed
instructions-returns-in-Closed t c =
    let l = c.loop-code in
    is_done c.args.room c.args.may_else l.code (at l.ahead) (ender_of c.in-Closed.ender) (at c.in_ok-item.after)
    (code_at c.args.room c.args.may_else (at c.args.rest))
    (c.in_ok-item.ensures ∙ ap (λ (i : Item). Ok (item_of i, at c.in_ok-item.after)) c.in-Closed.is) l.invariant
    ∙ ap (λ (code : Code). Ok ((code, ender_of c.in-Closed.ender), at c.in_ok-item.after)) (sym c.fit.ensures)

pub instructions-loop-code-smaller-in-Some : goal.instructions-loop-code-smaller-in-Some
instructions-loop-code-smaller-in-Some t c =
    let l = c.loop-code in
    let instr : InstrTree = record { place = l.ahead.place; kind = alone_tree c.in-Some.op } in
    shorter c.args.room c.args.may_else (at l.ahead) instr (at c.in_ok-opcode.after)
    (alone_item c.args.room c.args.may_else (at l.ahead) c.in_ok-opcode.opcode instr.kind (at c.in_ok-opcode.after) c.in_ok-opcode.ensures
    c.in-Some.ensures)

pub instructions-loop-code-preserved-in-Some : goal.instructions-loop-code-preserved-in-Some
instructions-loop-code-preserved-in-Some t c =
    let l = c.loop-code in
    let total = code_at c.args.room c.args.may_else (at c.args.rest) in
    let instr : InstrTree = record { place = l.ahead.place; kind = alone_tree c.in-Some.op } in
    subst (λ (code : Code). Ahead c.args.room c.args.may_else code (at c.in_ok-opcode.after) total)
    (sym (c.in_ok-push.ensures.ok ∙ ap (λ k. l.code +> record { place = l.ahead.place; kind = k }) c.kind-kind.ensures))
    (goes_on c.args.room c.args.may_else l.code (at l.ahead) instr (at c.in_ok-opcode.after) total
    (alone_item c.args.room c.args.may_else (at l.ahead) c.in_ok-opcode.opcode instr.kind (at c.in_ok-opcode.after) c.in_ok-opcode.ensures
    c.in-Some.ensures) l.invariant)

pub instructions-returns-in_err-opcode : goal.instructions-returns-in_err-opcode
instructions-returns-in_err-opcode t c =
    let l = c.loop-code in
    let p = err_from_is_err_and c.from_residual.result c.from_residual.ensures.1 in
    rw (p.1, p.2) (stops c.args.room c.args.may_else l.code (at l.ahead) c.in_err-opcode.field-0.0
    (code_at c.args.room c.args.may_else (at c.args.rest))
    (byte_fails c.args.room c.args.may_else (at l.ahead) c.in_err-opcode.field-0.0 c.in_err-opcode.ensures) l.invariant)

pub instructions-loop-code-smaller : goal.instructions-loop-code-smaller
instructions-loop-code-smaller t c =
    let l = c.loop-code in
    shorter c.args.room c.args.may_else (at l.ahead) (instr_tree c.in-One.instr) (at c.in_ok-item.after)
    (c.in_ok-item.ensures ∙ ap (λ (i : Item). Ok (item_of i, at c.in_ok-item.after)) c.in-One.is)

pub instructions-loop-code-preserved : goal.instructions-loop-code-preserved
instructions-loop-code-preserved t c =
    let l = c.loop-code in
    let total = code_at c.args.room c.args.may_else (at c.args.rest) in
    subst (λ (code : Code). Ahead c.args.room c.args.may_else code (at c.in_ok-item.after) total) (sym c.in_ok-push-in-One.ensures.ok)
    (goes_on c.args.room c.args.may_else l.code (at l.ahead) (instr_tree c.in-One.instr) (at c.in_ok-item.after) total
    (c.in_ok-item.ensures ∙ ap (λ (i : Item). Ok (item_of i, at c.in_ok-item.after)) c.in-One.is) l.invariant)

pub next_item-returns-in_err-opcode : goal.next_item-returns-in_err-opcode
next_item-returns-in_err-opcode t c =
    let p = err_from_is_err_and c.from_residual.result c.from_residual.ensures.1 in
    rw (p.1, p.2) (byte_fails c.args.room c.args.may_else (at c.args.rest) c.in_err-opcode.field-0.0 c.in_err-opcode.ensures)

pub next_item-returns-then-opcode-eq11 : goal.next_item-returns-then-opcode-eq11
next_item-returns-then-opcode-eq11 t c =
    end_item c.args.room c.args.may_else (at c.args.rest) c.in_ok-opcode.opcode
    (at c.in_ok-opcode.rest) c.in_ok-opcode.ensures c.if-opcode-eq11.true

pub next_item-returns-then-is_else : goal.next_item-returns-then-is_else
next_item-returns-then-is_else t c =
    else_item c.args.room c.args.may_else (at c.args.rest) c.in_ok-opcode.opcode (at c.in_ok-opcode.rest) c.in_ok-opcode.ensures
    (sym c.is_else.ensures ∙ c.if-is_else.true)

pub next_item-returns-then-room-eq0 : goal.next_item-returns-then-room-eq0
next_item-returns-then-room-eq0 t c =
    no_room c.args.room c.args.may_else (at c.args.rest) c.in_ok-opcode.opcode (head_of_opener c.in-Some.opener)
    (at c.in_ok-opcode.rest) c.in_ok-opcode.ensures
    (opens_as c.in_ok-opcode.opcode (head_of_opener c.in-Some.opener) c.in-Some.ensures) c.if-room-eq0.true

pub next_item-returns-else-room-eq0 : goal.next_item-returns-else-room-eq0
next_item-returns-else-room-eq0 t c =
    let item =
    block_item c.args.room c.args.may_else (at c.args.rest) c.in_ok-opcode.opcode (head_of_opener c.in-Some.opener)
    (at c.in_ok-opcode.rest) c.in_ok-opcode.ensures (opens_as c.in_ok-opcode.opcode (head_of_opener c.in-Some.opener) c.in-Some.ensures)
    (omega (arith, c.if-room-eq0.false)) in
    subst (Gives as_item c.one.result)
    (ap (as_one c.args.rest.place) (opened_is (c.args.room - 1) c.in-Some.opener (at c.in_ok-opcode.rest)) ∙ sym item)
    (c.one.ensures _ c.opened.ensures)

pub next_item-returns-in-None : goal.next_item-returns-in-None
next_item-returns-in-None t c =
    let item =
    plain_item c.args.room c.args.may_else (at c.args.rest) c.in_ok-opcode.opcode
    (at c.in_ok-opcode.rest) c.in_ok-opcode.ensures c.if-opcode-eq11.false (sym c.is_else.ensures ∙ c.if-is_else.false)
    (opens_none c.in_ok-opcode.opcode c.in-None.ensures) in
    subst (Gives as_item c.one-in-None.result) (sym item) (c.one-in-None.ensures _ c.instruction.ensures)
