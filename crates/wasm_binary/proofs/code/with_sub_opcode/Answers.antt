use Rattle.wasm_binary.proofs.Common.{sym, subst, kind_tree, as_kind, Gives, at}
use Rattle.wasm_binary.specs.Opcodes.{prefixed_row}
use Rattle.wasm_binary.proofs.Instructions.{by_sub_opcode}
use Rattle.wasm_binary.proofs.Kept.{viewed}
use Rattle.wasm_binary.proofs.code.with_sub_opcode.Goals as goal

pub returns-in-Some : goal.returns-in-Some
returns-in-Some c =
    let n = c.in_ok-sub_opcode.sub_opcode in
    let found = c.in-Some.found in
    subst (Gives as_kind c.behind.result)
    (sym (by_sub_opcode (at c.args.rest) n (at c.in_ok-sub_opcode.rest) (prefixed_row n found) c.in_ok-sub_opcode.ensures
    (sym c.in-Some.ensures)))
    (viewed kind_tree found.kind c.behind.result _ (c.behind.ensures _ c.times-zeros.ensures))
