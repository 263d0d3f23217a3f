use Rattle.wasm_writing.proofs.Common.{List, length, subst, Run, byte, number, most_blocks, code_fields, end_byte, runs, Puts}
use Rattle.wasm_writing.proofs.Codes.{puts_here}
use Rattle.wasm_writing.proofs.Lists.{puts_both}
use Rattle.wasm_writing.proofs.bodies.body_content.Goals as goal

pub returns-clause-puts : goal.returns-clause-puts
returns-clause-puts c =
    let b = c.args.body.now in
    let counted = subst (λ n. Puts (number n) c.args.draft.now c.count.new.draft) c.len.ensures c.count.ensures in
    let locals =
    subst (λ (rs : List Run). Puts (runs 0 c.args.before rs) c.count.new.draft c.locals.new.draft) c.as_slice.ensures
    c.locals.ensures.puts in
    puts_both (number (length b.runs))
    (λ rest. runs 0 c.args.before b.runs (code_fields most_blocks b.code (end_byte b.end_place rest))) _ _ _ counted
    (puts_both (runs 0 c.args.before b.runs) (λ rest. code_fields most_blocks b.code (end_byte b.end_place rest)) _ _ _ locals
    (puts_both (code_fields most_blocks b.code)
    (end_byte b.end_place) _ _ _ c.instructions.ensures (puts_here b.end_place (byte 0x0B) _ _ c.byte.ensures)))
