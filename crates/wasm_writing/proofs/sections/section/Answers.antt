use Rattle.wasm_writing.proofs.Common.{sym, ◌∙◌, subst, byte, Puts, part_is}
use Rattle.wasm_writing.proofs.PartLemmas.{puts_empty, puts_full}
use Rattle.wasm_writing.proofs.sections.section.Goals as goal

pub returns-then-is_empty : goal.returns-then-is_empty
returns-then-is_empty c = puts_empty c.args.m.now (part_is c.args.part) _ (sym c.is_empty.ensures ∙ c.if-is_empty.true)

pub returns : goal.returns
returns c =
    puts_full c.args.m.now (part_is c.args.part)
    c.content.new.draft _ _ _ _ (sym c.is_empty.ensures ∙ c.if-is_empty.false) c.content.ensures
    (subst (λ b. Puts (byte b) c.args.draft.now c.byte.new.self) c.id.ensures c.byte.ensures) c.size.ensures c.content-2.ensures
