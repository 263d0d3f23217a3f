use Rattle.wasm_writing.proofs.Common.{None, Option, sym, subst, DataCount, data_count_content, Puts}
use Rattle.wasm_writing.proofs.Pieces.{does_not_hold, puts_none}
use Rattle.wasm_writing.proofs.sections.data_count.Goals as goal

pub returns-in-None : goal.returns-in-None
returns-in-None c =
    subst (λ (d : Option DataCount). Puts (data_count_content d c.args.found) c.args.draft.now c.refuse.new.self) (sym c.in-None.is)
    (puts_none (data_count_content None c.args.found) _ _ does_not_hold c.refuse.ensures)
