use Rattle.wasm_writing.proofs.Common.{None, Option, sym, subst, Start, start_content, Puts}
use Rattle.wasm_writing.proofs.Pieces.{does_not_hold, puts_none}
use Rattle.wasm_writing.proofs.sections.start.Goals as goal

pub returns-in-None : goal.returns-in-None
returns-in-None c =
    subst (λ (s : Option Start). Puts (start_content s) c.args.draft.now c.refuse.new.self) (sym c.in-None.is)
    (puts_none (start_content None) _ _ does_not_hold c.refuse.ensures)
