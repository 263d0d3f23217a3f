use Rattle.crun_state.proofs.Common.{ap, writes_text, pages_and_rows}
use Rattle.lin_mem.specs.Linear.{Linear}
use Rattle.crun_state.proofs.memories.show_no_bytes.Goals as goal

pub returns-in-Ok : goal.returns-in-Ok
returns-in-Ok g c =
    writes_text c.show_pages.result _ _ _ _ _ _
    (ap (λ (m : Linear). pages_and_rows c.args.unit c.args.name.now m.bytes) c.in-Ok.ensures)
    c.show_pages.ensures
