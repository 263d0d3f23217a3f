use Rattle.crun_state.proofs.Common.{Ok, option_copied, sym, ap, ◌∙◌, writes_text, wrote_nothing, cell_lines}
use Rattle.crun_state.proofs.Numbers.{found_named}
use Rattle.crun_state.proofs.memories.show_named.Goals as goal

pub returns-in-Some : goal.returns-in-Some
returns-in-Some g c =
    writes_text c.show_cell.result _ _ _ _ _ _
    (found_named (cell_lines c.args.unit) c.args.own.now.memories.items _ c.args.names.now c.args.k _ _ c.requires.there
    (sym (ap option_copied c.in-Some.is) ∙ c.at.ensures) c.as_slice.ensures.value)
    c.show_cell.ensures

pub returns-in-None : goal.returns-in-None
returns-in-None g c =
    writes_text (Ok tt) _ _ _ _ _ _
    (found_named (cell_lines c.args.unit) c.args.own.now.memories.items _ c.args.names.now c.args.k _ _ c.requires.there
    (sym (ap option_copied c.in-None.is) ∙ c.at.ensures) c.as_slice.ensures.value)
    (wrote_nothing tt _ _)
