use Rattle.lin_mem.proofs.Common.{sym, ap, ◌∙◌, arith, somes}
use Rattle.lin_mem.proofs.Full.{somes-map, whole-full}
use Rattle.lin_mem.proofs.page.whole.Goals as goal

pub slice-requires : goal.slice-requires
slice-requires c =
    let cs = c.args.cells.now.slots in
    (c.requires.base, (omega (arith, c.requires.full.0), (somes cs, whole-full cs c.args.count c.requires.full)))

pub returns : goal.returns
returns c =
    let cs = c.args.cells.now.slots in
    sym (somes-map c.slice.result.now) ∙ ap somes (sym c.slice.ensures ∙ whole-full cs c.args.count c.requires.full) ∙ somes-map (somes cs)
