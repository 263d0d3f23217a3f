use Rattle.lin_mem.proofs.Common.{◌≡◌, ◌<◌, length, get_or, Some, None, sym, ap, ◌∙◌, arith, somes}
use Rattle.lin_mem.proofs.Full.{begun-more, get_or-begun, get_or-held, length-full}
use Rattle.lin_mem.proofs.page.give_back.Goals as goal

pub read-byte-requires : goal.read-byte-requires
read-byte-requires c =
    let cs = c.args.cells.slots in let i = c.loop-i.i in let full = c.requires.cells.1 in
    let lt : i < length cs = omega (arith, full.0) in
    let inside : i < length (somes cs) = omega (arith, length-full cs c.args.count full) in
    let held = get_or-held (somes cs) i inside in
    let is : get_or c.loop-i.cells.slots i None ≡ Some held.0 =
    ap (λ l. get_or l i None) c.loop-i.invariant.emptied ∙ get_or-begun None cs i None lt ∙ ap (λ l. get_or l i None) full.1 ∙ held.1 in
    (sym c.requires.cells.0 ∙ sym c.loop-i.invariant.at, (held.0, is))

pub loop-i-preserved : goal.loop-i-preserved
loop-i-preserved c =
    let cs = c.args.cells.slots in let i = c.loop-i.i in let full = c.requires.cells.1 in
    let lt : i < length cs = omega (arith, full.0) in
    record {
      at = c.read-byte.ensures.slots.0 ∙ c.loop-i.invariant.at;
      emptied =
          begun-more None cs c.loop-i.cells.slots c.read-byte.new.self.slots i lt c.loop-i.invariant.emptied c.read-byte.ensures.slots.1;
    }
