use Rattle.c_link.proofs.Common.{map, take, sym, ap, take_all, length-map, mapped_at, item_of, unit_offers}
use Rattle.c_link.proofs.Tables.{adds_none, adds_more, adds_as, item_added}
use Rattle.c_link.proofs.offers.Offers.with_unit.Goals as goal

pub loop-item-init : goal.loop-item-init
loop-item-init c = adds_none _

pub loop-item-preserved : goal.loop-item-preserved
loop-item-preserved c =
    let items = map item_of c.args.items.now in
    let i = c.loop-item.item-index in
    adds_as _ _ _ _ (item_added c.args.number items i (item_of c.item-item.result)
    (mapped_at item_of c.args.items.now i c.item-item.result c.loop-item-test.true c.item-item.is))
    (adds_more _ _ _ (unit_offers (c.args.number, take i items)) _ c.loop-item.invariant c.in_ok-enter_item.ensures)

pub returns : goal.returns
returns c = adds_as _ _ _ _ (ap (λ xs. unit_offers (c.args.number, xs)) (sym (take_all c.loop-item.item-index
    (map item_of c.args.items.now) (rw length-map c.loop-item-test.false)))) c.loop-item.invariant
