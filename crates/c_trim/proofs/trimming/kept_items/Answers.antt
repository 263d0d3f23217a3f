use Rattle.c_trim.proofs.Common.{[], ◌∷◌, ◌++◌, map, take, if◌then◌else◌, sym, ap, ◌∙◌, filter-append, item_of, is_reached, kept, stays}
use Rattle.w2c_base.proofs.Places.{mapped_next}
use Rattle.c_trim.proofs.trimming.kept_items.Goals as goal

pub loop-item-preserved : goal.loop-item-preserved
loop-item-preserved c =
    let i = c.loop-item.item-index in
    let item = c.item-item.result in
    let test = stays (is_reached c.args.table.now c.args.marks.now.flags.items) in
    c.in_ok-keep.ensures
    ∙ ap (λ l. l ++ (if test (item_of item) then item_of item ∷ [] else [])) c.loop-item.invariant
    ∙ sym (filter-append test (take i (map item_of c.args.items.now)) (item_of item ∷ []))
    ∙ sym (ap (kept (is_reached c.args.table.now c.args.marks.now.flags.items))
    (mapped_next item_of c.args.items.now i item c.loop-item-test.true c.item-item.is))
