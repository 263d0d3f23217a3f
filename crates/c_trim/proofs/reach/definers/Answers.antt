use Rattle.c_trim.proofs.Common.{◌≡◌, ◌+◌, ◌≤◌, map, length, take, if◌then◌else◌, Some, None, sym, ap, ◌∙◌, arith, length-map, option_or}
use Rattle.c_trim.proofs.Common.{defines, item_of, definer}
use Rattle.w2c_base.proofs.Places.{mapped_next}
use Rattle.c_trim.proofs.Marking.{length_take, position_push}
use Rattle.c_trim.proofs.reach.definers.Goals as goal

pub loop-i-preserved : goal.loop-i-preserved
loop-i-preserved c q =
    let items = c.args.items.now in
    let i = c.loop-i.i in
    let item = c.index-items-i.result in
    let long : i ≤ length (map item_of items) = rw length-map (omega arith) in
    c.in_ok-enter_item.ensures q
    ∙ ap (λ o. option_or o (if defines q (item_of item) then Some i else None)) (c.loop-i.invariant q)
    ∙ sym (ap (λ l. definer l q) (mapped_next item_of items i item c.loop-i-test.true c.index-items-i.is)
    ∙ position_push (defines q) 0 (take i (map item_of items)) (item_of item)
    ∙ ap (λ n. option_or (definer (take i (map item_of items)) q) (if defines q (item_of item) then Some n else None))
    (ap (λ n. 0 + n) (length_take (map item_of items) i long) ∙ (let e : 0 + i ≡ i = omega arith in e)))
