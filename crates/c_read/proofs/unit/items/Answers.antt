use Rattle.c_read.proofs.Common.{◌≡◌, true, false, [], ◌∷◌, ◌++◌, map, ap, ◌∙◌, arith, rules, map_push, err_from_is_err_and, item_of}
use Rattle.c_read.proofs.Common.{next_kind, item, not_end}
use Rattle.c_read.specs.Items.{items}
use Rattle.c_read.proofs.Loops.{left_more, left_ends, left_fails, left_whole}
use Rattle.c_read.proofs.unit.items.Goals as goal

pub more-init : goal.more-init
unfolding items
more-init c =
    let e : map item_of c.new-unit.result ≡ [] = search rules in
    (omega arith, left_whole not_end item c.args.cursor.now (map item_of c.new-unit.result) e)

pub returns-in_err-item-clause-reads : goal.returns-in_err-item-clause-reads
returns-in_err-item-clause-reads c =
    let p = err_from_is_err_and c.from_residual.result c.from_residual.ensures.1 in
    let on : not_end (next_kind c.more.cursor) ≡ true = search rules in
    rw (p.1, p.2) (λ other. left_fails not_end item (map item_of c.more.unit) c.more.cursor c.in_err-item.field-0.0
    (items c.args.cursor.now) on (c.in_err-item.ensures.reads other) c.more.invariant.1)

pub more-preserved : goal.more-preserved
more-preserved c =
    let on : not_end (next_kind c.more.cursor) ≡ true = search rules in
    let e : map item_of c.push.new.self ≡ map item_of c.more.unit ++ item_of c.in_ok-item.item ∷ [] =
    ap (map item_of) (c.in_ok-push.ensures.ok) ∙ map_push item_of c.more.unit c.in_ok-item.item in (
      omega arith,
      rw e (left_more not_end item (map item_of c.more.unit) c.more.cursor c.item.new.cursor (item_of c.in_ok-item.item)
          (items c.args.cursor.now) on c.in_ok-item.ensures.reads c.in_ok-item.ensures.shorter c.more.invariant.1),
    )

pub returns-clause-reads : goal.returns-clause-reads
returns-clause-reads c =
    let off : not_end (next_kind c.more.cursor) ≡ false = search rules in
    left_ends not_end item (map item_of c.more.unit) c.more.cursor (items c.args.cursor.now) off c.more.invariant.1
