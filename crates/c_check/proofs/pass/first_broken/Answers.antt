use Rattle.c_check.proofs.Common.{◌≡◌, ◌+◌, List, map, length, option_map, sym, ap, ◌∙◌, arith, length-map, item_of, Item, items_end}
use Rattle.c_check.proofs.Common.{items_more, items_stop, items_stop_inside, first_in_body, broken_at}
use Rattle.c_check.proofs.Behind.{breaks_there}
use Rattle.c_check.proofs.pass.first_broken.Goals as goal

pub returns : goal.returns
returns c =
    let k : length (map item_of c.args.items.now) ≡ length c.args.items.now = simp length-map in
    items_end c.args.items.now c.loop-i.i _ (omega arith) c.loop-i.invariant.0

pub returns-in-Some : goal.returns-in-Some
returns-in-Some c =
    let xs = c.args.items.now in
    let x = c.index-items-i.result in
    let file = c.loop-i.progress.file in
    items_stop xs c.loop-i.i _ x c.loop-i-test.true c.index-items-i.is c.in-Some.rule
    (breaks_there xs file.items.now c.loop-i.i file.count x _ _ c.loop-i.invariant.1 c.loop-i.invariant.2 c.in_ok-rule.ensures c.in-Some.is)
    c.loop-i.invariant.0

pub returns-in-Some-2 : goal.returns-in-Some-2
returns-in-Some-2 c =
    let xs = c.args.items.now in
    let x = c.index-items-i.result in
    let file = c.loop-i.progress.file in
    items_stop_inside xs c.loop-i.i _ x c.loop-i-test.true c.index-items-i.is (broken_at c.in-Some-2.broken)
    (breaks_there xs file.items.now c.loop-i.i file.count x _ _ c.loop-i.invariant.1 c.loop-i.invariant.2 c.in_ok-rule.ensures c.in-None.is)
    (ap (option_map broken_at) (sym c.in-Some-2.is) ∙ c.in_ok-broken.ensures
    ∙ ap (λ (ys : List Item). first_in_body (map item_of ys) c.loop-i.i (item_of x))
    (c.in_ok-progress-2.ensures.items ∙ c.loop-i.invariant.1))
    c.loop-i.invariant.0

pub loop-i-preserved : goal.loop-i-preserved
loop-i-preserved c =
    let xs = c.args.items.now in
    let x = c.index-items-i.result in
    let file = c.loop-i.progress.file in
    let same = c.in_ok-progress-2.ensures.items ∙ c.loop-i.invariant.1 in (
      items_more xs c.loop-i.i _ x c.loop-i-test.true c.index-items-i.is
          (breaks_there xs file.items.now c.loop-i.i file.count x _ _ c.loop-i.invariant.1 c.loop-i.invariant.2 c.in_ok-rule.ensures
          c.in-None.is)
          (ap (option_map broken_at) (sym c.in-None-2.is) ∙ c.in_ok-broken.ensures
          ∙ ap (λ (ys : List Item). first_in_body (map item_of ys) c.loop-i.i (item_of x)) same)
          c.loop-i.invariant.0,
      same,
      c.in_ok-progress-2.ensures.count ∙ ap (λ n. n + 1) c.loop-i.invariant.2,
      c.in_ok-progress-2.ensures.first,
    )
