use Rattle.wast_script.proofs.Common.{map, sym, ◌∙◌, view, all_given, value_of}
use Rattle.wast_script.proofs.Gathered.{next_here, nothing_here}
use Rattle.wast_script.proofs.value.values_of.Goals as goal

pub returns-in_default : goal.returns-in_default
returns-in_default c =
    nothing_here view value_of c.args.items.now c.loop-item.item-index c.item-item.result c.loop-item-test.true c.item-item.is
    c.loop-item.values (all_given value_of (map view c.args.items.now)) c.loop-item.invariant (sym c.value.ensures ∙ c.in_default.is)

pub loop-item-preserved : goal.loop-item-preserved
loop-item-preserved c =
    next_here view value_of c.args.items.now c.loop-item.item-index c.item-item.result c.loop-item-test.true c.item-item.is
    c.loop-item.values c.push.new.self c.in-Some.value (all_given value_of (map view c.args.items.now)) c.loop-item.invariant
    (sym c.value.ensures ∙ c.in-Some.is) c.in_ok-push.ensures.ok
