use Rattle.std.proofs.Common.{◌<◌, length, sym, ◌∙◌, arith}
use Rattle.c_rules.proofs.SameTypes.{same_many}
use Rattle.c_thread.proofs.SameTypes.{same_end, same_more, same_stops}
use Rattle.c_thread.proofs.signatures.are_types.Goals as goal

pub returns-then-types-others : goal.returns-then-types-others
returns-then-types-others c = sym (same_many c.args.types.now c.args.others.now c.if-types-others.true)

pub loop-i-preserved : goal.loop-i-preserved
loop-i-preserved c =
    let within : c.loop-i.i < length c.args.others.now = omega arith in
    same_more c.args.types.now c.args.others.now c.loop-i.i c.loop-i-test.true within _
    (sym c.agree.ensures ∙ c.if-not-agree.false) c.loop-i.invariant

pub returns-then-not-agree : goal.returns-then-not-agree
returns-then-not-agree c =
    let within : c.loop-i.i < length c.args.others.now = omega arith in
    same_stops c.args.types.now c.args.others.now c.loop-i.i c.loop-i-test.true within _
    (sym c.agree.ensures ∙ c.if-not-agree.true) c.loop-i.invariant

pub returns : goal.returns
returns c = same_end c.args.types.now c.args.others.now c.loop-i.i _ c.if-types-others.false c.loop-i-test.false c.loop-i.invariant
