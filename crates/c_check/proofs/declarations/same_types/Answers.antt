use Rattle.c_check.proofs.Common.{◌<◌, length, sym, ap, ◌∙◌, arith, same_type}
use Rattle.c_tree.specs.Tree as tree
use Rattle.c_rules.proofs.SameTypes.{same_never, same_end, same_more, same_stops}
use Rattle.c_check.proofs.declarations.same_types.Goals as goal

pub returns-then-a-b : goal.returns-then-a-b
returns-then-a-b c = same_never (λ (p : tree.Param). p.0) c.args.a.now c.args.b.now c.if-a-b.true

pub loop-i-preserved : goal.loop-i-preserved
loop-i-preserved c =
    let within : c.loop-i.i < length c.args.b.now = omega arith in
    same_more (λ (p : tree.Param). p.0) c.args.a.now c.args.b.now c.loop-i.i c.index-a-i.result c.index-b-i.result c.loop-i-test.true
    c.index-a-i.is within c.index-b-i.is _
    (ap (λ (p : tree.Param). same_type c.index-a-i.result.0 p.0) c.index-b-i.is ∙ sym c.same_type.ensures
    ∙ c.if-not-same_type.false) c.loop-i.invariant

pub returns-then-not-same_type : goal.returns-then-not-same_type
returns-then-not-same_type c =
    let within : c.loop-i.i < length c.args.b.now = omega arith in
    same_stops (λ (p : tree.Param). p.0) c.args.a.now c.args.b.now c.loop-i.i c.index-a-i.result c.index-b-i.result c.loop-i-test.true
    c.index-a-i.is within c.index-b-i.is _
    (ap (λ (p : tree.Param). same_type c.index-a-i.result.0 p.0) c.index-b-i.is ∙ sym c.same_type.ensures
    ∙ c.if-not-same_type.true) c.loop-i.invariant

pub returns : goal.returns
returns c = same_end (λ (p : tree.Param). p.0) c.args.a.now c.args.b.now c.loop-i.i _ c.if-a-b.false c.loop-i-test.false c.loop-i.invariant
