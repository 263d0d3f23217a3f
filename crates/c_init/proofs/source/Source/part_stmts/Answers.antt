use Rattle.c_init.proofs.Common.{refl, ◌∙◌}
use Rattle.c_init.specs.Portions.{part_of}
use Rattle.c_init.proofs.PortionTests.{ended, tested}
use Rattle.c_init.proofs.source.Source.part_stmts.Goals as goal

pub returns : goal.returns
returns c =
    let m = c.args.self.now.tree.now in
    ended (part_of m c.args.portion) c.tests-tests.result _ _ _ _ _ _ c.new-stmts.ensures c.in_ok-put_portion.ensures
    c.in_ok-push.ensures.ok c.in_ok-put_trap.ensures (c.tests-tests.ensures ∙ tested m c.args.portion) refl
