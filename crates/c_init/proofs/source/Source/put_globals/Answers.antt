use Rattle.c_init.proofs.Common.{◌+◌, map, refl, ap, ◌∙◌, arith, imported_globals, expr_of, stmt_of, global_name, make_global, set}
use Rattle.c_init.proofs.Numberings.{push_from, pushed_from}
use Rattle.c_init.proofs.source.Source.put_globals.Goals as goal

pub loop-global-init : goal.loop-global-init
loop-global-init c = record { at = omega arith; so_far = refl }

pub loop-global-preserved : goal.loop-global-preserved
loop-global-preserved c =
    let tree = c.args.self.now.tree.now in
    let at = c.loop-global.invariant.at in
    let made = c.set.ensures
    ∙ ap (λ name. set name (expr_of c.in_ok-value.value)) c.in_ok-name.ensures
    ∙ ap (λ e. set (global_name (imported_globals tree + c.loop-global.number)) e) c.in_ok-value.ensures in
    record {
      at = omega (arith, at);
      so_far = push_from c.args.from c.args.globals.now c.loop-global.global-index stmt_of (make_global tree) c.loop-global.stmts
          c.push.new.self _ _ c.loop-global.number c.global-item.result
          c.loop-global-test.true c.global-item.is at c.in_ok-push.ensures.ok made c.loop-global.invariant.so_far;
    }

pub returns : goal.returns
returns c =
    pushed_from c.args.from c.args.globals.now c.loop-global.global-index (make_global c.args.self.now.tree.now)
    (map stmt_of c.loop-global.stmts) _ c.loop-global-test.false c.loop-global.invariant.so_far
