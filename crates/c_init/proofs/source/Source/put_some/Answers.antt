use Rattle.std.proofs.Common.{min, take}
use Rattle.c_init.proofs.Common.{◌++◌, length, drop, map, sym, refl, ap, ◌∙◌, arith, stmt_of, read_again, write_element}
use Rattle.c_init.proofs.Numberings.{push_from, pushed_from}
use Rattle.c_init.proofs.PieceLists.{some_written}
use Rattle.c_init.proofs.source.Source.put_some.Goals as goal

pub loop-func-init : goal.loop-func-init
loop-func-init c = record { at = omega arith; so_far = refl }

pub loop-func-preserved : goal.loop-func-preserved
loop-func-preserved c =
    let tree = c.args.self.now.tree.now in
    let offset = c.args.segment.now.offset in
    let at = c.loop-func.invariant.at in
    record {
      at = omega (arith, at);
      so_far = push_from c.min-begin.result c.some_from-some.result.now c.loop-func.func-index stmt_of
          (λ f. write_element tree offset f.0 f.1.index) c.loop-func.stmts c.push.new.self _ _ c.loop-func.number _
          c.loop-func-test.true (read_again c.some_from-some.result.now c.loop-func.func-index _) at
          c.in_ok-push.ensures.ok c.in_ok-element.ensures c.loop-func.invariant.so_far;
    }

pub returns : goal.returns
returns c =
    let tree = c.args.self.now.tree.now in
    let segment = c.args.segment.now in
    pushed_from c.min-begin.result c.some_from-some.result.now c.loop-func.func-index (λ f. write_element tree segment.offset f.0 f.1.index)
    (map stmt_of c.loop-func.stmts) _ c.loop-func-test.false c.loop-func.invariant.so_far
    ∙ ap (λ ss. map stmt_of c.args.stmts.now ++ ss)
    (sym (some_written tree segment c.min-begin.result c.args.start c.args.left c.some_from-some.result.now
    (c.min-begin.ensures ∙ ap (λ k. min k c.args.start) (ap length c.as_slice-funcs.ensures))
    (c.some_from-some.ensures.is ∙ ap (λ fs. take c.args.left (drop c.min-begin.result fs)) c.as_slice-funcs.ensures)))
