use Rattle.c_init.proofs.Common.{◌+◌, map, ap, stmt_of, read_again, write_element}
use Rattle.c_init.proofs.Numberings.{push_numbered, pushed_all}
use Rattle.c_init.proofs.source.Source.put_segment.Goals as goal

pub loop-func-preserved : goal.loop-func-preserved
loop-func-preserved c =
    let tree = c.args.self.now.tree.now in
    let offset = c.args.segment.now.offset in
    record {
      at = ap (λ n. n + 1) c.loop-func.invariant.at;
      so_far = push_numbered c.args.segment.now.funcs c.as_slice-func-items.result.now c.as_slice-func-items.ensures
          c.loop-func.func-index stmt_of (λ f. write_element tree offset f.0 f.1.index) c.loop-func.stmts c.push.new.self _ _
          c.loop-func.number _
          c.loop-func-test.true (read_again c.as_slice-func-items.result.now c.loop-func.func-index _) c.loop-func.invariant.at
          c.in_ok-push.ensures.ok c.in_ok-element.ensures c.loop-func.invariant.so_far;
    }

pub returns : goal.returns
returns c =
    pushed_all c.args.segment.now.funcs c.as_slice-func-items.result.now c.as_slice-func-items.ensures c.loop-func.func-index
    (λ f. write_element c.args.self.now.tree.now c.args.segment.now.offset f.0 f.1.index) (map stmt_of c.loop-func.stmts) _
    c.loop-func-test.false c.loop-func.invariant.so_far
