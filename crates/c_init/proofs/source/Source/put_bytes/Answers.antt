use Rattle.c_init.proofs.Common.{map, refl, arith, stmt_of, write_data}
use Rattle.c_init.proofs.Numberings.{put_from, put_all_from}
use Rattle.c_init.proofs.source.Source.put_bytes.Goals as goal

pub loop-segment-init : goal.loop-segment-init
loop-segment-init c = record { at = omega arith; so_far = refl }

pub loop-segment-preserved : goal.loop-segment-preserved
loop-segment-preserved c =
    let at = c.loop-segment.invariant.at in
    record {
      at = omega (arith, at);
      so_far = put_from c.args.from c.args.segments.now c.loop-segment.segment-index (write_data c.args.self.now.tree.now)
          (map stmt_of c.loop-segment.stmts) (map stmt_of c.put_data.new.stmts) _ c.loop-segment.number c.segment-item.result
          c.loop-segment-test.true c.segment-item.is at c.in_ok-put_data.ensures c.loop-segment.invariant.so_far;
    }

pub returns : goal.returns
returns c =
    put_all_from c.args.from c.args.segments.now c.loop-segment.segment-index (write_data c.args.self.now.tree.now)
    (map stmt_of c.loop-segment.stmts) _ c.loop-segment-test.false c.loop-segment.invariant.so_far
