use Rattle.c_unit.proofs.Common.{◌+◌, map, ap, bytes_if, bytes_of}
use Rattle.c_init.proofs.Numberings.{put_numbered, put_all}
use Rattle.c_unit.proofs.with_bytes.with_bytes.Goals as goal

pub loop-segment-preserved : goal.loop-segment-preserved
loop-segment-preserved c =
    let so_far = put_numbered c.args.m.now.segments c.as_slice-segment-items.result.now c.as_slice-segment-items.ensures
    c.loop-segment.segment-index bytes_if (map bytes_of c.loop-segment.list.items) (map bytes_of c.put.new.list.items) _
    c.loop-segment.number c.segment-item.result
    c.loop-segment-test.true c.segment-item.is c.loop-segment.invariant.at c.in_ok-put.ensures c.loop-segment.invariant.so_far in
    record { at = ap (λ n. n + 1) c.loop-segment.invariant.at; so_far = so_far }

pub returns : goal.returns
returns c =
    put_all c.args.m.now.segments c.as_slice-segment-items.result.now c.as_slice-segment-items.ensures c.loop-segment.segment-index
    bytes_if (map bytes_of c.loop-segment.list.items) _ c.loop-segment-test.false c.loop-segment.invariant.so_far
