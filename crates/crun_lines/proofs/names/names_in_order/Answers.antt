use Rattle.std.proofs.Common.{◌∙◌}
use Rattle.crun_lines.proofs.Placing.{lengths_stay, put_next}
use Rattle.crun_lines.proofs.names.names_in_order.Goals as goal

pub loop-number-preserved : goal.loop-number-preserved
loop-number-preserved c = record {
  lengths =
      lengths_stay _ c.loop-number.number c.loop-number.places.entries c.insert.new.self.entries
      c.in_ok-insert.ensures.entries c.loop-number.invariant.lengths;
  placed =
      put_next c.args.names.now c.loop-number.number _ c.loop-number.places.entries c.insert.new.self.entries
      c.loop-number-test.true c.in_ok-insert.ensures.entries c.loop-number.invariant.lengths
      ∙ c.loop-number.invariant.placed;
}
