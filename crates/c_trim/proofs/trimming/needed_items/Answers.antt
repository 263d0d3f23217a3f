use Rattle.c_trim.proofs.Common.{◌≡◌, ap, unit_of, is_reached, reached_by, IsTrimmed, kept}
use Rattle.c_trim.proofs.Exact.{needed_kept}
use Rattle.std.proofs.lemmas.Result.{IfOk-weaker}
use Rattle.c_trim.proofs.trimming.needed_items.Goals as goal

pub returns : goal.returns
returns c =
    let items = unit_of c.as_slice-items.result.now in
    IfOk-weaker c.kept_items.result (λ t. unit_of t ≡ kept (is_reached c.in_ok-table.table c.in_ok-marks.marks.flags.items) items)
    (λ t. IsTrimmed (unit_of c.args.unit.now) (unit_of t))
    (λ t is. needed_kept items (unit_of c.args.unit.now) (ap unit_of c.as_slice-items.ensures) c.requires c.in_ok-table.table
    c.in_ok-table.ensures (reached_by c.in_ok-marks.marks) c.in_ok-marks.ensures (unit_of t) is) c.kept_items.ensures
