use Rattle.crun_lines.proofs.RowBytes.{low_is_zero}
use Rattle.crun_lines.proofs.rows.is_zero.Goals as goal

pub returns-then-load8-eq0 : goal.returns-then-load8-eq0
returns-then-load8-eq0 c =
    low_is_zero c.args.memory.now.bytes c.args.at c.load8.result c.load8-then-load8-eq0.result
    c.load8.ensures c.load8-then-load8-eq0.ensures c.if-load8-eq0.true
