use Rattle.std.proofs.Common.{◌≡◌, length, refl, arith, ◌∙◌, length-set}
use Rattle.crun_lines.proofs.RowBytes.{one_more, whole_row}
use Rattle.crun_lines.proofs.rows.row_at.Goals as goal

pub loop-i-init : goal.loop-i-init
loop-i-init c = record { size = refl; read = refl }

pub loop-i-preserved : goal.loop-i-preserved
loop-i-preserved c =
    let size : length c.loop-i.bytes ≡ 16 = c.loop-i.invariant.size in
    record {
      size = length-set c.loop-i.bytes c.loop-i.i c.load1.result ∙ size;
      read =
          one_more c.args.memory.now.bytes c.loop-i.bytes c.args.at c.loop-i.i c.load1.result (omega arith) (omega arith)
          c.load1.ensures c.loop-i.invariant.read;
    }

pub returns : goal.returns
returns c =
    whole_row c.args.memory.now.bytes c.loop-i.bytes c.args.at c.loop-i.i (omega arith)
    c.loop-i.invariant.size c.loop-i.invariant.read
