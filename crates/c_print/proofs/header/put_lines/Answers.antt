use Rattle.c_print.proofs.Common.{rules, line_text}
use Rattle.c_print.proofs.Onto.{each_text_more}
use Rattle.c_print.proofs.header.put_lines.Goals as goal

pub loop-line-preserved : goal.loop-line-preserved
loop-line-preserved c =
    each_text_more line_text _ _ _ c.args.lines.now c.loop-line.line-index c.line-item.result c.loop-line-test.true
    (search rules) c.loop-line.invariant
