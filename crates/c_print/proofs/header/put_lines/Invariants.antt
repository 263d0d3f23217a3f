use Rattle.c_print.proofs.Common.{◌≡◌, ◌++◌, drop, each, line_text}
use Rattle.c_print.proofs.header.put_lines.Given as goal

abbrev pub invariant-loop-line : goal.invariant-loop-line
invariant-loop-line l = l.text ++ each line_text (drop l.line-index l.lines) ≡ l.fn.text ++ each line_text l.lines
