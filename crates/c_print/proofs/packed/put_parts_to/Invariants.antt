use Rattle.c_print.proofs.Common.{each}
use Rattle.c_tree.specs.Trees.{stmt_tokens}
use Rattle.packed_stmts.specs.Listed.{left, parts_left}
use Rattle.c_print.proofs.ToFile.{PrintsFront}
use Rattle.c_print.proofs.packed.put_parts_to.Given as goal

abbrev pub invariant-more : goal.invariant-more
invariant-more g l =
    PrintsFront g.F.Files l.fn.files l.files l.fn.page l.page (each stmt_tokens (left l.fn.parts)) (each stmt_tokens (left l.parts))

abbrev pub decreases-more : goal.decreases-more
decreases-more g l = parts_left l.parts
