use Rattle.packed_stmts.proofs.Common.{◌≡◌, ◌++◌, map, stmt_of}
use Rattle.packed_stmts.specs.Listed.{left, parts_left}
use Rattle.packed_stmts.proofs.stmts.Parts.all.Given as goal

abbrev pub invariant-more : goal.invariant-more
invariant-more l = map stmt_of l.all.items ++ left l.parts ≡ left l.fn.self

abbrev pub decreases-more : goal.decreases-more
decreases-more l = parts_left l.parts
