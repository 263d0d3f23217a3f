use Rattle.c_read.proofs.Common.{◌≤◌, length, more_bytes, next_byte, is_comma}
use Rattle.c_read.proofs.Loops.{Left}
use Rattle.c_read.proofs.item.more_bytes.Given as goal

abbrev pub invariant-more : goal.invariant-more
invariant-more l = (length l.cursor ≤ length l.fn.cursor) × Left is_comma next_byte l.bytes l.cursor (more_bytes l.fn.first l.fn.cursor)

abbrev pub decreases-more : goal.decreases-more
decreases-more l = length l.cursor
