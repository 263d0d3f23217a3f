use Rattle.c_read.proofs.Common.{◌≤◌, map, length, item_of, item, items, not_end}
use Rattle.c_read.proofs.Loops.{Left}
use Rattle.c_read.proofs.unit.items.Given as goal

abbrev pub invariant-more : goal.invariant-more
invariant-more l = (length l.cursor ≤ length l.fn.cursor) × Left not_end item (map item_of l.unit) l.cursor (items l.fn.cursor)

abbrev pub decreases-more : goal.decreases-more
decreases-more l = length l.cursor
