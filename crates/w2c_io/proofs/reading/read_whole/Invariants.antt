use Rattle.w2c_io.proofs.Common.{◌+◌, ◌-◌, length, Consumes}
use Rattle.w2c_io.proofs.reading.read_whole.Given as goal

-- so many bytes are read
abbrev pub invariant-loop-buf : goal.invariant-loop-buf
invariant-loop-buf g l = Consumes (g.R.Read.remaining l.fn.reader) (g.R.Read.remaining l.reader) l.bytes

abbrev pub decreases-loop-buf : goal.decreases-loop-buf
decreases-loop-buf g l = l.limit + 1 - length l.bytes
