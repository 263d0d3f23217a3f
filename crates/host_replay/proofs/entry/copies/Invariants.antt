use Rattle.std.proofs.Common.{◌≡◌, take}
use Rattle.host_replay.proofs.entry.copies.Given as goal

abbrev pub invariant-loop-asked : goal.invariant-loop-asked
invariant-loop-asked l = l.copied.items ≡ take l.asked-index l.asks
