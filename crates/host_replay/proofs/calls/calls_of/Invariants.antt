use Rattle.host_replay.proofs.Common.{◌≡◌, take, calls_of}
use Rattle.host_replay.proofs.calls.calls_of.Given as goal

abbrev pub invariant-loop-entry : goal.invariant-loop-entry
invariant-loop-entry l = l.calls.items ≡ calls_of l.k (take l.entry-index l.entries)
