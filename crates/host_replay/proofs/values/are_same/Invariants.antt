use Rattle.std.proofs.Common.{◌≡◌, length, take}
use Rattle.host_replay.proofs.values.are_same.Given as goal

abbrev pub invariant-loop-k : goal.invariant-loop-k
invariant-loop-k l = record {
  length : length l.values ≡ length l.others;
  so_far : take l.k l.values ≡ take l.k l.others;
}
