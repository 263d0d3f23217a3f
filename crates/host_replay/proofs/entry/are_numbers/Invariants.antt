use Rattle.host_replay.proofs.Common.{take, AllByRecursion, IsNumber}
use Rattle.host_replay.proofs.entry.are_numbers.Given as goal

abbrev pub invariant-loop-value : goal.invariant-loop-value
invariant-loop-value l = AllByRecursion IsNumber (take l.value-index l.values)
