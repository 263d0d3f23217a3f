use Rattle.std.proofs.Common.{◌≡◌, take}
use Rattle.host_replay.proofs.module.functions_copy.Given as goal

abbrev pub invariant-loop-function : goal.invariant-loop-function
invariant-loop-function l = l.copied.items ≡ take l.function-index l.functions
