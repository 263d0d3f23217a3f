use Rattle.std.proofs.Common.{◌≡◌, ◌<◌, length}
use Rattle.crun_words.proofs.ArgumentValues.{AreSome}
use Rattle.crun_words.proofs.argument.arguments.Given as goal

-- so many values
abbrev pub invariant-loop-k : goal.invariant-loop-k
invariant-loop-k l = record {
  each : length l.params ≡ length l.numbers;
  some : 0 < length l.numbers;
  values : AreSome l.params l.numbers l.k l.values;
}
