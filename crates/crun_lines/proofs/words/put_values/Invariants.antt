use Rattle.std.proofs.Common.{◌≡◌, ◌++◌, take}
use Rattle.crun_lines.specs.Words.{values_text}
use Rattle.crun_lines.proofs.words.put_values.Given as goal

abbrev pub invariant-loop-value : goal.invariant-loop-value
invariant-loop-value l = l.line ≡ l.initial.line ++ values_text (take l.value-index l.values)
