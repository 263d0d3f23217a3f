use Rattle.host_replay.proofs.Common.{take, texts, Knows, Read, empty, recorded}
use Rattle.host_replay.proofs.Lines.{with_newlines}
use Rattle.host_replay.proofs.read.read_lines.Given as goal

abbrev pub invariant-loop-k : goal.invariant-loop-k
invariant-loop-k l = record {
  known : Knows l.reading.places (recorded l.reading.file).hosts;
  read : Read empty (with_newlines (take l.k (texts l.lines))) (recorded l.reading.file);
}
