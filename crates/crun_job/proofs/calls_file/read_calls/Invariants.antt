use Rattle.crun_job.proofs.Common.{map, take, unit_of, seen_lines, AreCalls, calls_seen}
use Rattle.crun_job.proofs.calls_file.read_calls.Given as goal

abbrev pub invariant-loop-line : goal.invariant-loop-line
invariant-loop-line l = AreCalls (map unit_of l.linked.0) (take l.line-index (seen_lines l.line-items)) (calls_seen l.calls.items)
