use Rattle.crun_words.proofs.Common.{◌≡◌, take, names_of, numbered, seen_lines}
use Rattle.crun_words.proofs.calls_file.numbered.Given as goal

-- the lines of so many parts
abbrev pub invariant-loop-k : goal.invariant-loop-k
invariant-loop-k l = seen_lines l.lines.items ≡ numbered 1 (take l.k (names_of l.all))
