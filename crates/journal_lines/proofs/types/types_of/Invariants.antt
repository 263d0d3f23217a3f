use Rattle.journal_lines.proofs.Common.{◌≡◌, map, take, texts, type_text}
use Rattle.journal_lines.proofs.types.types_of.Given as goal

abbrev pub invariant-loop-k : goal.invariant-loop-k
invariant-loop-k l = map type_text l.types ≡ take l.k (texts l.words)
