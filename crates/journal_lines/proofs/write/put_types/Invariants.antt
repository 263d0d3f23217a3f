use Rattle.journal_lines.proofs.Common.{◌≡◌, ◌++◌, take, spaced_types}
use Rattle.journal_lines.proofs.write.put_types.Given as goal

abbrev pub invariant-loop-ty : goal.invariant-loop-ty
invariant-loop-ty l = l.line ≡ l.initial.line ++ spaced_types (take l.ty-index l.types)
