use Rattle.wasm_writing.proofs.Common.{take, each, Puts, part_is, filled}
use Rattle.wasm_writing.proofs.sections.sections.Given as goal

abbrev pub invariant-loop-part : goal.invariant-loop-part
invariant-loop-part l = Puts (each (λ part. filled l.m (part_is part)) (take l.part-index l.parts)) l.initial.draft l.draft
