use Rattle.wasm_binary.proofs.Common.{length, all_sections_at, at}
use Rattle.wasm_binary.proofs.SectionLoop.{Ahead}
use Rattle.wasm_binary.proofs.sections.sections.Given as goal

abbrev pub invariant-loop-heading : goal.invariant-loop-heading
invariant-loop-heading l = Ahead l.«module» (at l.ahead) (all_sections_at l.fn.«module» (at l.fn.rest))

abbrev pub decreases-loop-heading : goal.decreases-loop-heading
decreases-loop-heading l = length l.ahead.left.now
