use Rattle.wasm_writing.proofs.Common.{take, each, Puts}
use Rattle.wasm_writing.proofs.vectors.each.Given as goal

abbrev pub invariant-loop-entry : goal.invariant-loop-entry
invariant-loop-entry g l = Puts (each g.E.Entry.fields (take l.entry-index l.entries)) l.initial.draft l.draft
