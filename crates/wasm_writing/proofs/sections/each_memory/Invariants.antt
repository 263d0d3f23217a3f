use Rattle.wasm_writing.proofs.Common.{take, each, memory_entry, Puts}
use Rattle.wasm_writing.proofs.sections.each_memory.Given as goal

abbrev pub invariant-loop-memory : goal.invariant-loop-memory
invariant-loop-memory l = Puts (each memory_entry (take l.memory-index l.memories)) l.initial.draft l.draft
