use Rattle.wasm_writing.proofs.Common.{get_or, None, read_again, LimitsEntry, memory_entry, memory_type}
use Rattle.wasm_writing.proofs.Codes.{puts_here}
use Rattle.wasm_writing.proofs.Lists.{each_more}
use Rattle.wasm_writing.proofs.sections.each_memory.Goals as goal

none : LimitsEntry
none = record { limits = record { min = 0; max = None; place = 0 }; place = 0 }

pub loop-memory-preserved : goal.loop-memory-preserved
unfolding none
loop-memory-preserved c =
    let l = c.loop-memory in
    let entries = c.args.memories.now in
    let entry = get_or entries l.memory-index none in
    each_more memory_entry entries l.memory-index
    entry _ _ _ c.loop-memory-test.true (read_again entries l.memory-index none c.loop-memory-test.true) l.invariant
    (puts_here entry.place (memory_type entry.limits) _ _ c.memory_type.ensures)
