use Rattle.wasm_typing.specs.declared.fault.ValidCause.TheVariants as causes
use Rattle.wasm_valid.proofs.Common.{◌≡◌, drop, flat_map, memory_space, entered, fault_if, is_no_first}
use Rattle.wasm_valid.proofs.rows.enter_unknown_memories.Given as goal

abbrev pub invariant-loop-segment : goal.invariant-loop-segment
invariant-loop-segment l =
    entered l.first.found (flat_map (λ s. fault_if (is_no_first (memory_space l.m) s.memory) s.place causes.UnknownMemory)
    (drop l.segment-index l.m.segments))
    ≡ entered l.initial.first.found (flat_map (λ s. fault_if (is_no_first (memory_space l.m) s.memory) s.place causes.UnknownMemory)
    l.m.segments)
