use Rattle.wasm_valid.proofs.Common.{◌≡◌, drop, flat_map, entered, expression_fault, segment_offset}
use Rattle.wasm_valid.proofs.expressions.enter_segment_offsets.Given as goal

abbrev pub invariant-loop-segment : goal.invariant-loop-segment
invariant-loop-segment l =
    entered l.first.found (flat_map (λ s. expression_fault l.row (segment_offset l.m s)) (drop l.segment-index l.m.segments))
    ≡ entered l.initial.first.found (flat_map (λ s. expression_fault l.row (segment_offset l.m s)) l.m.segments)
