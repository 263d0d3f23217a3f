use Rattle.wasm_valid.proofs.Common.{◌≡◌, drop, flat_map, entered, element_offset, expression_fault}
use Rattle.wasm_valid.proofs.expressions.enter_element_offsets.Given as goal

abbrev pub invariant-loop-element : goal.invariant-loop-element
invariant-loop-element l =
    entered l.first.found (flat_map (λ e. expression_fault l.row (element_offset l.m e)) (drop l.element-index l.m.elements))
    ≡ entered l.initial.first.found (flat_map (λ e. expression_fault l.row (element_offset l.m e)) l.m.elements)
