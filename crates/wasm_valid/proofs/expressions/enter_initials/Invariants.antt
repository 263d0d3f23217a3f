use Rattle.wasm_valid.proofs.Common.{◌≡◌, drop, flat_map, entered, expression_fault, initial_of}
use Rattle.wasm_valid.proofs.expressions.enter_initials.Given as goal

abbrev pub invariant-loop-global : goal.invariant-loop-global
invariant-loop-global l =
    entered l.first.found (flat_map (λ g. expression_fault l.row (initial_of l.m g)) (drop l.global-index l.m.globals))
    ≡ entered l.initial.first.found (flat_map (λ g. expression_fault l.row (initial_of l.m g)) l.m.globals)
