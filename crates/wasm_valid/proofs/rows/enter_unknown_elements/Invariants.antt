use Rattle.wasm_typing.specs.declared.fault.ValidCause.TheVariants as causes
use Rattle.wasm_valid.proofs.Common.{◌≡◌, drop, flat_map, func_space, entered, fault_if, is_out}
use Rattle.wasm_valid.proofs.rows.enter_unknown_elements.Given as goal

abbrev pub invariant-loop-element : goal.invariant-loop-element
invariant-loop-element l =
    entered l.first.found (flat_map (λ e. flat_map (λ f. fault_if (is_out (func_space l.m) f.index) f.place causes.UnknownFunction) e.funcs)
    (drop l.element-index l.m.elements))
    ≡ entered l.initial.first.found
    (flat_map (λ e. flat_map (λ f. fault_if (is_out (func_space l.m) f.index) f.place causes.UnknownFunction) e.funcs) l.m.elements)
