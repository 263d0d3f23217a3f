use Rattle.wasm_typing.specs.declared.fault.ValidCause.TheVariants as causes
use Rattle.wasm_valid.proofs.Common.{◌≡◌, drop, flat_map, entered, fault_if, is_out}
use Rattle.wasm_valid.proofs.rows.enter_unknown_funcs.Given as goal

abbrev pub invariant-loop-func : goal.invariant-loop-func
invariant-loop-func l =
    entered l.first.found (flat_map (λ f. fault_if (is_out l.spaces.funcs.items f.index) f.place causes.UnknownFunction)
    (drop l.func-index l.element.funcs))
    ≡ entered l.initial.first.found (flat_map (λ f. fault_if (is_out l.spaces.funcs.items f.index) f.place causes.UnknownFunction)
    l.element.funcs)
