use Rattle.wasm_typing.specs.declared.fault.ValidCause.TheVariants as causes
use Rattle.wasm_valid.proofs.Common.{◌≡◌, drop, is_none, flat_map, type_in, entered, fault_if}
use Rattle.wasm_valid.proofs.rows.enter_func_types.Given as goal

abbrev pub invariant-loop-func : goal.invariant-loop-func
invariant-loop-func l =
    entered l.first.found (flat_map (λ f. fault_if (is_none (type_in l.m f.type_index)) f.place causes.UnknownType)
    (drop l.func-index l.m.funcs))
    ≡ entered l.initial.first.found (flat_map (λ f. fault_if (is_none (type_in l.m f.type_index)) f.place causes.UnknownType) l.m.funcs)
