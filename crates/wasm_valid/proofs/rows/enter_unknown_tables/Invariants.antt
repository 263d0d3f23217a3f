use Rattle.wasm_typing.specs.declared.fault.ValidCause.TheVariants as causes
use Rattle.wasm_valid.proofs.Common.{◌≡◌, drop, flat_map, table_space, entered, fault_if, is_no_first}
use Rattle.wasm_valid.proofs.rows.enter_unknown_tables.Given as goal

abbrev pub invariant-loop-element : goal.invariant-loop-element
invariant-loop-element l =
    entered l.first.found (flat_map (λ e. fault_if (is_no_first (table_space l.m) e.table) e.place causes.UnknownTable)
    (drop l.element-index l.m.elements))
    ≡ entered l.initial.first.found (flat_map (λ e. fault_if (is_no_first (table_space l.m) e.table) e.place causes.UnknownTable)
    l.m.elements)
