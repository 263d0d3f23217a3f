use Rattle.wasm_valid.proofs.Common.{◌≡◌, drop, flat_map, entered, unknown_import_type}
use Rattle.wasm_valid.proofs.rows.enter_import_types.Given as goal

abbrev pub invariant-loop-import : goal.invariant-loop-import
invariant-loop-import l =
    entered l.first.found (flat_map (unknown_import_type l.m) (drop l.import-index l.m.imports))
    ≡ entered l.initial.first.found (flat_map (unknown_import_type l.m) l.m.imports)
