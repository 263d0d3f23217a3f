use Rattle.wasm_valid.proofs.Common.{◌≡◌, drop, flat_map, entered, unknown_export}
use Rattle.wasm_valid.proofs.rows.enter_unknown_exports.Given as goal

abbrev pub invariant-loop-export : goal.invariant-loop-export
invariant-loop-export l =
    entered l.first.found (flat_map (unknown_export l.m) (drop l.export-index l.m.exports))
    ≡ entered l.initial.first.found (flat_map (unknown_export l.m) l.m.exports)
