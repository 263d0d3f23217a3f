use Rattle.wasm_valid.proofs.Common.{◌≡◌, drop, flat_map, entered, min_above_max}
use Rattle.wasm_valid.proofs.rows.enter_min_above_max.Given as goal

abbrev pub invariant-loop-limits : goal.invariant-loop-limits
invariant-loop-limits l =
    entered l.first.found (flat_map min_above_max (drop l.limits-index l.all))
    ≡ entered l.initial.first.found (flat_map min_above_max l.all)
