use Rattle.wasm_valid.proofs.Common.{◌≡◌, drop, flat_map, entered, too_many_pages}
use Rattle.wasm_valid.proofs.rows.enter_too_many_pages.Given as goal

abbrev pub invariant-loop-limits : goal.invariant-loop-limits
invariant-loop-limits l =
    entered l.first.found (flat_map too_many_pages (drop l.limits-index l.memories))
    ≡ entered l.initial.first.found (flat_map too_many_pages l.memories)
