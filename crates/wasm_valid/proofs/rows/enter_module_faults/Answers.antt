use Rattle.wasm_valid.proofs.ModuleRows.{all_rows}
use Rattle.wasm_valid.proofs.rows.enter_module_faults.Goals as goal

pub returns : goal.returns
returns c =
    let rows = all_rows c.args.m.now c.args.first.now.found _ _ _ _ _ _ _ _ _ _ _ _ _ _ _ _
    (record { kept = c.enter_import_types.ensures })
    (record { kept = c.enter_func_types.ensures })
    (record { kept = rw (c.as_slice-tables.ensures.value, c.requires.tables) at c.enter_too_many.ensures })
    (record { kept = rw (c.as_slice-memories.ensures.value, c.requires.memories) at c.enter_too_many-2.ensures })
    (record { kept = rw (c.as_slice-tables.ensures.value, c.requires.tables) at c.enter_min_above_max.ensures })
    (record { kept = rw (c.as_slice-memories.ensures.value, c.requires.memories) at c.enter_min_above_max-2.ensures })
    (record { kept = rw (c.as_slice-memories.ensures.value, c.requires.memories) at c.enter_too_many_pages.ensures })
    (record { kept = c.enter_expressions.ensures })
    (record { kept = c.enter_expressions-2.ensures })
    (record { kept = c.enter_expressions-3.ensures })
    (record { kept = c.enter_unknown_exports.ensures })
    (record { kept = rw c.as_slice.ensures at c.in_ok-enter_duplicate_exports.ensures })
    (record { kept = c.enter_start.ensures })
    (record { kept = c.enter_unknown_tables.ensures })
    (record { kept = c.enter_unknown_memories.ensures })
    (record { kept = c.enter_unknown_elements.ensures }) in
    rows.kept
