use Rattle.crun_startup.proofs.Common.{[], map, flat_map, numbered, unit_of, entry_of, unit_entries}
use Rattle.crun_startup.proofs.Collected.{Gathered, flats}
use Rattle.crun_startup.proofs.symbols.of_units.Given as goal

abbrev pub invariant-loop-unit : goal.invariant-loop-unit
invariant-loop-unit l =
    Gathered (flat_map unit_entries) (flats unit_entries) (numbered (map unit_of l.linked.0)) [] (map entry_of l.seen.items) l.unit
