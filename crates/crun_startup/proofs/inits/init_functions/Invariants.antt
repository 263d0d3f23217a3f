use Rattle.crun_startup.proofs.Common.{[], map, flat_map, numbered, unit_of, unit_inits}
use Rattle.crun_startup.proofs.Collected.{Gathered, flats}
use Rattle.crun_startup.proofs.inits.init_functions.Given as goal

abbrev pub invariant-loop-unit : goal.invariant-loop-unit
invariant-loop-unit l =
    Gathered (flat_map unit_inits) (flats unit_inits) (numbered (map unit_of l.linked.0)) [] l.found.items l.unit
