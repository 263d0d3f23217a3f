use Rattle.crun_startup.proofs.Common.{[], flat_map, numbered, ids_of}
use Rattle.crun_startup.proofs.Collected.{Gathered, flats}
use Rattle.crun_startup.proofs.symbols.host_ids.Given as goal

abbrev pub invariant-loop-host : goal.invariant-loop-host
invariant-loop-host l = Gathered (flat_map ids_of) (flats ids_of) (numbered l.counts) [] l.ids.items l.host
