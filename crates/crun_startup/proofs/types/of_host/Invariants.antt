use Rattle.crun_startup.proofs.Common.{[], map, Some, option_map, func_type_of, host_type}
use Rattle.crun_startup.proofs.Collected.{Gathered, maps}
use Rattle.crun_startup.proofs.types.of_host.Given as goal

abbrev pub invariant-loop-host : goal.invariant-loop-host
invariant-loop-host l =
    Gathered (map Some) (maps Some) (map host_type l.hosts) [] (map (option_map func_type_of) l.types.items) l.host-index
