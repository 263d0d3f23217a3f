use Rattle.crun_startup.proofs.Common.{◌≡◌, ◌++◌, map, drop, Some, host_type, parts, types_in}
use Rattle.crun_startup.proofs.types.of_hosts.Given as goal

abbrev pub invariant-loop-count : goal.invariant-loop-count
invariant-loop-count l = map types_in l.lists.items ++ map (map Some) (parts (drop l.count-index l.counts) (map host_type l.rest))
    ≡ map (map Some) (parts l.counts (map host_type l.hosts))
