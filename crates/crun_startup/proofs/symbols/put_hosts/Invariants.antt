use Rattle.crun_startup.proofs.Common.{◌≡◌, ◌++◌, map, drop, zip, entry_of, symbol_of}
use Rattle.crun_startup.proofs.symbols.put_hosts.Given as goal

abbrev pub invariant-loop-i : goal.invariant-loop-i
invariant-loop-i l = map entry_of l.seen.items ++ zip (map symbol_of (drop l.i l.hosts)) (drop l.i l.ids)
    ≡ map entry_of l.initial.seen.items ++ zip (map symbol_of l.hosts) l.ids
