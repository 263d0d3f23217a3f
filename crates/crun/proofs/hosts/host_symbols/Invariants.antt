use Rattle.crun.proofs.Common.{◌≡◌, take, hosts_of, AreKnown, symbols_of_hosts}
use Rattle.crun.proofs.hosts.host_symbols.Given as goal

abbrev pub invariant-loop-k : goal.invariant-loop-k
invariant-loop-k g l = AreKnown l.list.numbers l.list.symbols.items
    × (l.list.symbols.items ≡ symbols_of_hosts (take l.k (hosts_of g.H.HostModule l.hosts)))
