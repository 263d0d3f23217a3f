use Rattle.crun.proofs.Common.{◌≡◌, ◌++◌, take, host_of, AreKnown, symbols_of_host}
use Rattle.crun.proofs.hosts.SymbolList.put_host.Given as goal

abbrev pub invariant-loop-i : goal.invariant-loop-i
invariant-loop-i g l = AreKnown l.self.numbers l.self.symbols.items
    × (l.self.symbols.items
    ≡ l.initial.self.symbols.items ++ take l.i (symbols_of_host (host_of g.H.HostModule l.host)))
