use Rattle.crun.proofs.Common.{◌≡◌, Err, ap, host_of, hosts_of}
use Rattle.crun.specs.declared.hosts.HostsRefusal.TheVariants as refusal
use Rattle.crun.proofs.HostSymbols.{all_hosts, host_more, host_twice, symbols_mean}
use Rattle.crun.proofs.hosts.host_symbols.Goals as goal

pub returns-in-Err-clause-twice : goal.returns-in-Err-clause-twice
returns-in-Err-clause-twice g c k is =
    let m = g.H.HostModule in
    let same : c.in-Err.refusal ≡ refusal.Twice k = cc in
    let found = c.in-Err.ensures.twice k (ap Err same) in
    host_twice (host_of m) c.args.hosts.now c.loop-k.k c.index-hosts-k.result c.loop-k-test.true c.index-hosts-k.is
    c.loop-k.list.symbols.items k c.loop-k.invariant.1 found.0 found.1

pub loop-k-preserved : goal.loop-k-preserved
loop-k-preserved g c =
    let m = g.H.HostModule in (
      c.in-Ok.ensures.known,
      host_more (host_of m) c.args.hosts.now c.loop-k.k c.index-hosts-k.result c.loop-k-test.true c.index-hosts-k.is
          c.loop-k.list.symbols.items c.put_host.new.self.symbols.items c.in-Ok.ensures.symbols c.loop-k.invariant.1,
    )

pub returns-clause-meaning : goal.returns-clause-meaning
returns-clause-meaning g c =
    let m = g.H.HostModule in
    symbols_mean _ (hosts_of m c.args.hosts.now) (all_hosts (host_of m) c.args.hosts.now c.loop-k.list.symbols.items c.loop-k.k
    c.loop-k-test.false c.loop-k.invariant.1)
