use Rattle.crun.proofs.Common.{map, sym, refl, subst, unit_of, hosts_of, HaveCounts, program_in, Engine}
use Rattle.crun.proofs.Beginnings.{first_typed, is_program, is_typed}
use Rattle.crun.proofs.engine.Engine.start.Goals as goal

pub returns-clause-ready : goal.returns-clause-ready
returns-clause-ready g c =
    let e : Engine g.row.H.Denot = record {
      linked = c.args.linked;
      startup = c.in_ok-startup.startup;
      depth = 0;
      hosts = record { list = c.args.hosts; journal = c.new-2.result };
      left = c.args.left;
      not_made = c.in_ok-not_made.not_made;
    } in
    let counted : HaveCounts (hosts_of g.H.HostModule c.args.hosts.items) c.as_slice-2.result.now =
    subst (HaveCounts (hosts_of g.H.HostModule c.args.hosts.items)) (sym c.as_slice-2.ensures.value)
    (rw c.as_slice.ensures.value at c.in_ok-counts.ensures) in
    let program = is_program g.H.HostModule e c.requires in
    let typed = is_typed g.H.HostModule e c.requires c.unit_count.ensures.checked c.unit_count.ensures.links in
    record {
      started = record {
        program = typed;
        tables = c.in_ok-startup.ensures.tables;
        units_are = c.in_ok-startup.ensures.linked (program_in g.H.HostModule e) program counted;
        types_are = c.in_ok-startup.ensures.types (program_in g.H.HostModule e) program counted;
        symbols_are = c.in_ok-startup.ensures.symbols (program_in g.H.HostModule e) program counted;
        not_made = c.in_ok-not_made.ensures;
      };
      stored = c.in_ok-startup.ensures.stored;
      typed = first_typed g.H.HostModule e typed
          (λ replies. c.in_ok-startup.ensures.fresh (program_in g.H.HostModule e) replies refl);
    }

pub returns-clause-first : goal.returns-clause-first
returns-clause-first g c = record {
  journal = c.new-2.ensures;
  objects = λ replies. c.in_ok-startup.ensures.fresh
      (record { units = map unit_of c.args.linked.0; hosts = hosts_of g.H.HostModule c.args.hosts.items })
      replies refl;
}
