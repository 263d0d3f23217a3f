use Rattle.crun.proofs.Common.{map, refl, unit_of, hosts_of, program_in, Engine}
use Rattle.crun.proofs.Beginnings.{first_typed}
use Rattle.crun.proofs.engine.Engine.restart.Goals as goal

pub returns-clause-ready : goal.returns-clause-ready
returns-clause-ready g c =
    let before = c.args.self in
    let e : Engine g.row.H.Denot = record {
      linked = before.linked;
      startup = record {
        units = before.startup.units;
        symbols = before.startup.symbols;
        types = before.startup.types;
        store = c.in_ok-store.store;
      };
      depth = 0;
      hosts = record { list = before.hosts.list; journal = c.new.result };
      left = c.args.left;
      not_made = before.not_made;
    } in
    record {
      started = record {
        program = c.requires.program;
        tables = c.requires.tables;
        units_are = c.requires.units_are;
        types_are = c.requires.types_are;
        symbols_are = c.requires.symbols_are;
        not_made = c.requires.not_made;
      };
      stored = c.in_ok-store.ensures.stored;
      typed = first_typed g.H.HostModule e c.requires.program
          (λ replies. c.in_ok-store.ensures.fresh (program_in g.H.HostModule e) replies refl);
    }

pub returns-clause-first : goal.returns-clause-first
returns-clause-first g c = record {
  journal = c.new.ensures;
  objects = λ replies. c.in_ok-store.ensures.fresh
      (record { units = map unit_of c.args.self.linked.0; hosts = hosts_of g.H.HostModule c.args.self.hosts.list.items })
      replies refl;
}
