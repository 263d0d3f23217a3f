use Rattle.std.proofs.Common.{sym, ◌∙◌}
use Rattle.c_link.proofs.Readers.{address_is}
use Rattle.c_link.proofs.OwnNames.{named_elsewhere, table_at}
use Rattle.c_link.proofs.linked.Linked.func_named.Goals as goal

pub returns-else-has : goal.returns-else-has
returns-else-has c p there =
    named_elsewhere c.self.inside.units.items c.self.inside.hosts.items c.self.inside.own.items c.self.invariant.3 c.args.self.now
    c.self.view_is c.args.u c.index.result.now
    (table_at c.self.inside.units.items c.self.inside.hosts.items c.self.inside.own.items c.self.invariant.3 c.args.self.now
    c.self.view_is c.args.u c.requires c.index.result.now c.index.ensures) c.args.name.now p there
    c.owner.result (sym c.has.ensures ∙ c.if-has.false)
    (address_is c.self.inside.units.items c.self.inside.hosts.items c.self.inside.table
    (c.self.invariant.0, c.self.invariant.1, c.self.invariant.2) c.args.self.now c.self.view_is c.args.name.now _ c.owner.ensures p there)
