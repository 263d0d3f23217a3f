use Rattle.c_link.proofs.Readers.{owner_is, address_is}
use Rattle.c_link.proofs.linked.Linked.owner.Goals as goal

pub returns-clause-owner : goal.returns-clause-owner
returns-clause-owner c = owner_is c.self.inside.units.items c.self.inside.hosts.items c.self.inside.table
    (c.self.invariant.0, c.self.invariant.1, c.self.invariant.2) c.args.self.now c.self.view_is c.args.symbol.now _ c.owner.ensures

pub returns-clause-meaning : goal.returns-clause-meaning
returns-clause-meaning c = address_is c.self.inside.units.items c.self.inside.hosts.items c.self.inside.table
    (c.self.invariant.0, c.self.invariant.1, c.self.invariant.2) c.args.self.now c.self.view_is c.args.symbol.now _ c.owner.ensures
