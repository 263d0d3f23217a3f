use Rattle.c_link.proofs.Readers.{signature_is}
use Rattle.c_link.proofs.linked.Linked.signature.Goals as goal

pub returns : goal.returns
returns c = signature_is c.self.inside.units.items c.self.inside.hosts.items c.self.inside.table
    (c.self.invariant.0, c.self.invariant.1, c.self.invariant.2) c.args.self.now c.self.view_is c.args.symbol.now _ c.unit_type.ensures
