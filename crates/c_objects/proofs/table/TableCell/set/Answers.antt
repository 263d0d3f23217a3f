use Rattle.std.proofs.Common.{arith}
use Rattle.c_objects.proofs.Elements.{set_done}
use Rattle.c_objects.proofs.table.TableCell.set.Goals as goal

pub returns-clause-effect : goal.returns-clause-effect
returns-clause-effect c names m a e =
    let t = c.args.self.now in
    set_done names m a t.is_made t.elements.items t.max c.args.at c.args.func c.in-Some.func c.args.signature e c.in-Some.is
    c.if-signature-eq0.false
    (omega (arith, c.if-at-len.false, c.len.ensures, t.elements.ok.0))
