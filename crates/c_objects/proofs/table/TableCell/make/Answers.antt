use Rattle.c_objects.proofs.Elements.{make_done}
use Rattle.c_objects.proofs.table.TableCell.make.Goals as goal

pub returns-clause-effect : goal.returns-clause-effect
returns-clause-effect c names m a e =
    let t = c.args.self.now in
    make_done names m a t.is_made t.elements.items t.max c.in_ok-self.field-0.items c.args.count c.args.most e c.if-self.false
    c.if-count-gt-MOST_ELEMENTS.false c.in_ok-self.ensures
