use Rattle.c_thread.proofs.Common.{sym, refl, ap, ◌∙◌, subst, unit_of, at_rest, Finds, number_in, names_at, held_vars, items_at, running_in}
use Rattle.c_thread.proofs.Common.{UnitScope}
use Rattle.c_thread.proofs.Sights.{sees}
use Rattle.c_thread.proofs.linked.LinkedThread.scope_of.Goals as goal

pub returns : goal.returns
returns c names p trail rest own objects stored =
    let t = c.args.self.now in
    let finds = subst (λ its. Finds c.args.function.table.now.locals (λ q. number_in q (names_at its t.top.item)))
    (sym own) c.requires.function.locals in
    let it = c.args.own.ref_ptr in
    let scope : UnitScope = record {
      depth = t.depth;
      unit = t.top.unit;
      items = c.unit.result;
      objects = record { ref_ptr = it; now = c.args.own.now.objects };
      locals = record { ref_ptr = it; now = c.args.function.table.now.locals };
      values = c.as_slice.result;
      store = record { ref_ptr = it; now = t.store };
    } in
    sees names p trail scope (at_rest (running_in names p t.top) rest) (names_at (items_at p t.top.unit) t.top.item) refl
    (ap (held_vars names (names_at (items_at p t.top.unit) t.top.item)) (sym c.as_slice.ensures.value))
    (ap unit_of c.unit.ensures ∙ sym own)
    finds objects stored
