use Rattle.crun_startup.proofs.Common.{[], ◌∷◌, ◌++◌, map, take, sym, ◌∙◌, subst, seen_at, take_next, unit_of, AreAllFirst}
use Rattle.crun_startup.proofs.First.{first_push}
use Rattle.crun_startup.proofs.startup.first_store.Goals as goal

pub loop-k-preserved : goal.loop-k-preserved
loop-k-preserved c =
    let units = map unit_of c.args.linked.now.0 in
    let items = unit_of c.unit.result.now in
    let one = rw (c.as_slice.ensures ∙ c.unit-in-loop-k.ensures.unit) at c.in_ok-first_objects.ensures in
    subst (λ us. AreAllFirst us c.push.new.self.items)
    (sym (take_next units c.loop-k.k items (seen_at unit_of c.args.linked.now.0 c.loop-k.k _ c.unit.ensures)))
    (subst (AreAllFirst (take c.loop-k.k units ++ items ∷ [])) (sym c.in_ok-push.ensures.items)
    (first_push (take c.loop-k.k units) items c.loop-k.units.items c.in_ok-first_objects.field-0 c.loop-k.invariant one))
