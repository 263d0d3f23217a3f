use Rattle.crun_startup.proofs.Common.{◌+◌, [], ◌∷◌, ◌++◌, map, take, sym, refl, subst, arith, length-append, seen_at, take_next, unit_of}
use Rattle.crun_startup.proofs.Common.{AreUnits}
use Rattle.crun_startup.proofs.UnitsPush.{units_push}
use Rattle.crun_startup.proofs.startup.linked_units.Goals as goal

pub loop-k-preserved : goal.loop-k-preserved
loop-k-preserved c =
    let units = map unit_of c.args.linked.now.0 in
    let k = c.loop-k.k in
    let l = c.in_ok-linked_unit.field-0 in
    let made = c.loop-k.units.items in
    let symbols = c.args.symbols.now.value in
    let one = c.in_ok-linked_unit.ensures in (
      rw c.in_ok-push.ensures.items (omega (arith, length-append made (l ∷ []), c.loop-k.invariant.0)),
      subst (AreUnits symbols (take (k + 1) units)) (sym c.in_ok-push.ensures.items)
          (subst (λ us. AreUnits symbols us (made ++ l ∷ []))
          (sym (take_next units k (unit_of l.items.value) (seen_at unit_of c.args.linked.now.0 k _ one.0)))
          (units_push symbols (take k units) (unit_of l.items.value) made l refl (rw c.loop-k.invariant.0 one.1) c.loop-k.invariant.1)),
    )
