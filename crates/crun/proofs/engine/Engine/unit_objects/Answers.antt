use Rattle.crun.proofs.Common.{◌≡◌, slice_get, None, MatchOption, sym, ap, ◌∙◌, subst, naming_in, units_at, AreFound}
use Rattle.crun.proofs.ObjectsSeen.{are_found, no_objects, no_unit}
use Rattle.crun.proofs.engine.Engine.unit_objects.Goals as goal

pub returns-in_err-own : goal.returns-in_err-own
returns-in_err-own g c =
    subst (λ o. MatchOption o (slice_get (units_at c.args.self.now) c.args.unit ≡ None)
    (λ x. AreFound (naming_in c.args.self.now) (units_at c.args.self.now) c.args.unit x.0.now x.1.now)) (sym c.from_residual.ensures)
    (no_unit g.H.HostModule c.args.self.now c.requires c.args.unit
    (c.in_err-own.ensures ∙ ap (λ us. slice_get us c.args.unit) c.as_slice.ensures.value))

pub returns-in_err-objects : goal.returns-in_err-objects
returns-in_err-objects g c =
    subst (λ o. MatchOption o (slice_get (units_at c.args.self.now) c.args.unit ≡ None)
    (λ x. AreFound (naming_in c.args.self.now) (units_at c.args.self.now) c.args.unit x.0.now x.1.now))
    (sym c.from_residual-in_err-objects.ensures)
    (no_objects g.H.HostModule c.args.self.now c.requires c.args.unit
    (c.in_err-objects.ensures ∙ ap (λ us. slice_get us c.args.unit) c.as_slice-2.ensures.value))

pub returns : goal.returns
returns g c = are_found g.H.HostModule c.args.self.now c.requires c.args.unit c.in_ok-own.own.now c.in_ok-objects.objects.now
    (c.in_ok-own.ensures ∙ ap (λ us. slice_get us c.args.unit) c.as_slice.ensures.value)
    (c.in_ok-objects.ensures ∙ ap (λ us. slice_get us c.args.unit) c.as_slice-2.ensures.value)
