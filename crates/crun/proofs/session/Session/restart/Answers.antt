use Rattle.crun.proofs.Common.{[], sym, refl, ap, ◌∙◌, arith, machine_with, units_at, trail_of}
use Rattle.crun.proofs.session.Session.restart.Goals as goal

pub invariant_of-result : goal.invariant_of-result
invariant_of-result g c = record {
  started = c.in_ok-engine.ensures.ready.started;
  fewer = let left = c.in_ok-engine.ensures.left in omega (arith, left);
  ready = c.in_ok-engine.ensures.ready;
  fresh = λ is. record {
    left = c.in_ok-engine.ensures.left;
    depth = c.in_ok-engine.ensures.depth;
    none_begun = refl;
    journal = c.in_ok-engine.ensures.first.journal;
    objects = λ replies. ap (λ d. machine_with d (units_at c.in_ok-engine.engine) (trail_of replies [])) (sym c.in_ok-engine.ensures.depth)
        ∙ c.in_ok-engine.ensures.first.objects replies;
  };
}
