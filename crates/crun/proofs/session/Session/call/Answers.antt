use Rattle.crun.proofs.Common.{◌≡◌, List, ◌∷◌, ◌++◌, map, length, sym, refl, ap, ◌∙◌, subst, arith, Ask, Call, asks_in, unit_of, c_run}
use Rattle.crun.proofs.Common.{AreStored, hosts_of, ask_of, replies_in, Asks, naming_of, units_at, IsOutcome, Stands, program_of, told_by}
use Rattle.crun.specs.declared.outcome.Kept.TheVariants as kept
use Rattle.crun.proofs.CallsBehind.{call_asked, call_ran, call_stands}
use Rattle.crun.proofs.Functions.{still_started}
use Rattle.crun.proofs.Keeping.{keeps_behind, keeps_over, not_over}
use Rattle.crun.proofs.session.Session.call.Goals as goal

pub invariant_of-self : goal.invariant_of-self
invariant_of-self g c =
    keeps_over g.H.HostModule c.run_symbol.new.self c.self.inside.steps c.self.inside.inits_run
    (still_started g.H.HostModule c.self.inside.engine c.run_symbol.new.self c.in-Err.ensures.same c.self.invariant.started)
    (omega (arith, c.in-Err.ensures.fewer, c.self.invariant.fewer)) kept.Memory

pub returns-in-Err : goal.returns-in-Err
returns-in-Err g c =
    let w = c.in-Err.ensures.wanting in
    record {
      over = not_over c.args.self.now.standing _ (λ why is. c.in_default.not-Over why (ap (λ s. s.standing) c.self.view_is ∙ is));
      only_over = λ why is. absurd cc;
      ran = tt;
      stands = tt;
      standing = tt;
      stored = tt;
      answered = (
        w.0,
        subst (λ s. Asks g.H.HostModule s.hosts s.journal w.0 c.run_symbol.new.self.hosts.list.items
            c.run_symbol.new.self.hosts.journal) c.self.view_is w.1,
      );
      memory = λ is. refl;
      asked = λ is calls rest told stands.
          subst (λ s. (more : List Ask)
          × (asks_in (c_run (program_of g.H.HostModule s)
          (calls ++ (record { symbol = c.args.symbol.now; args = c.args.args.now }) ∷ rest)
          s.steps (replies_in c.run_symbol.new.self.hosts.journal)).events ≡ map ask_of c.run_symbol.new.self.hosts.journal ++ more))
          c.self.view_is
          (call_asked g.H.HostModule c.self.inside.engine c.run_symbol.new.self c.self.inside.steps c.self.inside.inits_run
          c.self.inside.standing c.in-Err.ensures.fewer (record { symbol = c.args.symbol.now; args = c.args.args.now })
          w.0 w.1 w.2 calls rest told (subst (λ s. Stands g.H.HostModule s calls told) (sym c.self.view_is) stands));
      inits = ap (λ s. s.inits_run) c.self.view_is;
      linked = c.in-Err.ensures.same.linked ∙ ap (λ s. s.linked) c.self.view_is;
      hosts = c.in-Err.ensures.same.hosts ∙ ap (λ s. hosts_of g.H.HostModule s.hosts) c.self.view_is;
      steps = ap (λ s. s.steps) c.self.view_is;
    }

pub invariant_of-self-2 : goal.invariant_of-self-2
invariant_of-self-2 g c =
    keeps_behind g.H.HostModule c.run_symbol.new.self c.self.inside.steps c.self.inside.inits_run
    (still_started g.H.HostModule c.self.inside.engine c.run_symbol.new.self c.in-Ok.ensures.same c.self.invariant.started)
    (omega (arith, c.in-Ok.ensures.fewer, c.self.invariant.fewer)) c.in-Ok.outcome
    c.standing_behind-self-inside.result c.standing_behind-self-inside.ensures c.in-Ok.ensures.ready

pub returns : goal.returns
returns g c =
    let came = c.in-Ok.ensures.came in
    record {
      over = not_over c.args.self.now.standing _ (λ why is. c.in_default.not-Over why (ap (λ s. s.standing) c.self.view_is ∙ is));
      only_over = tt;
      ran = λ calls rest told asks stands is last_one.
          subst (λ s. IsOutcome c.in-Ok.outcome (Call (length calls)) c.run_symbol.new.self.hosts.journal
          (told_by told asks c.in-Ok.outcome) (units_at c.run_symbol.new.self)
          (c_run (program_of g.H.HostModule s) (calls ++ (record { symbol = c.args.symbol.now; args = c.args.args.now }) ∷ rest) s.steps
          (replies_in c.run_symbol.new.self.hosts.journal))) c.self.view_is
          (call_ran g.H.HostModule c.self.inside.engine c.run_symbol.new.self c.self.inside.steps c.self.inside.inits_run
          c.self.inside.standing c.in-Ok.ensures.fewer (record { symbol = c.args.symbol.now; args = c.args.args.now })
          came.0 came.1 c.in-Ok.outcome came.2 c.in-Ok.ensures.spent calls rest told asks
          (subst (λ s. Stands g.H.HostModule s calls told) (sym c.self.view_is) stands)
          (is ∙ ap (λ s. s.journal ++ asks) (sym c.self.view_is)) last_one);
      stands = λ ready calls told asks stands is.
          call_stands g.H.HostModule c.self.inside.engine c.run_symbol.new.self c.self.inside.steps c.self.inside.inits_run
          c.self.inside.standing c.in-Ok.ensures.fewer (record { symbol = c.args.symbol.now; args = c.args.args.now })
          came.0 came.1 c.in-Ok.outcome came.2 c.in-Ok.ensures.same c.standing_behind-self-inside.result
          c.standing_behind-self-inside.ensures ready
          calls told asks (subst (λ s. Stands g.H.HostModule s calls told) (sym c.self.view_is) stands)
          (is ∙ ap (λ s. s.journal ++ asks) (sym c.self.view_is));
      standing = c.standing_behind-self-inside.ensures;
      stored = subst (λ l. AreStored (naming_of (map unit_of l.0)) c.run_symbol.new.self.startup.store.units.items)
          (sym c.in-Ok.ensures.same.linked)
          c.in-Ok.ensures.stored;
      answered = (
        came.0,
        subst (λ s. Asks g.H.HostModule s.hosts s.journal came.0 c.run_symbol.new.self.hosts.list.items
            c.run_symbol.new.self.hosts.journal) c.self.view_is came.1,
      );
      memory = tt;
      asked = tt;
      inits = ap (λ s. s.inits_run) c.self.view_is;
      linked = c.in-Ok.ensures.same.linked ∙ ap (λ s. s.linked) c.self.view_is;
      hosts = c.in-Ok.ensures.same.hosts ∙ ap (λ s. hosts_of g.H.HostModule s.hosts) c.self.view_is;
      steps = ap (λ s. s.steps) c.self.view_is;
    }
