use Rattle.crun.proofs.Common.{◌≡◌, ◌-◌, ◌≤◌, List, [], ◌++◌, map, length, sym, refl, ap, ◌∙◌, subst, arith, Ask, Init, asks_in, c_run}
use Rattle.crun.proofs.Common.{entries_of, ask_of, events_in, replies_in, address_in, machine_with, naming_in, program_in, units_at}
use Rattle.crun.proofs.Common.{BehindAt, init_count, phase_of, program_of, trail_of}
use Rattle.crun.specs.declared.outcome.Kept.TheVariants as kept
use Rattle.crun.proofs.Functions.{same_program, still_started}
use Rattle.crun.proofs.History.{no_values_told}
use Rattle.crun.proofs.Keeping.{is_fresh, keeps_behind, keeps_over, ready_ended}
use Rattle.crun.proofs.session.Session.init.Goals as goal

pub returns-in-Err-clause-asked : goal.returns-in-Err-clause-asked
returns-in-Err-clause-asked g c rest =
    let start = c.self.invariant.fresh (is_fresh c.self.inside.standing (ap (λ s. phase_of s.standing) c.self.view_is ∙ c.requires)) in (
      _,
      ap (λ j. map ask_of j ++ asks_in (c_run (program_of g.H.HostModule c.args.self.now) rest c.args.self.now.steps
          (replies_in c.self.inside.engine.hosts.journal)).events) (sym start.journal),
    )

pub returns-in-Err-clause-most : goal.returns-in-Err-clause-most
returns-in-Err-clause-most g c =
    let start = c.self.invariant.fresh (is_fresh c.self.inside.standing (ap (λ s. phase_of s.standing) c.self.view_is ∙ c.requires)) in
    omega (arith, start.none_begun)

pub run_inits-requires-clause-first : goal.run_inits-requires-clause-first
run_inits-requires-clause-first g c =
    let start = c.self.invariant.fresh (is_fresh c.self.inside.standing (ap (λ s. phase_of s.standing) c.self.view_is ∙ c.requires)) in
    record {
      journal = start.journal;
      objects = λ replies. ap (λ d. machine_with d (units_at c.self.inside.engine) (trail_of replies [])) start.depth
          ∙ start.objects replies;
    }

pub run_inits-requires-clause-inits : goal.run_inits-requires-clause-inits
run_inits-requires-clause-inits g c =
    ap (map (address_in (naming_in c.self.inside.engine))) c.as_slice.ensures.value
    ∙ c.in-Ok.ensures.meaning (program_in g.H.HostModule c.self.inside.engine) refl

pub invariant_of-self-in-Err-run_inits : goal.invariant_of-self-in-Err-run_inits
invariant_of-self-in-Err-run_inits g c =
    keeps_over g.H.HostModule c.run_inits.new.self c.self.inside.steps c.run_inits.new.inits_run
    (still_started g.H.HostModule c.self.inside.engine c.run_inits.new.self c.in-Err-run_inits.ensures.same c.self.invariant.started)
    (omega (arith, c.in-Err-run_inits.ensures.fewer, c.self.invariant.fewer)) kept.Memory

pub returns-in-Err-run_inits-clause-most : goal.returns-in-Err-run_inits-clause-most
returns-in-Err-run_inits-clause-most g c =
    subst (λ s. c.run_inits.new.inits_run ≤ init_count (program_of g.H.HostModule s)) c.self.view_is c.in-Err-run_inits.ensures.most

pub returns-in-Err-run_inits-clause-asked : goal.returns-in-Err-run_inits-clause-asked
returns-in-Err-run_inits-clause-asked g c rest =
    let start = c.self.invariant.fresh (is_fresh c.self.inside.standing (ap (λ s. phase_of s.standing) c.self.view_is ∙ c.requires)) in
    subst (λ s. (more : List Ask)
    × (asks_in (c_run (program_of g.H.HostModule s) rest s.steps (replies_in c.run_inits.new.self.hosts.journal)).events
    ≡ map ask_of c.run_inits.new.self.hosts.journal ++ more)) c.self.view_is (rw start.left at (c.in-Err-run_inits.ensures.asked rest))

pub invariant_of-self-2 : goal.invariant_of-self-2
invariant_of-self-2 g c =
    keeps_behind g.H.HostModule c.run_inits.new.self c.self.inside.steps c.run_inits.new.inits_run
    (still_started g.H.HostModule c.self.inside.engine c.run_inits.new.self c.in-Ok-run_inits.ensures.same c.self.invariant.started)
    (omega (arith, c.in-Ok-run_inits.ensures.fewer, c.self.invariant.fewer)) c.in-Ok-run_inits.outcome
    c.standing_behind-self-inside.result c.standing_behind-self-inside.ensures c.in-Ok-run_inits.ensures.ready

pub returns-clause-stands : goal.returns-clause-stands
returns-clause-stands g c ready =
    let start = c.self.invariant.fresh (is_fresh c.self.inside.standing (ap (λ s. phase_of s.standing) c.self.view_is ∙ c.requires)) in
    let ended = ready_ended c.in-Ok-run_inits.outcome _ (sym c.standing_behind-self-inside.ensures ∙ ready)
    c.in-Ok-run_inits.ensures.ended in
    let less = c.in-Ok-run_inits.ensures.fewer in
    let fewer = c.self.invariant.fewer in
    record {
      ready = ready;
      fewer = omega (arith, less, fewer);
      last = Init (c.run_inits.new.inits_run - 1);
      values = ap length (no_values_told c.run_inits.new.self.hosts.journal);
      behind = subst (λ p. BehindAt p c.run_inits.new.self.depth (units_at c.run_inits.new.self) c.run_inits.new.self.hosts.journal
          (c.self.inside.steps - c.run_inits.new.self.left) (entries_of p [])
          (Init (c.run_inits.new.inits_run - 1)) (events_in c.run_inits.new.self.hosts.journal))
          (sym (same_program g.H.HostModule c.self.inside.engine c.run_inits.new.self c.in-Ok-run_inits.ensures.same))
          (rw start.left at ended.1);
    }
