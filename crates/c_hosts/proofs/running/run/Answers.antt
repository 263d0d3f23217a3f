use Rattle.c_hosts.proofs.Common.{◌-◌, ◌++◌, sym, ap, ◌∙◌, subst, arith, Answered, Runs}
use Rattle.c_hosts.proofs.Offers.{answered_keep, asks_on}
use Rattle.c_hosts.proofs.Runs.{runs_more, runs_part}
use Rattle.c_hosts.proofs.running.run.Goals as goal

pub returns-in-Err-clause-wanting : goal.returns-in-Err-clause-wanting
returns-in-Err-clause-wanting g c =
    let ran = c.loop-steps.invariant.ran in (
      ran.0,
      record {
        written = ap (λ h. h.journal) c.in-Err.ensures.wanting ∙ ran.1.written;
        answered =
            subst (λ hosts. Answered g.H.HostModule c.args.hosts.now.list.items ran.0 hosts.list.items) (sym c.in-Err.ensures.wanting)
            ran.1.answered;
      },
      runs_part g.H.HostModule c.args.units.now c.args.types.now c.args.hosts.now.list.items c.args.thread.now c.args.steps.now
          c.loop-steps.steps ran.0 c.loop-steps.thread ran.2 c.loop-steps.invariant.fewer,
    )

pub returns-in-Some-clause-ran : goal.returns-in-Some-clause-ran
returns-in-Some-clause-ran g c =
    let ran = c.loop-steps.invariant.ran in
    let one = c.in-Ok.ensures.ran in (
      ran.0 ++ one.0,
      asks_on g.H.HostModule c.args.hosts.now.list.items c.args.hosts.now.journal ran.0 c.loop-steps.hosts.list.items
          c.loop-steps.hosts.journal one.0
          c.statement.new.hosts.list.items c.statement.new.hosts.journal ran.1 one.1,
      subst (λ e. Runs g.H.HostModule c.args.units.now c.args.types.now c.args.hosts.now.list.items c.args.thread.now
          (c.args.steps.now - (c.loop-steps.steps - 1)) (ran.0 ++ one.0) e c.statement.new.thread) c.in-Some.is
          (runs_more g.H.HostModule c.args.units.now c.args.types.now c.args.hosts.now.list.items c.args.thread.now c.args.steps.now
          c.loop-steps.steps ran.0 c.loop-steps.thread ran.2 c.loop-steps.invariant.fewer c.loop-steps.hosts.list.items one.0 c.in-Ok.came
          c.statement.new.thread c.loop-steps-test.true
          (answered_keep g.H.HostModule c.args.hosts.now.list.items ran.0 c.loop-steps.hosts.list.items ran.1.answered)
          c.loop-steps.invariant.stored one.2),
    )

pub loop-steps-preserved : goal.loop-steps-preserved
loop-steps-preserved g c =
    let ran = c.loop-steps.invariant.ran in
    let one = c.in-Ok.ensures.ran in
    record {
      fewer = omega (arith, c.loop-steps.invariant.fewer);
      stored = λ names s. c.in-Ok.ensures.stored names (c.loop-steps.invariant.stored names s);
      ran = (
        ran.0 ++ one.0,
        asks_on g.H.HostModule c.args.hosts.now.list.items c.args.hosts.now.journal ran.0 c.loop-steps.hosts.list.items
            c.loop-steps.hosts.journal one.0
            c.statement.new.hosts.list.items c.statement.new.hosts.journal ran.1 one.1,
        subst (λ e. Runs g.H.HostModule c.args.units.now c.args.types.now c.args.hosts.now.list.items c.args.thread.now
            (c.args.steps.now - (c.loop-steps.steps - 1)) (ran.0 ++ one.0) e c.statement.new.thread) c.in-None.is
            (runs_more g.H.HostModule c.args.units.now c.args.types.now c.args.hosts.now.list.items c.args.thread.now c.args.steps.now
            c.loop-steps.steps ran.0 c.loop-steps.thread ran.2 c.loop-steps.invariant.fewer c.loop-steps.hosts.list.items one.0 c.in-Ok.came
            c.statement.new.thread c.loop-steps-test.true
            (answered_keep g.H.HostModule c.args.hosts.now.list.items ran.0 c.loop-steps.hosts.list.items ran.1.answered)
            c.loop-steps.invariant.stored one.2),
      );
    }
