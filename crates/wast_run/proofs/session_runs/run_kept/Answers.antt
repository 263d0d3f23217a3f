use Rattle.wast_run.proofs.Common.{◌≡◌, true, take, sym, ◌∙◌, subst, fits, symbol_of, symbols_in}
use Rattle.crun.specs.Sessions.{program_of}
use Rattle.wast_run.specs.Ran.{IsBehind}
use Rattle.wast_run.proofs.Lists.{all_mapped_at, front_next}
use Rattle.wast_run.proofs.Sessions.{kept_stop, runs_further, seen}
use Rattle.wast_run.proofs.session_runs.run_kept.Goals as goal

pub run_call-requires-clause-fits : goal.run_call-requires-clause-fits
run_call-requires-clause-fits g c =
    let item = c.call-item.result in
    let p = program_of g.H.HostModule c.args.session.now in
    subst (λ p. fits p (symbol_of item.now) ≡ true) (sym c.loop-call.invariant.same.program)
    (all_mapped_at (λ x. fits p x ≡ true) seen c.args.kept.now c.loop-call.call-index item c.loop-call-test.true c.call-item.is
    c.requires.fit)

pub loop-call-preserved : goal.loop-call-preserved
loop-call-preserved g c =
    let kept = c.args.kept.now in
    let k = c.loop-call.call-index in
    let item = c.call-item.result in
    record {
      behind = subst (IsBehind g.H.HostModule c.run_call.new.session)
          (front_next seen kept k item item c.loop-call-test.true c.call-item.is)
          (c.in-Ok.ensures.behind (sym c.stop_of.ensures ∙ c.in-None.is) (symbols_in (take k kept)) c.loop-call.invariant.behind);
      same = runs_further g.H.HostModule c.args.session.now c.loop-call.session c.run_call.new.session c.loop-call.invariant.same
          c.run_call.ensures.same;
    }

pub returns-in-Some-clause-stopped : goal.returns-in-Some-clause-stopped
returns-in-Some-clause-stopped g c = λ rest.
    kept_stop g.H.HostModule c.args.session.now c.loop-call.session c.loop-call.invariant.same c.args.kept.now c.loop-call.call-index
    c.call-item.result c.loop-call-test.true c.call-item.is c.in-Ok.outcome c.in-Some.stop (sym c.stop_of.ensures ∙ c.in-Some.is)
    c.loop-call.invariant.behind c.in-Ok.ensures.came rest
