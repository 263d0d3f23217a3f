use Rattle.wast_run.proofs.Common.{◌≡◌, true, [], ◌∷◌, length, sym, ◌∙◌, subst, arith, fits, AllFit, StopsAt, symbol_of, symbols_in}
use Rattle.wast_run.proofs.Common.{symbols_of}
use Rattle.crun.specs.Sessions.{program_of}
use Rattle.wast_run.proofs.Lists.{all_before, all_last}
use Rattle.wast_run.proofs.Sessions.{last_came, of_first, runs_further, stops_later}
use Rattle.wast_run.proofs.session_runs.run_all.Goals as goal

pub returns-in-Ok-Some-clause-ran : goal.returns-in-Ok-Some-clause-ran
returns-in-Ok-Some-clause-ran g c =
    let stopped = rw c.in-Ok-Some.field-0-is at c.in-Ok-Some.ensures.stopped in
    stops_later c.in-Ok-Some.stop 0 (length c.args.kept.now) _ (omega arith) (stopped (symbols_of c.args.kept.now c.args.last.now))

pub run_kept-requires-clause-fit : goal.run_kept-requires-clause-fit
run_kept-requires-clause-fit g c =
    let kept = symbols_in c.args.kept.now in
    subst (λ p. AllFit p kept) (sym c.run_inits.ensures.same.program)
    (all_before (λ x. fits (program_of g.H.HostModule c.args.session.now) x ≡ true) kept (symbol_of c.args.last.now) c.requires.fit)

pub returns-in-Ok-Some-run_kept-clause-ran : goal.returns-in-Ok-Some-run_kept-clause-ran
returns-in-Ok-Some-run_kept-clause-ran g c =
    let s = c.run_inits.new.session in
    let stopped = rw c.in-Ok-Some-run_kept.field-0-is at c.in-Ok-Some-run_kept.ensures.stopped in
    of_first g.H.HostModule c.args.session.now s c.run_inits.ensures.same (StopsAt c.in-Ok-Some-run_kept.stop (length c.args.kept.now))
    (symbols_of c.args.kept.now c.args.last.now) (stopped (symbol_of c.args.last.now ∷ []))

pub run_call-requires-clause-fits : goal.run_call-requires-clause-fits
run_call-requires-clause-fits g c =
    let same = runs_further g.H.HostModule c.args.session.now c.run_inits.new.session c.run_kept.new.session c.run_inits.ensures.same
    c.run_kept.ensures.same in
    subst (λ p. fits p (symbol_of c.args.last.now) ≡ true) (sym same.program)
    (all_last (λ x. fits (program_of g.H.HostModule c.args.session.now) x ≡ true) (symbols_in c.args.kept.now) (symbol_of c.args.last.now)
    c.requires.fit)

pub returns-in-Ok-clause-ran : goal.returns-in-Ok-clause-ran
returns-in-Ok-clause-ran g c =
    let same = runs_further g.H.HostModule c.args.session.now c.run_inits.new.session c.run_kept.new.session c.run_inits.ensures.same
    c.run_kept.ensures.same in
    last_came g.H.HostModule c.args.session.now c.run_kept.new.session same c.args.kept.now c.args.last.now c.in-Ok.outcome
    (c.in-Ok-None-run_kept.ensures.behind c.in-Ok-None-run_kept.field-0-is) c.in-Ok.ensures.came

pub returns-in-Ok-clause-linked : goal.returns-in-Ok-clause-linked
returns-in-Ok-clause-linked g c = c.run_call.ensures.same.linked ∙ c.run_kept.ensures.same.linked ∙ c.run_inits.ensures.same.linked

pub returns-in-Ok-clause-hosts : goal.returns-in-Ok-clause-hosts
returns-in-Ok-clause-hosts g c = c.run_call.ensures.same.hosts ∙ c.run_kept.ensures.same.hosts ∙ c.run_inits.ensures.same.hosts
