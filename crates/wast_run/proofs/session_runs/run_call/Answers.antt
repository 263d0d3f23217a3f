use Rattle.wast_run.proofs.Common.{◌≡◌, true, sym, ◌∙◌, subst, fits, symbol_of}
use Rattle.crun.specs.Sessions.{program_of}
use Rattle.wast_run.proofs.Sessions.{call_behind, call_came}
use Rattle.wast_run.proofs.session_runs.run_call.Goals as goal

pub call-requires-clause-fits : goal.call-requires-clause-fits
call-requires-clause-fits g c =
    subst (λ x. fits (program_of g.H.HostModule c.args.session.now) x ≡ true)
    (sym (λ i. record { symbol = (c.as_slice.ensures ∙ c.in-Ok.ensures) i; args = c.as_slice-2.ensures i })) c.requires.fits

pub returns-in-Ok-call-clause-behind : goal.returns-in-Ok-call-clause-behind
returns-in-Ok-call-clause-behind g c = λ ended done behind.
    call_behind g.H.HostModule c.args.session.now c.call.new.self
    (record { symbol = c.as_slice.result.now; args = c.as_slice-2.result.now }) (symbol_of c.args.call.now)
    (λ i. record { symbol = (c.as_slice.ensures ∙ c.in-Ok.ensures) i; args = c.as_slice-2.ensures i })
    c.call.ensures.answered done behind c.in-Ok-call.outcome c.in-Ok-call.ensures.stands c.in-Ok-call.ensures.standing ended

pub returns-in-Ok-call-clause-came : goal.returns-in-Ok-call-clause-came
returns-in-Ok-call-clause-came g c = λ done rest behind last.
    call_came g.H.HostModule c.args.session.now c.call.new.self
    (record { symbol = c.as_slice.result.now; args = c.as_slice-2.result.now }) (symbol_of c.args.call.now)
    (λ i. record { symbol = (c.as_slice.ensures ∙ c.in-Ok.ensures) i; args = c.as_slice-2.ensures i })
    c.call.ensures.answered done behind c.in-Ok-call.outcome c.in-Ok-call.ensures.ran rest last
