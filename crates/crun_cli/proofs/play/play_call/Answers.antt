use Rattle.crun_cli.proofs.Common.{◌≡◌, true, length, sym, refl, ap, ◌∙◌, subst, Program, program_of, call_seen}
use Rattle.c_meaning.specs.Linking.{fits}
use Rattle.crun_cli.proofs.Steps.{call_goes_on, call_is_left, call_stops, call_wants, played_if_some}
use Rattle.crun_cli.proofs.play.play_call.Goals as goal

pub call-requires-clause-fits : goal.call-requires-clause-fits
call-requires-clause-fits g c =
    let p : Program = program_of g.H.HostModule c.args.session.now in
    subst (λ x. fits p x ≡ true) (sym (λ i. record { symbol = c.as_slice.ensures i; args = c.as_slice-2.ensures i }))
    (c.requires.fits p refl)

pub returns-in-Err-Memory-clause-left : goal.returns-in-Err-Memory-clause-left
returns-in-Err-Memory-clause-left g c = λ e done more old count behind.
    call_wants g.H.HostModule c.args.session.now c.call.new.self
    (record { symbol = c.as_slice.result.now; args = c.as_slice-2.result.now }) (call_seen c.args.call.now)
    (λ i. record { symbol = c.as_slice.ensures i; args = c.as_slice-2.ensures i }) c.call.ensures.linked c.call.ensures.steps
    c.call.ensures.hosts c.call.ensures.answered c.args.index c.len-from.result (c.len-from.ensures ∙ ap length c.journal.ensures) e done
    old (g.O.Sink.told c.args.out.now) count behind (c.in-Err-Memory.ensures.asked c.in-Err-Memory.field-0-is) more

pub returns-in-Ok-tell-clause-goes_on : goal.returns-in-Ok-tell-clause-goes_on
returns-in-Ok-tell-clause-goes_on g c = λ none e done old count behind.
    call_goes_on g.H.HostModule c.args.session.now c.call.new.self
    (record { symbol = c.as_slice.result.now; args = c.as_slice-2.result.now }) (call_seen c.args.call.now)
    (λ i. record { symbol = c.as_slice.ensures i; args = c.as_slice-2.ensures i }) c.call.ensures.linked c.call.ensures.steps
    c.call.ensures.hosts c.call.ensures.answered c.args.index c.len-from.result (c.len-from.ensures ∙ ap length c.journal.ensures) e done
    old (g.O.Sink.told c.args.out.now) count behind c.in-Ok.outcome c.in-Ok.ensures.ran c.in-Ok.ensures.stands c.in-Ok.ensures.standing
    c.in-Ok.ensures.stored (g.O.Sink.told c.tell.new.out) (sym c.status.ensures ∙ none) c.in-Ok-tell.ensures.whole

pub returns-in-Ok-tell-clause-played : goal.returns-in-Ok-tell-clause-played
returns-in-Ok-tell-clause-played g c =
    played_if_some c.status.result c.in-Ok.outcome _ c.status.ensures (λ status some e done more old count behind.
    call_stops g.H.HostModule c.args.session.now c.call.new.self
    (record { symbol = c.as_slice.result.now; args = c.as_slice-2.result.now }) (call_seen c.args.call.now)
    (λ i. record { symbol = c.as_slice.ensures i; args = c.as_slice-2.ensures i }) c.call.ensures.linked c.call.ensures.steps
    c.call.ensures.hosts c.call.ensures.answered c.args.index c.len-from.result (c.len-from.ensures ∙ ap length c.journal.ensures) e done
    old (g.O.Sink.told c.args.out.now) count behind c.in-Ok.outcome c.in-Ok.ensures.ran c.in-Ok.ensures.stands c.in-Ok.ensures.standing
    c.in-Ok.ensures.stored (g.O.Sink.told c.tell.new.out) status some c.in-Ok-tell.ensures.whole more)

pub returns-in-Err-clause-left : goal.returns-in-Err-clause-left
returns-in-Err-clause-left g c = λ e done more old count behind.
    call_is_left g.H.HostModule c.args.session.now c.call.new.self
    (record { symbol = c.as_slice.result.now; args = c.as_slice-2.result.now }) (call_seen c.args.call.now)
    (λ i. record { symbol = c.as_slice.ensures i; args = c.as_slice-2.ensures i }) c.call.ensures.linked c.call.ensures.steps
    c.call.ensures.hosts c.call.ensures.answered c.args.index c.len-from.result (c.len-from.ensures ∙ ap length c.journal.ensures) e done
    old (g.O.Sink.told c.args.out.now) count behind c.in-Ok.outcome c.in-Ok.ensures.ran c.in-Ok.ensures.stands c.in-Ok.ensures.standing
    c.in-Ok.ensures.stored (g.O.Sink.told c.tell.new.out) c.in-Err.ensures.part more
