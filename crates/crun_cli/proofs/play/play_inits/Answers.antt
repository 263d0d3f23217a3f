use Rattle.std.proofs.Common.{◌∙◌, ◌-◌, sym, rules}
use Rattle.crun_cli.proofs.Steps.{inits_are_left, inits_go_on, inits_stop, inits_want, played_if_some}
use Rattle.crun_cli.proofs.play.play_inits.Goals as goal

pub returns-in-Err-clause-left : goal.returns-in-Err-clause-left
returns-in-Err-clause-left g c = λ calls.
    inits_want g.H.HostModule c.args.session.now c.init.new.self c.requires.none_asked c.init.ensures.linked c.init.ensures.steps
    c.init.ensures.hosts c.init.ensures.answered (g.O.Sink.told c.args.out.now) c.in-Err.ensures.asked calls

pub returns-in-Ok-tell-clause-behind : goal.returns-in-Ok-tell-clause-behind
returns-in-Ok-tell-clause-behind g c = λ none.
    inits_go_on g.H.HostModule c.args.session.now c.init.new.self c.requires.none_asked c.init.ensures.linked c.init.ensures.steps
    c.init.ensures.hosts c.init.ensures.answered (g.O.Sink.told c.args.out.now) c.in-Ok.outcome (c.init.new.self.inits_run - 1)
    c.saturating_sub-last.result (search rules) c.in-Ok.ensures.ran c.in-Ok.ensures.stands c.in-Ok.ensures.standing c.in-Ok.ensures.stored
    (g.O.Sink.told c.tell.new.out) (sym c.status.ensures ∙ none) c.in-Ok-tell.ensures.whole

pub returns-in-Ok-tell-clause-played : goal.returns-in-Ok-tell-clause-played
returns-in-Ok-tell-clause-played g c =
    played_if_some c.status.result c.in-Ok.outcome _ c.status.ensures (λ status some calls. inits_stop g.H.HostModule c.args.session.now
    c.init.new.self c.requires.none_asked c.init.ensures.linked c.init.ensures.steps c.init.ensures.hosts c.init.ensures.answered
    (g.O.Sink.told c.args.out.now) c.in-Ok.outcome (c.init.new.self.inits_run - 1) c.saturating_sub-last.result (search rules)
    c.in-Ok.ensures.ran c.in-Ok.ensures.stands c.in-Ok.ensures.standing c.in-Ok.ensures.stored (g.O.Sink.told c.tell.new.out) status some
    c.in-Ok-tell.ensures.whole calls)

pub returns-in-Err-tell-clause-left : goal.returns-in-Err-tell-clause-left
returns-in-Err-tell-clause-left g c = λ calls.
    inits_are_left g.H.HostModule c.args.session.now c.init.new.self c.requires.none_asked c.init.ensures.linked c.init.ensures.steps
    c.init.ensures.hosts c.init.ensures.answered (g.O.Sink.told c.args.out.now) c.in-Ok.outcome (c.init.new.self.inits_run - 1)
    c.saturating_sub-last.result (search rules) c.in-Ok.ensures.ran c.in-Ok.ensures.stands c.in-Ok.ensures.standing c.in-Ok.ensures.stored
    (g.O.Sink.told c.tell.new.out) c.in-Err-tell.ensures.part calls
