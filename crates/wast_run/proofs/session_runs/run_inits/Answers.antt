use Rattle.std.proofs.Common.{◌-◌, sym, ◌∙◌}
use Rattle.wast_run.proofs.Sessions.{if_stop, inits_behind, inits_stop}
use Rattle.wast_run.proofs.session_runs.run_inits.Goals as goal

pub returns-in-Ok-clause-behind : goal.returns-in-Ok-clause-behind
returns-in-Ok-clause-behind g c = λ none.
    inits_behind g.H.HostModule c.args.session.now c.init.new.self c.requires.no_hosts c.requires.none_asked c.init.ensures.answered
    c.in-Ok.outcome c.in-Ok.ensures.stands c.in-Ok.ensures.standing (sym c.stop_of.ensures ∙ none)

pub returns-in-Ok-clause-stopped : goal.returns-in-Ok-clause-stopped
returns-in-Ok-clause-stopped g c =
    if_stop c.stop_of.result c.in-Ok.outcome _ c.stop_of.ensures (λ stop e rest.
    inits_stop g.H.HostModule c.args.session.now c.init.new.self c.requires.no_hosts c.requires.none_asked c.init.ensures.answered
    c.in-Ok.outcome (c.init.new.self.inits_run - 1) c.in-Ok.ensures.ran stop e rest)
