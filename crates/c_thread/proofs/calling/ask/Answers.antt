use Rattle.c_thread.proofs.Common.{◌∷◌, map, option_map, ap, ◌∙◌, value_of, below_in, machine_in, waiting_in}
use Rattle.c_thread.proofs.Asks.{asks, asks_not}
use Rattle.c_thread.proofs.calling.ask.Goals as goal

pub returns-in-Some : goal.returns-in-Some
returns-in-Some c names p trail t =
    asks p c.args.host c.args.function (machine_in names trail t) (map (value_of names) c.args.values.now)
    (waiting_in names p t.top ∷ below_in names p t.below.items) c.in-Some.args.items
    (c.in_ok-args.ensures names ∙ ap (option_map (λ vs. vs.items)) c.in-Some.is)

pub returns-in-None : goal.returns-in-None
returns-in-None c names p trail t =
    asks_not p c.args.host c.args.function (machine_in names trail t) (map (value_of names) c.args.values.now)
    (waiting_in names p t.top ∷ below_in names p t.below.items)
    (c.in_ok-args.ensures names ∙ ap (option_map (λ vs. vs.items)) c.in-None.is)
