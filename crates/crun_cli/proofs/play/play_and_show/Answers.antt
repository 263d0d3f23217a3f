use Rattle.crun_cli.proofs.Common.{◌≡◌, true, false, map, subst, rules, unit_of, calls_seen, HasAsked, HasPartLeaving}
use Rattle.crun_cli.proofs.Behind.{left_part, ran_alone, ran_shown, shown_part}
use Rattle.crun_cli.proofs.play.play_and_show.Goals as goal

pub returns-in-Err-clause-part : goal.returns-in-Err-clause-part
returns-in-Err-clause-part g c =
    left_part g.H.HostModule c.args.session.now c.play_all.new.session (calls_seen c.args.calls.now) (g.O.Sink.told c.args.out.now)
    c.args.shows_state (g.O.Sink.told c.play_all.new.out) c.in-Err.ensures.left

pub returns-in-Err-show-clause-part : goal.returns-in-Err-show-clause-part
returns-in-Err-show-clause-part g c =
    let e = c.args.session.now in
    let calls = calls_seen c.args.calls.now in
    let shown : true ≡ c.args.shows_state = search rules in
    subst (λ b. HasPartLeaving g.H.HostModule e.hosts (map unit_of e.linked.0) calls e.steps b (g.O.Sink.told c.args.out.now)
    (g.O.Sink.told c.show.new.out) c.play_all.new.session.hosts)
    shown (shown_part g.H.HostModule e c.play_all.new.session calls (g.O.Sink.told c.args.out.now) (g.O.Sink.told c.play_all.new.out)
    c.in-Ok.status c.in-Ok.ensures.played (g.O.Sink.told c.show.new.out) c.in-Err-show.ensures.part)

pub returns-then-not-shows_state-clause-ran : goal.returns-then-not-shows_state-clause-ran
returns-then-not-shows_state-clause-ran g c =
    let e = c.args.session.now in
    let s = c.play_all.new.session in
    let calls = calls_seen c.args.calls.now in
    let shown : false ≡ c.args.shows_state = search rules in
    subst (λ b. HasAsked g.H.HostModule e.hosts (map unit_of e.linked.0) calls e.steps b (g.O.Sink.told c.args.out.now)
    (g.O.Sink.told c.play_all.new.out) c.in-Ok.status s.journal s.hosts)
    shown (ran_alone g.H.HostModule e s calls (g.O.Sink.told c.args.out.now) (g.O.Sink.told c.play_all.new.out) c.in-Ok.status
    c.in-Ok.ensures.played)

pub returns-in-Ok-show-clause-ran : goal.returns-in-Ok-show-clause-ran
returns-in-Ok-show-clause-ran g c =
    let e = c.args.session.now in
    let s = c.play_all.new.session in
    let calls = calls_seen c.args.calls.now in
    let shown : true ≡ c.args.shows_state = search rules in
    subst (λ b. HasAsked g.H.HostModule e.hosts (map unit_of e.linked.0) calls e.steps b (g.O.Sink.told c.args.out.now)
    (g.O.Sink.told c.show.new.out) c.in-Ok.status s.journal s.hosts)
    shown (ran_shown g.H.HostModule e s calls (g.O.Sink.told c.args.out.now) (g.O.Sink.told c.play_all.new.out) c.in-Ok.status
    c.in-Ok.ensures.played (g.O.Sink.told c.show.new.out) c.in-Ok-show.ensures.whole)
