use Rattle.crun_cli.proofs.Common.{map, sym, ap, ◌∙◌, subst, list_all, unit_of, hosts_of, fits, calls_seen, IsFilled}
use Rattle.crun_cli.proofs.Recorded.{asks_fit, is_filled, part_leaving, to_fill}
use Rattle.crun_cli.proofs.play.play.Goals as goal

pub filled-requires : goal.filled-requires
filled-requires g c =
    let e = c.args.session.now in
    let ran = c.in-Ok.ensures.ran in
    record {
      fit = to_fill g.H.HostModule e.hosts c.args.journal c.journal.result.now c.requires.blank
          (ap (λ asks. list_all (fits (hosts_of g.H.HostModule e.hosts)) asks) (c.journal.ensures ∙ sym ran.asks_are)
          ∙ asks_fit g.H.HostModule e.hosts (map unit_of e.linked.0) (calls_seen c.args.calls.now) e.steps c.args.shows_state
          (g.O.Sink.told c.args.out.now) (g.O.Sink.told c.play_and_show.new.out) c.in-Ok.status ran.run);
    }

pub returns-in-Ok-filled-clause-ran : goal.returns-in-Ok-filled-clause-ran
returns-in-Ok-filled-clause-ran g c =
    let e = c.args.session.now in
    let ran = c.in-Ok.ensures.ran in
    record {
      recorded = record {
        run = ran.run;
        filled_is =
            subst (λ asks. IsFilled g.H.HostModule e.hosts asks c.args.journal c.in-Ok-filled.journal)
            (c.journal.ensures ∙ sym ran.asks_are)
            (is_filled g.H.HostModule e.hosts c.args.journal c.in-Ok-filled.journal c.journal.result.now c.requires.blank
            c.in-Ok-filled.ensures);
      };
      hosts_are = ran.hosts_are;
    }

pub returns-in-Err-filled-clause-part : goal.returns-in-Err-filled-clause-part
returns-in-Err-filled-clause-part g c =
    let e = c.args.session.now in
    let ran = c.in-Ok.ensures.ran in
    part_leaving g.H.HostModule e.hosts (map unit_of e.linked.0) (calls_seen c.args.calls.now) e.steps c.args.shows_state
    (g.O.Sink.told c.args.out.now) (g.O.Sink.told c.play_and_show.new.out) c.in-Ok.status ran.run c.play_and_show.new.session.hosts
    ran.hosts_are
