use Rattle.crun_cli.proofs.Common.{◌+◌, take, drop, sym, subst, hosts_of, AreWritten, front_next, front_split, one_more, stopped_at}
use Rattle.crun_cli.proofs.Common.{asked_line}
use Rattle.crun_cli.proofs.telling.tell_asks.Goals as goal

pub returns-in-Err : goal.returns-in-Err
returns-in-Err g c =
    let lines = asked_line (hosts_of g.H.HostModule c.args.hosts.now) in
    let k = c.loop-ask.ask-index in
    stopped_at lines _ _ _ _ _ _ (take k c.args.asks.now) c.ask-item.result (drop (k + 1) c.args.asks.now) c.args.asks.now c.in-Err.answer
    (front_split c.args.asks.now k c.ask-item.result c.loop-ask-test.true c.ask-item.is) c.loop-ask.invariant c.in-Err.ensures

pub loop-ask-preserved : goal.loop-ask-preserved
loop-ask-preserved g c =
    let lines = asked_line (hosts_of g.H.HostModule c.args.hosts.now) in
    let k = c.loop-ask.ask-index in
    subst (AreWritten lines _ _ _ _) (sym (front_next c.args.asks.now k c.ask-item.result c.loop-ask-test.true c.ask-item.is))
    (one_more lines c.in-Ok.field-0 _ _ _ _ _ _ (take k c.args.asks.now) c.ask-item.result c.loop-ask.invariant c.in-Ok.ensures)
