use Rattle.crun_cli.proofs.Common.{◌+◌, ◌<◌, ◌≤◌, length, take, drop, ◌∙◌, subst, arith, take_all, length-map, call_seen}
use Rattle.crun_cli.proofs.Common.{calls_seen}
use Rattle.crun_cli.specs.Playing.{HasPlayed, IsBehind, IsLeft}
use Rattle.crun_cli.proofs.Behind.{all_played}
use Rattle.crun_cli.proofs.CallLists.{calls_before, calls_next, calls_split}
use Rattle.crun_cli.proofs.play.play_calls.Goals as goal

pub returns-in-Ok-Some-clause-played : goal.returns-in-Ok-Some-clause-played
returns-in-Ok-Some-clause-played g c = λ e old behind.
    let calls = c.args.calls.now in
    let k = c.loop-index.index in
    let item = c.index-calls-index.result in
    let lt : k < length calls = omega arith in
    let played = rw c.in-Ok-Some.field-0-is at c.in-Ok-Some.ensures.played in
    subst (λ cs. HasPlayed g.H.HostModule e c.play_call.new.session cs old (g.O.Sink.told c.play_call.new.out) c.in-Ok-Some.status)
    (calls_split calls k item lt c.index-calls-index.is) (played e (take k (calls_seen calls)) (drop (k + 1) (calls_seen calls)) old
    (calls_before calls k lt) (c.loop-index.invariant.behind e old behind))

pub returns-in-Err-clause-left : goal.returns-in-Err-clause-left
returns-in-Err-clause-left g c = λ e old behind.
    let calls = c.args.calls.now in
    let k = c.loop-index.index in
    let item = c.index-calls-index.result in
    let lt : k < length calls = omega arith in
    subst (λ cs. IsLeft g.H.HostModule e c.play_call.new.session cs old (g.O.Sink.told c.play_call.new.out))
    (calls_split calls k item lt c.index-calls-index.is) (c.in-Err.ensures.left e (take k (calls_seen calls))
    (drop (k + 1) (calls_seen calls)) old (calls_before calls k lt) (c.loop-index.invariant.behind e old behind))

pub loop-index-preserved : goal.loop-index-preserved
loop-index-preserved g c =
    let calls = c.args.calls.now in
    let k = c.loop-index.index in
    let item = c.index-calls-index.result in
    let lt : k < length calls = omega arith in
    record {
      ready = c.in-Ok-None.ensures.ready c.in-Ok-None.field-0-is;
      linked = c.play_call.ensures.linked ∙ c.loop-index.invariant.linked;
      kept = c.in-Ok-None.ensures.cause.kept ∙ c.loop-index.invariant.kept;
      behind = λ e old behind. subst (λ cs. IsBehind g.H.HostModule e c.play_call.new.session cs old (g.O.Sink.told c.play_call.new.out))
          (calls_next calls k item lt c.index-calls-index.is)
          (c.in-Ok-None.ensures.goes_on c.in-Ok-None.field-0-is e (take k (calls_seen calls)) old (calls_before calls k lt)
          (c.loop-index.invariant.behind e old behind));
    }

pub returns-clause-played : goal.returns-clause-played
returns-clause-played g c = λ e old behind.
    let k = c.loop-index.index in
    let past : length (calls_seen c.args.calls.now) ≤ k = omega (arith, c.loop-index-test.false, length-map c.args.calls.now call_seen) in
    all_played g.H.HostModule e c.loop-index.session (calls_seen c.args.calls.now) old (g.O.Sink.told c.loop-index.out)
    (rw (take_all k (calls_seen c.args.calls.now) past) at (c.loop-index.invariant.behind e old behind))
