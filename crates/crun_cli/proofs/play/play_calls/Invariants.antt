use Rattle.crun_cli.proofs.Common.{◌≡◌, ℕ, List, [], take, Option, State, calls_seen}
use Rattle.crun.specs.declared.outcome.Standing.TheVariants as standing
use Rattle.crun_cli.specs.Playing.{IsBehind}
use Rattle.crun_cli.proofs.play.play_calls.Given as goal

-- so many calls ended
abbrev pub invariant-loop-index : goal.invariant-loop-index
invariant-loop-index g l =
    let told = g.O.Sink.told in
    record {
      ready : l.session.standing ≡ standing.Ready;
      linked : l.session.linked ≡ l.fn.session.linked;
      kept : g.O.Sink.faults l.out ≡ g.O.Sink.faults l.fn.out;
      behind : (e : State _) (old : Option (List ℕ)) → IsBehind g.H.HostModule e l.fn.session [] old (told l.fn.out)
          → IsBehind g.H.HostModule e l.session (take l.index (calls_seen l.calls)) old (told l.out);
    }
