use Rattle.crun_cli.proofs.Common.{[], refl, says_nothing}
use Rattle.crun_cli.proofs.recording.run_task.Goals as goal

pub returns-in-Err-clause-part : goal.returns-in-Err-clause-part
returns-in-Err-clause-part g c = record {
  asks = [];
  after = c.args.hosts.items;
  answered = refl;
  more = _;
  first = refl;
  part = says_nothing (g.O.Sink.told c.args.out.now) _;
}
