use Rattle.crun_cli.proofs.ExampleRun.{two_finished}
use Rattle.crun_cli.proofs.example.two_c_is_run.Goals as goal

pub returns : goal.returns
returns g c = λ hosts contents old new status unit_there calls_there.
    two_finished g.H.HostModule hosts contents unit_there calls_there old new status
