use Rattle.wast_run.proofs.Common.{[], length, ◌∙◌, subst, c_run, HasRan, symbols_of}
use Rattle.wast_run.proofs.Sessions.{no_hosts_left, program_is}
use Rattle.wast_run.proofs.session_runs.run_again.Goals as goal

pub returns-in-Ok-run_all-clause-ran : goal.returns-in-Ok-run_all-clause-ran
returns-in-Ok-run_all-clause-ran g c =
    let program = program_is g.H.HostModule c.in-Ok.session c.args.session.linked c.in-Ok.ensures.linked
    (c.in-Ok.ensures.hosts ∙ c.requires.no_hosts) in
    subst (λ run. HasRan run (length c.args.kept.now) c.in-Ok-run_all.ran)
    (λ i. c_run (program i) (symbols_of c.args.kept.now c.args.last.now) (c.in-Ok.ensures.steps i) []) c.in-Ok-run_all.ensures.ran

pub returns-in-Ok-run_all-clause-linked : goal.returns-in-Ok-run_all-clause-linked
returns-in-Ok-run_all-clause-linked g c = c.run_all.ensures.linked ∙ c.in-Ok.ensures.linked

pub returns-in-Ok-run_all-clause-hosts : goal.returns-in-Ok-run_all-clause-hosts
returns-in-Ok-run_all-clause-hosts g c =
    no_hosts_left g.H.HostModule c.run_all.new.session.hosts c.in-Ok.session.hosts c.run_all.ensures.hosts
    (c.in-Ok.ensures.hosts ∙ c.requires.no_hosts)
