use Rattle.crun_cli.proofs.Common.{hosts_of, reply_in, line_as, asked_line}
use Rattle.crun_lines.specs.HostLines.{replied_line}
use Rattle.crun_cli.proofs.telling.tell_ask.Goals as goal

pub returns : goal.returns
returns g c =
    c.put_line.ensures (asked_line (hosts_of g.H.HostModule c.args.hosts.now) c.args.ask.now)
    (line_as c.host_line-line.result _ _
    (λ i. replied_line (c.host_name-host.ensures i) (c.function_name-function.ensures i) (c.as_slice.ensures i) (reply_in c.args.ask.now))
    c.host_line-line.ensures)
