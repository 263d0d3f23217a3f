use Rattle.host_replay.proofs.Common.{◌≡◌, take, hosts_of, modules_of}
use Rattle.host_replay.proofs.file.JournalFile.of_hosts.Given as goal

-- so many hosts
abbrev pub invariant-loop-host : goal.invariant-loop-host
invariant-loop-host g l = modules_of l.modules.items ≡ hosts_of g.H.HostModule (take l.host-index l.hosts)
