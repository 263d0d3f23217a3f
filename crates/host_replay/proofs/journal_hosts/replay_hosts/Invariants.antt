use Rattle.host_replay.proofs.Common.{[], take, modules_of, AreReplays}
use Rattle.host_replay.proofs.journal_hosts.replay_hosts.Given as goal

-- so many modules, without calls
abbrev pub invariant-loop-module : goal.invariant-loop-module
invariant-loop-module l = AreReplays (record { hosts = modules_of (take l.module-index l.file.modules.items); entries = [] }) l.hosts.items

-- all modules, with so many calls
abbrev pub invariant-loop-entry : goal.invariant-loop-entry
invariant-loop-entry l =
    AreReplays (record { hosts = modules_of l.file.modules.items; entries = take l.entry-index l.file.entries.items }) l.hosts.items
