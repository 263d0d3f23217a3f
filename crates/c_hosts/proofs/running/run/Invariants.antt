use Rattle.c_hosts.proofs.Common.{◌-◌, ◌≤◌, List, None, AreStored, Naming, Asks, Runs, Asked}
use Rattle.c_hosts.proofs.running.run.Given as goal

abbrev pub invariant-loop-steps : goal.invariant-loop-steps
invariant-loop-steps g l = record {
  fewer : l.steps ≤ l.initial.steps;
  stored : (names : Naming) → AreStored names l.initial.thread.store.units.items → AreStored names l.thread.store.units.items;
  ran : (asks : List Asked)
      × Asks g.H.HostModule l.initial.hosts.list.items l.initial.hosts.journal asks l.hosts.list.items l.hosts.journal
      × Runs g.H.HostModule l.units l.types l.initial.hosts.list.items l.initial.thread (l.initial.steps - l.steps) asks None l.thread;
}

abbrev pub decreases-loop-steps : goal.decreases-loop-steps
decreases-loop-steps g l = l.steps
