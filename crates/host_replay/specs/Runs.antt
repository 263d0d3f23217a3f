-- The run of linked units with hosts whose replies are what the hosts may give, one after another, each from the state that
-- the one before it left; the first state of each host is that at entry.
use Rattle.std.specs.Prelude.{◌≡◌, ℕ, List, [], ◌∷◌}
use Rattle.w2c_base.specs.Run.{Event, CallEnded}
use Rattle.w2c_base.specs.Run as run
use Rattle.c_tree.specs.Tree as tree
use Rattle.c_meaning.specs.Linking.{Program, SymbolCall}
use Rattle.c_meaning.specs.Run.{CRun, c_run}
use Rattle.c_hosts.specs.declared.host.HostModule.{Ghosts as HostModule}
use Rattle.c_hosts.specs.declared.journal.Asked.{Asked}
use Rattle.c_hosts.specs.Asking.{hosts_of, Answered}
use Rattle.c_hosts.specs.Journals.{events_in, replies_in}

-- linked units with these hosts
abbrev pub program_with : {H : Type 0} → HostModule H → List H → List (List tree.Item) → Program
program_with m hosts units = record { units = units; hosts = hosts_of m hosts }

-- the run of these calls, with at most so many statements, where these asks are answered as they were
abbrev pub run_with : {H : Type 0} → HostModule H → List H → List (List tree.Item) → List SymbolCall → (steps : ℕ) → List Asked → CRun
run_with m hosts units calls steps asks = c_run (program_with m hosts units) calls steps (replies_in asks)

-- the asks of a run, with their replies
abbrev pub asked_events : List Event → List Event
asked_events [] = []
asked_events (run.Asked ask reply ∷ events) = run.Asked ask reply ∷ asked_events events
asked_events (CallEnded value ∷ events) = asked_events events

-- hosts have answered these asks in turn, and they are those that the run tells, each with its reply
pub record IsAnsweredRun {H : Type 0} (m : HostModule H) (hosts : List H) (units : List (List tree.Item)) (calls : List SymbolCall)
    (steps : ℕ) (asks : List Asked) : Type 0 where
  pub after : List H
  pub answered : Answered m hosts asks after
  pub told : asked_events (run_with m hosts units calls steps asks).events ≡ events_in asks
