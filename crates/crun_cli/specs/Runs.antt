-- The run of linked units with hosts whose replies are what the hosts may give, one after another, each from the state that
-- the one before it left; the first state of each host is that at entry. The lines of a run are those of crun_lines.
use Rattle.std.specs.Prelude.{◌≡◌, ℕ, Bool, List, ◌++◌, map, Option}
use Rattle.w2c_base.specs.Run.{Ask, asks_in}
use Rattle.w2c_io.specs.Contents.{extended}
use Rattle.w2c_io.specs.Telling.{SaysPart}
use Rattle.c_tree.specs.Tree as tree
use Rattle.c_meaning.specs.State.{Trapped, Undefined, Asks, Stuck}
use Rattle.c_meaning.specs.Linking.{SymbolCall}
use Rattle.c_meaning.specs.Run.{Outcome, Ended, Stopped, OutOfSteps}
use Rattle.c_hosts.specs.declared.host.HostModule.{Ghosts as HostModule}
use Rattle.c_hosts.specs.declared.journal.Asked.{Asked}
use Rattle.c_hosts.specs.Asking.{hosts_of, Answered}
use Rattle.c_hosts.specs.Journals.{ask_of, events_in}
use Rattle.crun_lines.specs.RunLines.{lines_of}
use Rattle.host_replay.specs.Runs.{asked_events, run_with}

-- the status of a run
abbrev pub HasStatus : Outcome → ℕ → Type 0
HasStatus Ended status = status ≡ 0
HasStatus (Stopped (Trapped kind)) status = status ≡ 1
HasStatus OutOfSteps status = status ≡ 7
HasStatus (Stopped (Undefined kind place)) status = status ≡ 8
HasStatus (Stopped Asks) status = ⊥
HasStatus (Stopped Stuck) status = ⊥

-- A whole run: hosts have answered these asks in turn, which are those that the run tells, with these replies; its outcome has
-- this status, and a stream has gained its lines.
pub record HasRun {H : Type 0} (m : HostModule H) (hosts : List H) (units : List (List tree.Item)) (calls : List SymbolCall) (steps : ℕ)
    (shown : Bool) (old new : Option (List ℕ)) (status : ℕ) : Type 0 where
  pub asks : List Asked
  pub after : List H
  pub answered : Answered m hosts asks after
  pub told : asked_events (run_with m hosts units calls steps asks).events ≡ events_in asks
  pub has_status : HasStatus (run_with m hosts units calls steps asks).outcome status
  pub lines : new ≡ extended old (lines_of (hosts_of m hosts) shown (run_with m hosts units calls steps asks))

-- A part of a run: hosts have answered these asks in turn, which the run with these replies asks first, and a stream has gained
-- a prefix of its lines.
pub record HasPart {H : Type 0} (m : HostModule H) (hosts : List H) (units : List (List tree.Item)) (calls : List SymbolCall) (steps : ℕ)
    (shown : Bool) (old new : Option (List ℕ)) : Type 0 where
  pub asks : List Asked
  pub after : List H
  pub answered : Answered m hosts asks after
  pub more : List Ask
  pub first : asks_in (run_with m hosts units calls steps asks).events ≡ map ask_of asks ++ more
  pub part : SaysPart old new (lines_of (hosts_of m hosts) shown (run_with m hosts units calls steps asks))
