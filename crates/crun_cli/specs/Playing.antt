-- Where a session and its lines stand in the middle of a run, and behind it. The state `e` is that of the session at its start,
-- with the hosts as they were handed in.
use Rattle.std.specs.Prelude.{◌≡◌, ℕ, List, ◌++◌, map, Option}
use Rattle.w2c_base.specs.Run.{Ask, Event, asks_in}
use Rattle.w2c_io.specs.Contents.{extended}
use Rattle.w2c_io.specs.Telling.{SaysPart}
use Rattle.c_tree.specs.View.{unit_of}
use Rattle.c_meaning.specs.Linking.{SymbolCall}
use Rattle.c_meaning.specs.Run.{CRun}
use Rattle.c_hosts.specs.declared.host.HostModule.{Ghosts as HostModule}
use Rattle.c_hosts.specs.Asking.{hosts_of, Answered}
use Rattle.c_hosts.specs.Journals.{ask_of, events_in}
use Rattle.crun.specs.Sessions.{objects_of, Stands, State}
use Rattle.crun_lines.specs.CallLines.{last_line}
use Rattle.crun_lines.specs.RunLines.{event_lines}
use Rattle.crun_startup.specs.Names.{naming_of}
use Rattle.c_objects.specs.Stores.{AreStored}
use Rattle.host_replay.specs.Runs.{asked_events, run_with}
use Rattle.crun_cli.specs.Runs.{HasStatus}

-- the session still runs the same program, and its hosts have answered the asks of its journal
pub record IsSince {H : Type 0} (m : HostModule H) (e s : State H) : Type 0 where
  pub linked : s.linked ≡ e.linked
  pub steps : s.steps ≡ e.steps
  pub hosts : hosts_of m s.hosts ≡ hosts_of m e.hosts
  pub answered : Answered m e.hosts s.journal s.hosts

-- the objects that the names of units stand for are there
abbrev pub IsStored : {H : Type 0} → State H → Type 0
IsStored s = AreStored (naming_of (map unit_of s.linked.0)) s.objects

-- the run of these calls, with the replies so far
abbrev pub run_at : {H : Type 0} → HostModule H → State H → State H → List SymbolCall → CRun
run_at m e s calls = run_with m e.hosts (map unit_of e.linked.0) calls e.steps s.journal

-- its lines, without the state
abbrev pub lines_at : {H : Type 0} → HostModule H → State H → State H → List SymbolCall → List ℕ
lines_at m e s calls = event_lines (hosts_of m e.hosts) 0 (run_at m e s calls).events
    ++ last_line (run_at m e s calls).phase (run_at m e s calls).outcome

-- the session stands behind these calls, and the lines of what was told are written
pub record IsBehind {H : Type 0} (m : HostModule H) (e s : State H) (calls : List SymbolCall) (old now : Option (List ℕ)) : Type 0 where
  pub since : IsSince m e s
  pub stored : IsStored s
  pub told : List Event
  pub stands : Stands m s calls told
  pub asks : asked_events told ≡ events_in s.journal
  pub printed : now ≡ extended old (event_lines (hosts_of m e.hosts) 0 told)

-- the run of these calls is over, with this status, and its lines are written
pub record HasPlayed {H : Type 0} (m : HostModule H) (e s : State H) (calls : List SymbolCall) (old now : Option (List ℕ)) (status : ℕ)
    : Type 0 where
  pub since : IsSince m e s
  pub stored : IsStored s
  pub asks : asked_events (run_at m e s calls).events ≡ events_in s.journal
  pub has_status : HasStatus (run_at m e s calls).outcome status
  pub objects : (run_at m e s calls).units ≡ objects_of s
  pub printed : now ≡ extended old (lines_at m e s calls)

-- the run of these calls was left: a part of its lines is written
pub record IsLeft {H : Type 0} (m : HostModule H) (e s : State H) (calls : List SymbolCall) (old now : Option (List ℕ)) : Type 0 where
  pub since : IsSince m e s
  pub more : List Ask
  pub first : asks_in (run_at m e s calls).events ≡ map ask_of s.journal ++ more
  pub part : SaysPart old now (lines_at m e s calls)
