-- The lines that a run of linked units with hosts prints, in the order of the run, and behind them the
-- state of the units where it is asked for.
use Rattle.std.specs.Prelude.{ℕ, ◌+◌, Bool, if◌then◌else◌, List, [], ◌∷◌, ◌++◌}
use Rattle.w2c_base.specs.Run.{Event, Asked, CallEnded, Host}
use Rattle.c_meaning.specs.Run.{CRun}
use Rattle.crun_lines.specs.CallLines.{ended_line, last_line}
use Rattle.crun_lines.specs.HostLines.{host_line}
use Rattle.crun_lines.specs.StateLines.{state_lines}

-- what happened, in order, k calls having ended before
abbrev pub event_lines : List Host → ℕ → List Event → List ℕ
event_lines hosts k [] = []
event_lines hosts k (Asked ask reply ∷ events) = host_line hosts ask reply ++ event_lines hosts k events
event_lines hosts k (CallEnded value ∷ events) = ended_line k value ++ event_lines hosts (k + 1) events

-- the lines of a run with these hosts, with the state or without it
abbrev pub lines_of : List Host → (shown : Bool) → CRun → List ℕ
lines_of hosts shown run =
    event_lines hosts 0 run.events ++ last_line run.phase run.outcome
    ++ (if shown then state_lines hosts run.units else [])
