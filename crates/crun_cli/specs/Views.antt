-- Outcomes of a session as lines tell them.
use Rattle.std.specs.Prelude.{ℕ, List, [], ◌++◌, flat_map, Option, Some, None}
use Rattle.w2c_base.specs.declared.value.Value.{Value}
use Rattle.w2c_base.specs.Run.{Host, Phase, Init, Call}
use Rattle.c_meaning.specs.State.{Trapped, Undefined}
use Rattle.c_meaning.specs.Run.{OutOfSteps, Stopped}
use Rattle.c_hosts.specs.declared.journal.Asked.{Asked}
use Rattle.c_hosts.specs.Journals.{ask_of, reply_in}
use Rattle.crun.specs.declared.outcome.Outcome.{Outcome}
use Rattle.crun.specs.declared.outcome.Outcome.TheVariants as outcome
use Rattle.crun.specs.Engines.{place_of}
use Rattle.crun_lines.specs.CallLines.{ended_line, last_line}
use Rattle.crun_lines.specs.HostLines.{host_line}

-- the line of an ask that was answered, and those of asks in order
abbrev pub asked_line : List Host → Asked → List ℕ
asked_line hosts a = host_line hosts (ask_of a) (Some (reply_in a))

abbrev pub asks_lines : List Host → List Asked → List ℕ
asks_lines hosts asks = flat_map (asked_line hosts) asks

-- the line of a call that ended; an init function has none
abbrev pub end_line : Phase → Option Value → List ℕ
end_line (Call k) value = ended_line k value
end_line (Init k) value = []

-- the line of what ran, by its outcome
abbrev pub outcome_line : Phase → Outcome → List ℕ
outcome_line phase (outcome.Ended value) = end_line phase value
outcome_line phase (outcome.Trapped kind) = last_line phase (Stopped (Trapped kind))
outcome_line phase (outcome.Undefined u) = last_line phase (Stopped (Undefined u.kind (place_of u)))
outcome_line phase outcome.OutOfSteps = last_line phase OutOfSteps

-- the lines of what ran: its asks, then its outcome
abbrev pub lines_behind : List Host → List Asked → Phase → Outcome → List ℕ
lines_behind hosts asks phase o = asks_lines hosts asks ++ outcome_line phase o

-- the status of an outcome that is no end
abbrev pub status_of_outcome : Outcome → Option ℕ
status_of_outcome (outcome.Ended value) = None
status_of_outcome (outcome.Trapped kind) = Some 1
status_of_outcome (outcome.Undefined u) = Some 8
status_of_outcome outcome.OutOfSteps = Some 7
