-- The lines of init functions and calls: what a call came to, or why the one that did not end stopped.
use Rattle.std.specs.Prelude.{ℕ, ◌+◌, List, [], ◌++◌, codes, Option}
use Rattle.std.specs.Fmt.{decimal}
use Rattle.w2c_base.specs.declared.value.Value.{Value}
use Rattle.w2c_base.specs.Run.{Phase, Init, Call}
use Rattle.w2c_base.specs.Trap.{code_of, text_of}
use Rattle.c_meaning.specs.State.{Place, Trapped, Undefined, Asks, Stuck}
use Rattle.c_meaning.specs.Run.{Outcome, Ended, Stopped, OutOfSteps}
use Rattle.crun_lines.specs.Words.{value_text}

-- init functions and calls by their numbers, which count from 1 in a line
abbrev pub phase_text : Phase → List ℕ
phase_text (Init k) = codes "init " ++ decimal (k + 1)
phase_text (Call k) = codes "call " ++ decimal (k + 1)

-- the call with this number from 0 ended, with this value if it has one
abbrev pub ended_line : ℕ → Option Value → List ℕ
ended_line k value = phase_text (Call k) ++ codes " = " ++ value_text value ++ codes "\n"

abbrev pub place_text : Place → List ℕ
place_text place =
    codes " unit " ++ decimal place.unit ++ codes " item " ++ decimal place.item ++ codes " statement " ++ decimal place.statement

-- the line of what did not end. There is none where all ended, or where the run waits for a host's reply
abbrev pub last_line : Phase → Outcome → List ℕ
last_line phase Ended = []
last_line phase OutOfSteps = phase_text phase ++ codes " out of steps\n"
last_line phase (Stopped (Trapped kind)) =
    phase_text phase ++ codes " trap " ++ decimal (code_of kind) ++ codes " " ++ text_of kind ++ codes "\n"
last_line phase (Stopped (Undefined kind place)) =
    phase_text phase ++ codes " undefined " ++ decimal kind ++ place_text place ++ codes "\n"
last_line phase (Stopped Asks) = []
last_line phase (Stopped Stuck) = []
