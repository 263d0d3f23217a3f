-- The phases, stops, functions and names that lines are made of, as those of the meaning of C.
use Rattle.std.specs.Prelude.{ℕ, ◌+◌, ◌<◌, ◌^◌, List, ◌++◌, codes, map}
use Rattle.std.specs.Borrow.{Bor}
use Rattle.std.specs.Fmt.{decimal}
use Rattle.w2c_base.specs.Run as run
use Rattle.w2c_base.specs.Trap.{code_of, text_of}
use Rattle.c_meaning.specs.State.{Name, Trapped, Undefined}
use Rattle.c_meaning.specs.Run.{Outcome, Stopped, OutOfSteps}
use Rattle.c_meaning.specs.Views.{place_of}
use Rattle.crun_lines.specs.declared.calls.Phase.{Phase}
use Rattle.crun_lines.specs.declared.calls.Phase.TheVariants as phase
use Rattle.crun_lines.specs.declared.calls.Stop.{Stop}
use Rattle.crun_lines.specs.declared.calls.Stop.TheVariants as stop
use Rattle.crun_lines.specs.declared.objects.Function.{Function}
use Rattle.crun_lines.specs.declared.objects.Function.TheVariants as function
use Rattle.crun_lines.specs.declared.names.Numbered.{Numbered}
use Rattle.crun_lines.specs.CallLines.{place_text}
use Rattle.crun_lines.specs.Words.{name_text}

abbrev pub phase_of : Phase → run.Phase
phase_of (phase.Init k) = run.Init k
phase_of (phase.Call k) = run.Call k

-- its number, counted from 1, is one of 64 bits
abbrev pub IsCounted : Phase → Type 0
IsCounted (phase.Init k) = k + 1 < 2 ^ 64
IsCounted (phase.Call k) = k + 1 < 2 ^ 64

abbrev pub outcome_of : Stop → Outcome
outcome_of (stop.Trapped kind) = Stopped (Trapped kind)
outcome_of (stop.Undefined at) = Stopped (Undefined at.kind (place_of at))
outcome_of stop.OutOfSteps = OutOfSteps

-- what stands behind the phase
abbrev pub stop_text : Stop → List ℕ
stop_text (stop.Trapped kind) = codes " trap " ++ decimal (code_of kind) ++ codes " " ++ text_of kind ++ codes "\n"
stop_text (stop.Undefined at) = codes " undefined " ++ decimal at.kind ++ place_text (place_of at) ++ codes "\n"
stop_text stop.OutOfSteps = codes " out of steps\n"

-- what stands for the function that an element names
abbrev pub owned_text : Function → List ℕ
owned_text (function.OfUnit unit name) = codes " unit " ++ decimal unit ++ codes " " ++ name.now
owned_text (function.OfHost host name) = codes " host " ++ decimal host ++ codes " " ++ name_text name.now

-- a name with its number
abbrev pub entry_of : Numbered → Name × ℕ
entry_of n = (n.name.now, n.number)

abbrev pub texts : List (Bor (List ℕ)) → List Name
texts names = map (λ (b : Bor (List ℕ)). b.now) names
