-- What a call of an export comes to behind other calls, as the units of a linked set run them from fresh objects within so many
-- statements, and the set itself (WebAssembly Core 1.0, 4.5.5; C11, 5.1.2.3).
use Rattle.std.specs.Prelude.{◌≡◌, ◌≢◌, ◌+◌, ◌*◌, ◌≤◌, ℕ, suc, List, [], ◌∷◌, ◌++◌, length, map, string_bytes, Option}
use Rattle.std.specs.Borrow.{Bor}
use Rattle.w2c_base.specs.declared.value.Value.{Value}
use Rattle.w2c_base.specs.declared.trap.TrapKind.{TrapKind}
use Rattle.w2c_base.specs.Run.{Call as InCall, values_in}
use Rattle.wasm_meaning.specs.LinkedSet.{LinkedSet}
use Rattle.wasm_meaning.specs.Execution.{OutOfSteps, Trapped}
use Rattle.wasm_meaning.specs.Run.{Ended, ListedCall, Stopped, WasmRun, wasm_run}
use Rattle.c_meaning.specs.Run as c
use Rattle.alike.specs.Alike.{Alike}
use Rattle.unit_meaning.specs.Sets.{IsAcceptedSet, IsListing, c_run_of, program_of}
use Rattle.wast_script.specs.declared.command.Call.{Call}
use Rattle.wast_run.specs.declared.runs.Came.{Came}
use Rattle.wast_run.specs.declared.runs.Came.TheVariants as came

-- the run of the units of a set with so many statements, and the run of the set with so many steps
abbrev pub units_run : LinkedSet → List ListedCall → ℕ → c.CRun
units_run s calls steps = c_run_of (program_of s) calls steps []

abbrev pub modules_run : LinkedSet → List ListedCall → ℕ → WasmRun
modules_run s calls steps = wasm_run s calls steps []

-- a call of a script
abbrev pub listed_call : Call → ListedCall
listed_call call = record {
  module_name = string_bytes call.module_name;
  export_name = string_bytes call.field_name;
  args = call.args;
}

abbrev pub listed_calls : List (Bor Call) → List ListedCall
listed_calls calls = map (λ call. listed_call call.now) calls

-- the run of the units is over
abbrev pub IsOver : LinkedSet → List ListedCall → ℕ → Type 0
IsOver s calls steps = (units_run s calls steps).outcome ≢ c.OutOfSteps

-- the run of the modules does not end in n steps, for each n with 400 n + 400 statements at most
abbrev pub IsLong : LinkedSet → List ListedCall → ℕ → Type 0
IsLong s calls steps = (n : ℕ) → 400 * n + 400 ≤ steps → (modules_run s calls n).outcome ≢ Stopped OutOfSteps → ⊥

-- What was come to: with the run of the units over, the run of the modules ended, and the last call gave this value; or it
-- trapped in the last call, or in what was run before it.
abbrev pub HasCome : LinkedSet → List ListedCall → ℕ → Came → Type 0
HasCome s calls steps came.OutOfSteps = ((units_run s calls steps).outcome ≡ c.OutOfSteps) × IsLong s calls steps
HasCome s calls steps (came.Ended value) = IsOver s calls steps
    × ((modules_run s calls steps).outcome ≡ Ended)
    × (others : List (Option Value)) × (values_in (modules_run s calls steps).events ≡ others ++ value ∷ [])
HasCome s calls steps (came.Trapped kind) = IsOver s calls steps
    × ((modules_run s calls steps).outcome ≡ Stopped (Trapped kind))
    × (number : ℕ) × (suc number ≡ length calls) × ((modules_run s calls steps).phase ≡ InCall number)
HasCome s calls steps came.TrappedBefore = IsOver s calls steps
    × (kind : TrapKind) × ((modules_run s calls steps).outcome ≡ Stopped (Trapped kind))
    × ((number : ℕ) → suc number ≡ length calls → (modules_run s calls steps).phase ≢ InCall number)

-- where the run of the units is over, the run of the modules is alike with as many steps
abbrev pub RunsAreAlike : Type 0
RunsAreAlike = (s : LinkedSet) → IsAcceptedSet s → (calls : List ListedCall) → IsListing s calls → (steps : ℕ)
    → IsOver s calls steps → Alike s (modules_run s calls steps) (units_run s calls steps)

-- where the run of the modules ends in n steps, the run of the units is over with 400 n + 400 statements, and with more
abbrev pub EnoughStepsEndRuns : Type 0
EnoughStepsEndRuns = (s : LinkedSet) → IsAcceptedSet s → (calls : List ListedCall) → IsListing s calls → (n steps : ℕ)
    → (modules_run s calls n).outcome ≢ Stopped OutOfSteps → 400 * n + 400 ≤ steps → IsOver s calls steps
