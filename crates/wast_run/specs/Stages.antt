-- What the code keeps between commands, and what it says of runs.
use Rattle.std.specs.Prelude.{◌≡◌, ℕ, ◌≤◌, length, map, Option, Some, None, ⊤}
use Rattle.std.specs.List.{AllByRecursion}
use Rattle.w2c_io.specs.Contents.{Contents}
use Rattle.w2c_base.specs.declared.value.Value.{Value}
use Rattle.w2c_base.specs.declared.trap.TrapKind.{TrapKind}
use Rattle.wasm_meaning.specs.LinkedSet.{IsLinked}
use Rattle.wasm_meaning.specs.Run.{Fits}
use Rattle.wasm_set.specs.Sets.{named_of}
use Rattle.wast_script.specs.Commands as script
use Rattle.wast_run.specs.declared.runs.Came.{Came}
use Rattle.wast_run.specs.declared.runs.Came.TheVariants as came
use Rattle.wast_run.specs.declared.stage.Stage.{Stage}
use Rattle.wast_run.specs.declared.word.Word.{Word}
use Rattle.wast_run.specs.declared.word.Word.TheVariants as word
use Rattle.wast_run.specs.Joined.{HaveUnits}
use Rattle.wast_run.specs.Runs.{HasCome, listed_calls}
use Rattle.wast_run.specs.Report.{Comes, Setting, Where, calls_with, listed, set_at}

abbrev pub setting_of : Stage → Setting
setting_of stage = record { modules = map named_of stage.joined.set; kept = listed_calls stage.kept.items }

-- the modules are a linked set, and the kept calls fit it
pub record IsReady (at : Setting) : Type 0 where
  pub linked : IsLinked (set_at at)
  pub fit : AllByRecursion (Fits (set_at at)) at.kept

pub record IsSound (stage : Stage) : Type 0 where
  pub ready : IsReady (setting_of stage)
  pub units : HaveUnits stage.joined

-- the name that a command gives to a module is such a one
abbrev pub HasModuleName : script.Command → Type 0
HasModuleName (script.Module file) = (1 ≤ length file.name) × (length file.name ≤ 1024)
HasModuleName (script.Invoke call) = ⊤
HasModuleName (script.AssertReturn call expected) = ⊤
HasModuleName (script.AssertTrap call cause) = ⊤
HasModuleName (script.AssertInvalid file) = ⊤
HasModuleName (script.AssertMalformed file) = ⊤

-- the word of a module command, with the stages before and behind it
abbrev pub ComesToModule : Contents → Stage → script.ModuleFile → Word → Stage → Type 0
ComesToModule contents before file w after = Comes contents 0 (setting_of before) (script.Module file) w (setting_of after)

-- what the run of an assertion came to; none where its call does not fit
abbrev pub HasRun : Stage → script.Call → ℕ → Option Came → Type 0
HasRun stage call steps None = Fits (set_at (setting_of stage)) (listed call) → ⊥
HasRun stage call steps (Some came) = Fits (set_at (setting_of stage)) (listed call)
    × HasCome (set_at (setting_of stage)) (calls_with (setting_of stage) call) steps came

-- the word of an assertion on the value of the last call, or on its trap, by what the run came to
abbrev pub IsEndWord : Option Value → Came → Word → Type 0
IsEndWord expected (came.Ended value) w = Where (value ≡ expected) (w ≡ word.Ok) (w ≡ word.Failed)
IsEndWord expected (came.Trapped cause) w = w ≡ word.Failed
IsEndWord expected came.TrappedBefore w = w ≡ word.Failed
IsEndWord expected came.OutOfSteps w = w ≡ word.OutOfSteps

abbrev pub IsTrapWord : TrapKind → Came → Word → Type 0
IsTrapWord cause (came.Ended value) w = w ≡ word.Failed
IsTrapWord cause (came.Trapped other) w = Where (other ≡ cause) (w ≡ word.Ok) (w ≡ word.Failed)
IsTrapWord cause came.TrappedBefore w = w ≡ word.Failed
IsTrapWord cause came.OutOfSteps w = w ≡ word.OutOfSteps
