-- The report on a script: a word for each command, in order, over what the files hold.
use Rattle.std.specs.Prelude.{◌≡◌, ◌⊎◌, ℕ, suc, ◌<◌, ◌≤◌, ◌==◌, Bool, true, false, if◌then◌else◌, List, [], ◌∷◌, ◌++◌, length, codes}
use Rattle.std.specs.Prelude.{Option, Some, None, ⊤}
use Rattle.std.specs.Fmt.{decimal}
use Rattle.std.specs.FinMap.{get}
use Rattle.w2c_io.specs.Contents.{Name, Contents}
use Rattle.w2c_base.specs.declared.value.Value.{Value}
use Rattle.w2c_base.specs.declared.trap.TrapKind.{TrapKind}
use Rattle.w2c_base.specs.Run.{Call as InCall, values_in}
use Rattle.wasm_tree.specs.declared.tree.Module.{Module}
use Rattle.wasm_spelling.specs.declared.fault.ReadFault.TheVariants as fault
use Rattle.wasm_tree.specs.Limits.{most_module_bytes}
use Rattle.wasm_tree.specs.NamedModule.{NamedModule}
use Rattle.wasm_typing.specs.Verdict.{Accepted, Invalid}
use Rattle.wasm_valid.specs.FileVerdict.{FileVerdict, Unread, Read, IsVerdictOn}
use Rattle.wasm_meaning.specs.LinkedSet.{LinkedSet, IsLinked}
use Rattle.wasm_meaning.specs.Execution.{Trapped}
use Rattle.wasm_meaning.specs.Run.{ListedCall, Fits, WasmRun, Ended, Stopped}
use Rattle.c_meaning.specs.Run as c
use Rattle.wast_script.specs.Commands as script
use Rattle.wast_script.specs.Commands.{Command}
use Rattle.wast_run.specs.declared.word.Word.{Word}
use Rattle.wast_run.specs.declared.word.Word.TheVariants as word
use Rattle.wast_run.specs.Runs.{modules_run, units_run, IsLong}

-- ---- what stands before a command

-- the modules that joined, in order, and the calls that are kept
pub record Setting : Type 0 where
  pub modules : List NamedModule
  pub kept : List ListedCall

abbrev pub at_first : Setting
at_first = record { modules = []; kept = [] }

-- modules as the modules of a set that has no hosts (WebAssembly Core 1.0, 4.5.4)
abbrev pub set_with : List NamedModule → LinkedSet
set_with modules = record { modules = modules; hosts = [] }

abbrev pub set_at : Setting → LinkedSet
set_at at = set_with at.modules

-- a module joins, under a name
abbrev pub joined : Setting → List ℕ → Module → Setting
joined at name tree = record { modules = at.modules ++ record { name = name; tree = tree } ∷ []; kept = at.kept }

-- a call of a script, as a call of a run
abbrev pub listed : script.Call → ListedCall
listed call = record { module_name = call.module_name; export_name = call.field_name; args = call.args }

-- the kept calls with one more; the calls of an assertion, which are those that are kept and then its own
abbrev pub calls_with : Setting → script.Call → List ListedCall
calls_with at call = at.kept ++ listed call ∷ []

abbrev pub keeping : Setting → script.Call → Setting
keeping at call = record { modules = at.modules; kept = calls_with at call }

-- ---- files

-- the verdict on a file; none where it has more bytes than a module may have
abbrev pub IsJudged : List ℕ → Option FileVerdict → Type 0
IsJudged bytes None = most_module_bytes < length bytes
IsJudged bytes (Some verdict) = (length bytes ≤ most_module_bytes) × IsVerdictOn bytes verdict

-- the file is there, and this is the verdict on it
abbrev pub IsFile : Contents → Name → Option FileVerdict → Type 0
IsFile contents name verdict = (bytes : List ℕ) × (get contents name ≡ Some bytes) × IsJudged bytes verdict

-- the module of a file that is accepted
abbrev pub accepted_tree : Option FileVerdict → Option Module
accepted_tree (Some (Read tree Accepted)) = Some tree
accepted_tree (Some (Read tree (Invalid found))) = None
accepted_tree (Some (Unread found)) = None
accepted_tree None = None

-- the file is a module that is not valid
abbrev pub is_invalid : Option FileVerdict → Bool
is_invalid (Some (Read tree Accepted)) = false
is_invalid (Some (Read tree (Invalid found))) = true
is_invalid (Some (Unread found)) = false
is_invalid None = false

-- it is no module by the binary format
abbrev pub is_malformed : Option FileVerdict → Bool
is_malformed (Some (Read tree outcome)) = false
is_malformed (Some (Unread (fault.Malformed place cause))) = true
is_malformed (Some (Unread (fault.Float place))) = false
is_malformed (Some (Unread (fault.Limit place which))) = false
is_malformed (Some (Unread fault.Memory)) = false
is_malformed None = false

-- ---- runs

-- the run ended, and its last call with this value or with none
abbrev pub EndsWith : Option Value → WasmRun → Type 0
EndsWith expected run = (run.outcome ≡ Ended) × (others : List (Option Value)) × (values_in run.events ≡ others ++ expected ∷ [])

-- the run trapped for this cause in the call with this number
abbrev pub TrapsIn : ℕ → TrapKind → WasmRun → Type 0
TrapsIn number cause run = (run.outcome ≡ Stopped (Trapped cause)) × (run.phase ≡ InCall number)

-- ---- the word of a command

-- one thing where P holds, else another
abbrev pub Where : Type 0 → Type 0 → Type 0 → Type 0
Where P one other = (P × one) ⊎ ((P → ⊥) × other)

-- a module command, for the module of its file: the word, and what stands behind it
abbrev pub Joins : Setting → List ℕ → Option Module → Word → Setting → Type 0
Joins at name None w after = (w ≡ word.Refused) × (after ≡ at)
Joins at name (Some tree) w after = Where (IsLinked (set_at (joined at name tree)))
    ((w ≡ word.Ok) × (after ≡ joined at name tree))
    ((w ≡ word.Unlinked) × (after ≡ at))

-- a call that is to be kept
abbrev pub Keeps : Setting → script.Call → Word → Setting → Type 0
Keeps at call w after = Where (Fits (set_at at) (listed call))
    ((w ≡ word.Ok) × (after ≡ keeping at call))
    ((w ≡ word.NoSuchCall) × (after ≡ at))

-- a run of the calls comes to its word: the units run with so many statements, and where they are not out of them, the run of
-- the modules with as many steps is right or not
abbrev pub Runs : LinkedSet → List ListedCall → ℕ → (WasmRun → Type 0) → Word → Type 0
Runs s calls steps IsRight w = Where ((units_run s calls steps).outcome ≡ c.OutOfSteps)
    (w ≡ word.OutOfSteps)
    (Where (IsRight (modules_run s calls steps)) (w ≡ word.Ok) (w ≡ word.Failed))

-- an assertion on a call behind those that are kept, from fresh units
abbrev pub Asserts : Setting → script.Call → ℕ → (WasmRun → Type 0) → Word → Setting → Type 0
Asserts at call steps IsRight w after = (after ≡ at) × Where (Fits (set_at at) (listed call))
    (Runs (set_at at) (calls_with at call) steps IsRight w)
    (w ≡ word.NoSuchCall)

-- an assertion on a file
abbrev pub holds : Bool → Word
holds true = word.Ok
holds false = word.Failed

-- a command with this before it comes to this word, and this stands behind it, where the verdicts on files are these
abbrev pub ComesBy : (Name → Option FileVerdict → Type 0) → ℕ → Setting → Command → Word → Setting → Type 0
ComesBy IsOnFile steps at (script.Module file) w after =
    (verdict : Option FileVerdict) × IsOnFile file.filename verdict × Joins at file.name (accepted_tree verdict) w after
ComesBy IsOnFile steps at (script.Invoke call) w after = Keeps at call w after
ComesBy IsOnFile steps at (script.AssertReturn call expected) w after = Asserts at call steps (EndsWith expected) w after
ComesBy IsOnFile steps at (script.AssertTrap call cause) w after = Asserts at call steps (TrapsIn (length at.kept) cause) w after
ComesBy IsOnFile steps at (script.AssertInvalid file) w after =
    (verdict : Option FileVerdict) × IsOnFile file verdict × (w ≡ holds (is_invalid verdict)) × (after ≡ at)
ComesBy IsOnFile steps at (script.AssertMalformed file) w after =
    (verdict : Option FileVerdict) × IsOnFile file verdict × (w ≡ holds (is_malformed verdict)) × (after ≡ at)

-- the same over what the files hold
abbrev pub Comes : Contents → ℕ → Setting → Command → Word → Setting → Type 0
Comes contents steps at command w after = ComesBy (IsFile contents) steps at command w after

-- the words of commands in order, and what stands behind them
abbrev pub Lead : Contents → ℕ → Setting → List Command → List Word → Setting → Type 0
Lead contents steps at [] words after = (words ≡ []) × (after ≡ at)
Lead contents steps at (command ∷ commands) words after =
    (w : Word) × (others : List Word) × (between : Setting)
    × Comes contents steps at command w between × Lead contents steps between commands others after × (words ≡ w ∷ others)

-- the words of a script
abbrev pub AreWords : Contents → ℕ → List Command → List Word → Type 0
AreWords contents steps commands words = (after : Setting) × Lead contents steps at_first commands words after

-- an assertion is out of steps only where the run of the modules does not end in n steps, for each n with 400 n + 400 statements
-- at most
abbrev pub IsTimely : ℕ → Setting → Command → Word → Type 0
IsTimely steps at (script.Module file) w = ⊤
IsTimely steps at (script.Invoke call) w = ⊤
IsTimely steps at (script.AssertReturn call expected) w = w ≡ word.OutOfSteps → IsLong (set_at at) (calls_with at call) steps
IsTimely steps at (script.AssertTrap call cause) w = w ≡ word.OutOfSteps → IsLong (set_at at) (calls_with at call) steps
IsTimely steps at (script.AssertInvalid file) w = ⊤
IsTimely steps at (script.AssertMalformed file) w = ⊤

-- the words of commands in order, each of which is timely
abbrev pub LeadInTime : Contents → ℕ → Setting → List Command → List Word → Setting → Type 0
LeadInTime contents steps at [] words after = (words ≡ []) × (after ≡ at)
LeadInTime contents steps at (command ∷ commands) words after =
    (w : Word) × (others : List Word) × (between : Setting)
    × (Comes contents steps at command w between × IsTimely steps at command w)
    × LeadInTime contents steps between commands others after × (words ≡ w ∷ others)

abbrev pub AreWordsInTime : Contents → ℕ → List Command → List Word → Type 0
AreWordsInTime contents steps commands words = (after : Setting) × LeadInTime contents steps at_first commands words after

-- ---- the lines

abbrev pub word_text : Word → List ℕ
word_text word.Ok = codes "ok"
word_text word.Refused = codes "refused"
word_text word.Unlinked = codes "unlinked"
word_text word.NoSuchCall = codes "no such call"
word_text word.OutOfSteps = codes "out of steps"
word_text word.Failed = codes "failed"

abbrev pub is_ok : Word → Bool
is_ok word.Ok = true
is_ok word.Refused = false
is_ok word.Unlinked = false
is_ok word.NoSuchCall = false
is_ok word.OutOfSteps = false
is_ok word.Failed = false

-- the line of the command with a number, from 1
abbrev pub command_line : ℕ → Word → List ℕ
command_line number w = codes "command " ++ decimal number ++ codes " " ++ word_text w ++ codes "\n"

abbrev pub lines_from : ℕ → List Word → List ℕ
lines_from number [] = []
lines_from number (w ∷ words) = command_line number w ++ lines_from (suc number) words

abbrev pub lines_of : List Word → List ℕ
lines_of words = lines_from 1 words

-- how many commands are ok
abbrev pub ok_count : List Word → ℕ
ok_count [] = 0
ok_count (w ∷ words) = if is_ok w then suc (ok_count words) else ok_count words

-- the last line, with the number of commands and of those that are ok
abbrev pub total_line : ℕ → ℕ → List ℕ
total_line total ok = codes "total " ++ decimal total ++ codes " ok " ++ decimal ok ++ codes "\n"

abbrev pub report_of : List Word → List ℕ
report_of words = lines_of words ++ total_line (length words) (ok_count words)

-- 0 exactly where each command is ok
abbrev pub report_status : List Word → ℕ
report_status words = if ok_count words == length words then 0 else 1
