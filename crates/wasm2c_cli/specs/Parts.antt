-- What the steps of the work say of each other.
use Rattle.std.specs.Prelude.{◌≡◌, ◌⊎◌, ℕ, ◌≤◌, true, IsTrue, List, [], ◌∷◌, length, map, slice_get, Option, Some, string_bytes}
use Rattle.std.specs.List.{AllByRecursion}
use Rattle.w2c_io.specs.Contents.{Name, Contents, Told}
use Rattle.w2c_io.specs.Causes.{Faulted}
use Rattle.w2c_io.specs.declared.answers.WriteAnswer.{WriteAnswer}
use Rattle.w2c_io.specs.declared.answers.WriteAnswer.TheVariants as answers
use Rattle.w2c_io.specs.Telling.{Tells, Says, SaysPart}
use Rattle.w2c_files.specs.Reading.{AreRead, Missing, StopsReading as StopsAtUnread}
use Rattle.w2c_files.specs.Standing.{IsOneOf, written, Stands, StandsAt}
use Rattle.w2c_files.specs.declared.reading.ReadStop.{ReadStop}
use Rattle.w2c_files.specs.declared.reading.ReadStop.TheVariants as reading
use Rattle.wasm_tree.specs.declared.tree.Module.{Module}
use Rattle.wasm_tree.specs.Bytes.{AreBytes}
use Rattle.wasm_tree.specs.Limits.{most_module_bytes}
use Rattle.wasm_spelling.specs.declared.fault.Which.TheVariants.{ModuleBytes, SetBytes}
use Rattle.wasm_typing.specs.Verdict.{Accepted}
use Rattle.wasm_valid.specs.FileVerdict.{Read, IsVerdictOn}
use Rattle.w2c_sim.specs.declared.refusal.Refusal.{Refusal}
use Rattle.w2c_gen.specs.GeneratedFile.{IsGeneratedFile}
use Rattle.wasm2c_words.specs.CommandLine.{Line, Generation, translate, set, generate, runtime, line_of}
use Rattle.w2c_files.specs.CFile.{is_c_file}
use Rattle.wasm2c_words.specs.Names.{are_distinct, module_name_of}
use Rattle.wasm2c_cli.specs.Plan as plan
use Rattle.wasm2c_cli.specs.Plan.{most_set_bytes, names_of_targets, inputs_of, targets_of, target}
use Rattle.wasm2c_cli.specs.declared.plan.Target.{Target}
use Rattle.wasm2c_cli.specs.declared.stop.Reason.{Reason}
use Rattle.wasm2c_cli.specs.declared.stop.Reason.TheVariants.{Limit}
use Rattle.wasm2c_cli.specs.declared.stop.Stop.{Stop}
use Rattle.wasm2c_cli.specs.declared.stop.Stop.TheVariants as stops
use Rattle.wasm2c_cli.specs.declared.work.Finished.{Finished}
use Rattle.wasm2c_cli.specs.declared.work.Finished.TheVariants as finished
use Rattle.wasm2c_cli.specs.Job.{AreAccepted, files_of, module_files}
use Rattle.wasm2c_cli.specs.Reasons.{IsFirstRefused, PassesLimit, reason_of}
use Rattle.wasm2c_cli.specs.Lines.{summary_line}
use Rattle.wasm2c_cli.specs.Runtime.{runtime_files, runtime_header, runtime_source}

-- ---- what the code keeps, without where it lies in memory

abbrev pub seen_target : Target → plan.Target
seen_target t = record { module_name = t.module_name.now; c_file = string_bytes t.c_file; header = string_bytes t.header }

abbrev pub seen_targets : List Target → List plan.Target
seen_targets targets = map seen_target targets

-- ---- what a line has passed

-- the name is one that a module may have
abbrev pub HasName : plan.Target → Type 0
HasName t = (1 ≤ length t.module_name) × (length t.module_name ≤ 1024)

abbrev pub IsNamed : plan.Target → Type 0
IsNamed t = AreBytes t.module_name

abbrev pub IsFitGeneration : Generation → Type 0
IsFitGeneration g = IsTrue (is_c_file g.output) × HasName (target g.output g.module_name) × (1 ≤ g.count) × (g.count ≤ 20000)

abbrev pub HasPassed : Line → Type 0
HasPassed (translate t) = IsTrue (is_c_file t.output) × HasName (target t.output t.module_name)
HasPassed (set s) = AllByRecursion HasName (targets_of (set s)) × (are_distinct (map module_name_of s.inputs) ≡ true)
HasPassed (generate g) = IsFitGeneration g
HasPassed (runtime dir) = Unit {0}

-- ---- reading, accepting and writing

-- why files were not all read
abbrev pub StopsReading : Told → List Name → ℕ → ℕ → Option Name → Stop → Type 0
StopsReading told names before after named stops.Usage = ⊥
StopsReading told names before after named (stops.Refused name reason) =
    IsOneOf (string_bytes name) names × Tells told (λ contents. PassesLimit contents names (string_bytes name) reason)
StopsReading told names before after named (stops.Unread name) = IsOneOf (string_bytes name) names
    × (Faulted (string_bytes name) before after named ⊎ ((contents : Contents) × (told ≡ Some contents)
    × StopsAtUnread most_module_bytes most_set_bytes contents names (string_bytes name) Missing))
StopsReading told names before after named (stops.Unwritten name) = ⊥
StopsReading told names before after named stops.Memory = Unit {0}

-- reading stopped at one of the files, within the limit of all, or for want of memory
abbrev pub IsAtFile : List Name → ReadStop → Type 0
IsAtFile names (reading.Unread k) = (name : Name) × (slice_get names k ≡ Some name)
IsAtFile names (reading.TooLong k) = (name : Name) × (slice_get names k ≡ Some name)
IsAtFile names (reading.Past k place) = (place ≤ most_set_bytes) × (name : Name) × (slice_get names k ≡ Some name)
IsAtFile names reading.Memory = Unit {0}

-- the stop at the file with a number, which cannot be read: memory was wanting, or it is named
abbrev pub StopsAtUnreadable : List Name → ℕ → Stop → Type 0
StopsAtUnreadable names k stops.Usage = ⊥
StopsAtUnreadable names k (stops.Refused name reason) = ⊥
StopsAtUnreadable names k (stops.Unread name) = slice_get names k ≡ Some (string_bytes name)
StopsAtUnreadable names k (stops.Unwritten name) = ⊥
StopsAtUnreadable names k stops.Memory = Unit {0}

-- the stop at the file with a number, which passes a limit: memory was wanting, or it is named, and this is the reason
abbrev pub StopsAtLimit : Reason → List Name → ℕ → Stop → Type 0
StopsAtLimit limit names k stops.Usage = ⊥
StopsAtLimit limit names k (stops.Refused name reason) = (reason ≡ limit) × (slice_get names k ≡ Some (string_bytes name))
StopsAtLimit limit names k (stops.Unread name) = ⊥
StopsAtLimit limit names k (stops.Unwritten name) = ⊥
StopsAtLimit limit names k stops.Memory = Unit {0}

-- the stop where reading stopped so
abbrev pub StopsAtRead : ReadStop → List Name → Stop → Type 0
StopsAtRead (reading.Unread k) names stop = StopsAtUnreadable names k stop
StopsAtRead (reading.TooLong k) names stop = StopsAtLimit (Limit most_module_bytes ModuleBytes) names k stop
StopsAtRead (reading.Past k place) names stop = StopsAtLimit (Limit place SetBytes) names k stop
StopsAtRead reading.Memory names stop = stop ≡ stops.Memory

-- bytes that are accepted, and their modules
abbrev pub AreTaken : List (List ℕ) → List Module → Type 0
AreTaken [] [] = Unit {0}
AreTaken (bytes ∷ sources) (m ∷ modules) = (AreBytes bytes × IsVerdictOn bytes (Read m Accepted)) × AreTaken sources modules
AreTaken [] (m ∷ modules) = ⊥
AreTaken (bytes ∷ sources) [] = ⊥

-- the stop at the file with a number, which is refused: memory was wanting, or this is the reason
abbrev pub StopsAtRefused : Refusal → List Name → ℕ → Stop → Type 0
StopsAtRefused refusal names k stops.Usage = ⊥
StopsAtRefused refusal names k (stops.Refused name reason) =
    (reason_of refusal ≡ Some reason) × (slice_get names k ≡ Some (string_bytes name))
StopsAtRefused refusal names k (stops.Unread name) = ⊥
StopsAtRefused refusal names k (stops.Unwritten name) = ⊥
StopsAtRefused refusal names k stops.Memory = Unit {0}

-- why not all are accepted
abbrev pub StopsAccepting : List Name → List (List ℕ) → Stop → Type 0
StopsAccepting names sources stops.Usage = ⊥
StopsAccepting names sources (stops.Refused name reason) = IsFirstRefused names sources (string_bytes name) reason
StopsAccepting names sources (stops.Unread name) = ⊥
StopsAccepting names sources (stops.Unwritten name) = ⊥
StopsAccepting names sources stops.Memory = Unit {0}

-- the stop at a file that is not written: memory was wanting, or the file failed
abbrev pub StopsAtFile : WriteAnswer → Name → Stop → Type 0
StopsAtFile answer file stops.Usage = ⊥
StopsAtFile answer file (stops.Refused name reason) = ⊥
StopsAtFile answer file (stops.Unread name) = ⊥
StopsAtFile answer file (stops.Unwritten name) = (answer ≡ answers.Failed) × (string_bytes name ≡ file)
StopsAtFile answer file stops.Memory = Unit {0}

-- why not all are written
abbrev pub StopsWriting : Told → Told → List (Name × List ℕ) → ℕ → ℕ → Option Name → Stop → Type 0
StopsWriting old new files before after named stops.Usage = ⊥
StopsWriting old new files before after named (stops.Refused name reason) = ⊥
StopsWriting old new files before after named (stops.Unread name) = ⊥
StopsWriting old new files before after named (stops.Unwritten name) = Faulted (string_bytes name) before after named
    × StandsAt old new files (string_bytes name)
StopsWriting old new files before after named stops.Memory = Stands old new files

-- ---- translating files

-- all files are read and accepted, and so the files of their modules stand
pub record IsTranslated (inputs : List Name) (targets : List plan.Target) (contents : Contents) (old new : Told) : Type 0 where
  pub sources : List (List ℕ)
  pub modules : List Module
  pub read : AreRead most_module_bytes most_set_bytes contents inputs sources
  pub taken : AreTaken sources modules
  pub named : AllByRecursion IsNamed targets
  pub stand : new ≡ written old (files_of targets modules)

-- the work that is finished where they stand
abbrev pub FinishesTranslating : List Name → List plan.Target → Told → Told → Finished → Type 0
FinishesTranslating inputs targets old new f = (f ≡ finished.Written) × Tells old (λ contents. IsTranslated inputs targets contents old new)

-- all are read and accepted
pub record AreAllTaken (inputs : List Name) (contents : Contents) (modules : List Module) : Type 0 where
  pub sources : List (List ℕ)
  pub read : AreRead most_module_bytes most_set_bytes contents inputs sources
  pub accepted : AreAccepted sources modules

-- the first file that passes a limit, or else the first that is refused
abbrev pub IsRefusedFile : Contents → List Name → Stop → Type 0
IsRefusedFile contents names (stops.Refused name reason) = PassesLimit contents names (string_bytes name) reason
    ⊎ ((sources : List (List ℕ)) × AreRead most_module_bytes most_set_bytes contents names sources
    × IsFirstRefused names sources (string_bytes name) reason)
IsRefusedFile contents names _ = ⊥

abbrev pub StopsTranslating : List Name → List plan.Target → Told → Told → ℕ → ℕ → ℕ → ℕ → Option Name → Stop → Type 0
StopsTranslating inputs targets old new reads reads' writes writes' named stops.Usage = ⊥
StopsTranslating inputs targets old new reads reads' writes writes' named (stops.Refused name reason) = IsOneOf (string_bytes name) inputs
    × Tells old (λ contents. IsRefusedFile contents inputs (stops.Refused name reason)) × (new ≡ old)
StopsTranslating inputs targets old new reads reads' writes writes' named (stops.Unread name) = IsOneOf (string_bytes name) inputs
    × (Faulted (string_bytes name) reads reads' named ⊎ ((contents : Contents) × (old ≡ Some contents)
    × StopsAtUnread most_module_bytes most_set_bytes contents inputs (string_bytes name) Missing)) × (new ≡ old)
StopsTranslating inputs targets old new reads reads' writes writes' named (stops.Unwritten name) =
    IsOneOf (string_bytes name) (names_of_targets targets) × Faulted (string_bytes name) writes writes' named
    × Tells old (λ contents. (modules : List Module) × AreAllTaken inputs contents modules
    × StandsAt old new (files_of targets modules) (string_bytes name))
StopsTranslating inputs targets old new reads reads' writes writes' named stops.Memory = Tells old (λ contents. (new ≡ old)
    ⊎ ((modules : List Module) × AreAllTaken inputs contents modules × Stands old new (files_of targets modules)))

-- ---- generating a module

-- the file that is generated, and its module
pub record IsTakenFile (g : Generation) (bytes : List ℕ) (m : Module) : Type 0 where
  pub file : IsGeneratedFile g.count bytes
  pub are_bytes : AreBytes bytes
  pub accepted : IsVerdictOn bytes (Read m Accepted)

-- the module that is generated has a file of so many bytes, and its files stand
pub record IsGenerated (g : Generation) (count : ℕ) (old new : Told) : Type 0 where
  pub bytes : List ℕ
  pub generated : Module
  pub taken : IsTakenFile g bytes generated
  pub many : count ≡ length bytes
  pub named : AreBytes g.module_name
  pub stand : new ≡ written old (module_files (target g.output g.module_name) generated)

-- ---- the runtime

-- the header and the source under names
abbrev pub runtime_under : Name → Name → List (Name × List ℕ)
runtime_under header source = (header, runtime_header) ∷ (source, runtime_source) ∷ []

-- ---- the work on a line that was finished

abbrev pub FinishesLine : Line → Told → Told → Finished → Type 0
FinishesLine (translate t) old new f = FinishesTranslating (inputs_of (translate t)) (targets_of (translate t)) old new f
FinishesLine (set s) old new f = FinishesTranslating (inputs_of (set s)) (targets_of (set s)) old new f
FinishesLine (generate g) old new f = (count : ℕ) × (f ≡ finished.Generated g.count count) × IsGenerated g count old new
FinishesLine (runtime dir) old new f = (f ≡ finished.Written) × (new ≡ written old (runtime_files dir))

abbrev pub FinishesWork : List Name → Told → Told → Finished → Type 0
FinishesWork words old new f = (line : Line) × (line_of words ≡ Some line) × HasPassed line × FinishesLine line old new f

-- the stream gained the summary of a generated module, or a prefix of it where the count rose; and nothing else
abbrev pub SumsUp : Option (List ℕ) → Option (List ℕ) → ℕ → ℕ → Finished → Type 0
SumsUp old new before after finished.Written = new ≡ old
SumsUp old new before after (finished.Generated count bytes) = Says old new before after (summary_line count bytes)

abbrev pub SumsUpPart : Option (List ℕ) → Option (List ℕ) → Finished → Type 0
SumsUpPart old new finished.Written = new ≡ old
SumsUpPart old new (finished.Generated count bytes) = SaysPart old new (summary_line count bytes)
