-- What the steps of the work say of each other, of what passes through the files.
use Rattle.std.specs.Prelude.{◌≡◌, ◌⊎◌, ℕ, List, [], ◌++◌, Some, None, string_bytes}
use Rattle.std.specs.List.{AllByRecursion}
use Rattle.w2c_io.specs.Contents.{Name}
use Rattle.w2c_io.specs.Events.{Event}
use Rattle.w2c_io.specs.declared.answers.WriteAnswer.TheVariants as writing
use Rattle.w2c_files.specs.Passing.{WritesFiles, BreaksOffAt, WritesSome}
use Rattle.w2c_files.specs.Reading.{Missing as NotThere}
use Rattle.wasm_tree.specs.Bytes.{AreBytes}
use Rattle.wasm_tree.specs.declared.tree.Module.{Module}
use Rattle.wasm2c_words.specs.CommandLine.{Line, Generation, translate, set, generate, runtime, line_of}
use Rattle.wasm2c_cli.specs.declared.stop.Stop.{Stop}
use Rattle.wasm2c_cli.specs.declared.stop.Stop.TheVariants as stops
use Rattle.wasm2c_cli.specs.Job.{AreAccepted, Missing, Refused, Write, files_of, module_files}
use Rattle.wasm2c_cli.specs.Parts.{AreTaken, HasPassed, IsNamed, IsTakenFile}
use Rattle.wasm2c_cli.specs.Passing.{IsJobOver, ReadsFirst, ReadsWhole, StopsAfter}
use Rattle.wasm2c_cli.specs.Plan as plan
use Rattle.wasm2c_cli.specs.Plan.{inputs_of, target, targets_of}
use Rattle.wasm2c_cli.specs.Reasons.{IsFirstRefused, PassesLimitBy}
use Rattle.wasm2c_cli.specs.Runtime.{runtime_files}

-- ---- reading, and writing

-- why files were not all read, by what the reads answered
abbrev pub EndsReading : List Name → List Event → Stop → Type 0
EndsReading names given stops.Usage = ⊥
EndsReading names given (stops.Refused name reason) = PassesLimitBy (StopsAfter names given (string_bytes name)) reason
EndsReading names given (stops.Unread name) = StopsAfter names given (string_bytes name) NotThere
EndsReading names given (stops.Unwritten name) = ⊥
EndsReading names given stops.Memory = Unit {0}

pub record TriesReading (names : List Name) (stop : Stop) (given : List Event) : Type 0 where
  pub reads : ReadsFirst names given
  pub ends : EndsReading names given stop

-- why not all are written, by what was put
abbrev pub EndsWriting : List (Name × List ℕ) → Stop → List Event → Type 0
EndsWriting files stops.Usage put = ⊥
EndsWriting files (stops.Refused name reason) put = ⊥
EndsWriting files (stops.Unread name) put = ⊥
EndsWriting files (stops.Unwritten name) put = BreaksOffAt files (string_bytes name) writing.Failed put
EndsWriting files stops.Memory put = WritesSome files put

-- ---- translating files

-- all files are read and accepted, and then the files of their modules are written
pub record TranslatesAll (inputs : List Name) (targets : List plan.Target) (events : List Event) : Type 0 where
  pub given : List Event
  pub put : List Event
  pub sources : List (List ℕ)
  pub modules : List Module
  pub split : events ≡ given ++ put
  pub read : ReadsWhole inputs given sources
  pub taken : AreTaken sources modules
  pub named : AllByRecursion IsNamed targets
  pub files : WritesFiles (files_of targets modules) put

-- all are read and accepted
pub record AllAccepted (inputs : List Name) (given : List Event) (modules : List Module) : Type 0 where
  pub sources : List (List ℕ)
  pub read : ReadsWhole inputs given sources
  pub accepted : AreAccepted sources modules

abbrev pub EndsTranslating : List Name → List plan.Target → List Event → List Event → Stop → Type 0
EndsTranslating inputs targets given put stops.Usage = ⊥
EndsTranslating inputs targets given put (stops.Refused name reason) = (put ≡ [])
    × (PassesLimitBy (StopsAfter inputs given (string_bytes name)) reason
    ⊎ ((sources : List (List ℕ)) × ReadsWhole inputs given sources × IsFirstRefused inputs sources (string_bytes name) reason))
EndsTranslating inputs targets given put (stops.Unread name) = (put ≡ []) × StopsAfter inputs given (string_bytes name) NotThere
EndsTranslating inputs targets given put (stops.Unwritten name) = (modules : List Module) × AllAccepted inputs given modules
    × BreaksOffAt (files_of targets modules) (string_bytes name) writing.Failed put
EndsTranslating inputs targets given put stops.Memory = (put ≡ [])
    ⊎ ((modules : List Module) × AllAccepted inputs given modules × WritesSome (files_of targets modules) put)

pub record TriesTranslating (inputs : List Name) (targets : List plan.Target) (stop : Stop) (events : List Event) : Type 0 where
  pub given : List Event
  pub put : List Event
  pub split : events ≡ given ++ put
  pub reads : ReadsFirst inputs given
  pub ends : EndsTranslating inputs targets given put stop

-- ---- the work on a line

-- a module is generated, and its files are written
pub record GeneratesAll (g : Generation) (events : List Event) : Type 0 where
  pub bytes : List ℕ
  pub generated : Module
  pub taken : IsTakenFile g bytes generated
  pub named : AreBytes g.module_name
  pub files : WritesFiles (module_files (target g.output g.module_name) generated) events

abbrev pub PassesWhole : Line → List Event → Type 0
PassesWhole (translate t) events = TranslatesAll (inputs_of (translate t)) (targets_of (translate t)) events
PassesWhole (set s) events = TranslatesAll (inputs_of (set s)) (targets_of (set s)) events
PassesWhole (generate g) events = GeneratesAll g events
PassesWhole (runtime dir) events = WritesFiles (runtime_files dir) events

-- why the work on a line stopped, by what was read and put
abbrev pub EndsLine : Line → List Event → List Event → Stop → Type 0
EndsLine line given put stops.Usage = ⊥
EndsLine line given put (stops.Refused name reason) = (put ≡ []) × IsJobOver line given (Refused (string_bytes name) reason)
EndsLine line given put (stops.Unread name) = (put ≡ []) × IsJobOver line given (Missing (string_bytes name))
EndsLine line given put (stops.Unwritten name) = (files : List (Name × List ℕ)) × IsJobOver line given (Write files)
    × BreaksOffAt files (string_bytes name) writing.Failed put
EndsLine line given put stops.Memory =
    (put ≡ []) ⊎ ((files : List (Name × List ℕ)) × IsJobOver line given (Write files) × WritesSome files put)

pub record TriesLine (line : Line) (stop : Stop) (events : List Event) : Type 0 where
  pub given : List Event
  pub put : List Event
  pub split : events ≡ given ++ put
  pub reads : ReadsFirst (inputs_of line) given
  pub ends : EndsLine line given put stop

-- ---- the work on words

abbrev pub PassesWork : List Name → List Event → Type 0
PassesWork words events = (line : Line) × (line_of words ≡ Some line) × HasPassed line × PassesWhole line events

abbrev pub TriesWork : List Name → Stop → List Event → Type 0
TriesWork words stop events =
    ((stop ≡ stops.Usage) × (line_of words ≡ None) × (events ≡ []))
    ⊎ ((stop ≡ stops.Memory) × (events ≡ []))
    ⊎ ((line : Line) × (line_of words ≡ Some line) × TriesLine line stop events)
