-- Why the work stopped, and what stands then.
use Rattle.std.specs.Prelude.{◌≡◌, ◌⊎◌, ℕ, List, Option, Some, None, string_bytes}
use Rattle.w2c_io.specs.Contents.{Name, Contents, Told}
use Rattle.w2c_io.specs.Causes.{Faulted}
use Rattle.w2c_io.specs.Telling.{Tells}
use Rattle.w2c_files.specs.Standing.{IsOneOf, written, Stands, StandsAt}
use Rattle.wasm2c_words.specs.CommandLine.{Line, Generation, generate, line_of}
use Rattle.wasm2c_cli.specs.declared.stop.Stop.{Stop}
use Rattle.wasm2c_cli.specs.declared.stop.Stop.TheVariants as stops
use Rattle.wasm2c_cli.specs.Job.{Missing, Refused, Write, IsJob, IsJobOf}
use Rattle.wasm2c_cli.specs.Plan.{inputs_of, outputs_of}

-- one of the files that the words say are to be read
abbrev pub IsInput : Name → Option Line → Type 0
IsInput name None = ⊥
IsInput name (Some line) = IsOneOf name (inputs_of line)

-- one of the files that the words say are to be written
abbrev pub IsOutput : Name → Option Line → Type 0
IsOutput name None = ⊥
IsOutput name (Some line) = IsOneOf name (outputs_of line)

-- the words ask for this module to be generated
abbrev pub Generates : List Name → Generation → Type 0
Generates words g = line_of words ≡ Some (generate g)

-- where nothing was written, the same file is current
abbrev pub KeepsCurrent : Option Name → Option Name → Stop → Type 0
KeepsCurrent old new stops.Usage = new ≡ old
KeepsCurrent old new (stops.Refused name reason) = new ≡ old
KeepsCurrent old new (stops.Unread name) = new ≡ old
KeepsCurrent old new (stops.Unwritten name) = Unit {0}
KeepsCurrent old new stops.Memory = Unit {0}

-- ---- what a line asks for

-- the files are written as the line's job says
abbrev pub DoneLine : Line → Told → Told → Type 0
DoneLine line old new =
    Tells old (λ contents. (files : List (Name × List ℕ)) × IsJobOf line contents (Write files) × (new ≡ written old files))

-- nothing has changed, or some of the job's files stand
abbrev pub StandsOfLine : Line → Contents → Told → Told → Type 0
StandsOfLine line contents old new =
    (new ≡ old) ⊎ ((files : List (Name × List ℕ)) × IsJobOf line contents (Write files) × Stands old new files)

-- why the work on a line stopped
abbrev pub StopsLine : Line → Told → Told → ℕ → ℕ → ℕ → ℕ → Option Name → Stop → Type 0
StopsLine line old new reads reads' writes writes' named stops.Usage = ⊥
StopsLine line old new reads reads' writes writes' named (stops.Refused name reason) = IsOneOf (string_bytes name) (inputs_of line)
    × Tells old (λ contents. IsJobOf line contents (Refused (string_bytes name) reason)) × (new ≡ old)
StopsLine line old new reads reads' writes writes' named (stops.Unread name) = IsOneOf (string_bytes name) (inputs_of line)
    × (Faulted (string_bytes name) reads reads' named
    ⊎ ((contents : Contents) × (old ≡ Some contents) × IsJobOf line contents (Missing (string_bytes name)))) × (new ≡ old)
StopsLine line old new reads reads' writes writes' named (stops.Unwritten name) = IsOneOf (string_bytes name) (outputs_of line)
    × Faulted (string_bytes name) writes writes' named
    × Tells old (λ contents. (files : List (Name × List ℕ)) × IsJobOf line contents (Write files)
    × StandsAt old new files (string_bytes name))
StopsLine line old new reads reads' writes writes' named stops.Memory = Tells old (λ contents. StandsOfLine line contents old new)

-- ---- what the words ask for

abbrev pub Done : List Name → Told → Told → Type 0
Done words old new = Tells old (λ contents. (files : List (Name × List ℕ)) × IsJob words contents (Write files) × (new ≡ written old files))

abbrev pub StandsOfJob : List Name → Contents → Told → Told → Type 0
StandsOfJob words contents old new =
    (new ≡ old) ⊎ ((files : List (Name × List ℕ)) × IsJob words contents (Write files) × Stands old new files)

-- why the work stopped: the words have no reading, memory was wanting for one, or as the work on their line says
abbrev pub StopsWork : List Name → Told → Told → ℕ → ℕ → ℕ → ℕ → Option Name → Stop → Type 0
StopsWork words old new reads reads' writes writes' named stop =
    ((stop ≡ stops.Usage) × (line_of words ≡ None) × (new ≡ old))
    ⊎ ((stop ≡ stops.Memory) × (new ≡ old))
    ⊎ ((line : Line) × (line_of words ≡ Some line) × StopsLine line old new reads reads' writes writes' named stop)
