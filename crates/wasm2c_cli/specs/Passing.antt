-- What passes through the files for the words of a command line: what is read, what follows from the bytes that reads gave, and
-- what is put. Nothing here speaks of what files hold, so it is said of real files too.
use Rattle.std.specs.Prelude.{◌≡◌, ◌⊎◌, ℕ, ◌-◌, ◌<◌, ◌≤◌, List, [], ◌∷◌, ◌++◌, length, Some, Result, Ok, Err, MatchOption}
use Rattle.std.specs.List.{AllByRecursion}
use Rattle.w2c_io.specs.Contents.{Name}
use Rattle.w2c_io.specs.Events.{Event, Read}
use Rattle.w2c_io.specs.declared.answers.ReadAnswer.{ReadAnswer}
use Rattle.w2c_io.specs.declared.answers.ReadAnswer.TheVariants as reading
use Rattle.w2c_io.specs.declared.answers.WriteAnswer.TheVariants as writing
use Rattle.w2c_files.specs.Passing.{limited, ReadsAll, ReadsInOrder, WritesFiles, BreaksOffAt, WritesSome}
use Rattle.w2c_files.specs.Reading.{Unreadable, Missing as NotThere, TooLong, Past, total}
use Rattle.wasm_tree.specs.declared.tree.Module.{Module}
use Rattle.wasm_tree.specs.Limits.{most_module_bytes}
use Rattle.w2c_sim.specs.Translation.{IsModuleOf, SpellsUnit, text_of}
use Rattle.wasm2c_words.specs.CommandLine.{Line, line_of}
use Rattle.wasm2c_cli.specs.Job.{Job, Usage, Missing, Refused, Write, AreSourcesBy, IsJobBy, files_of}
use Rattle.wasm2c_cli.specs.Lines.{read_line, refused_line, usage_line, write_line}
use Rattle.wasm2c_cli.specs.Plan.{Target, inputs_of, most_set_bytes, targets_of}
use Rattle.wasm2c_cli.specs.Units.{DoTheSameWithOthers, StandAllBy, texts_made}

-- ---- reading

-- the first of these files were read, each once and in order, each in front of the last gave bytes, and no other call was made
abbrev pub ReadsFirst : List Name → List Event → Type 0
ReadsFirst names events = ReadsInOrder (limited most_module_bytes names) events

-- all of these files were read, each once and in order, and gave these bytes, no more than a module and a call may have
pub record ReadsWhole (names : List Name) (given : List Event) (all : List (List ℕ)) : Type 0 where
  pub calls : ReadsAll most_module_bytes names all given
  pub fit : AllByRecursion (λ bytes. length bytes ≤ most_module_bytes) all
  pub together : total all ≤ most_set_bytes

-- why reading stops at a file, by what its read answered behind so many bytes of the files before it
abbrev pub StopsByAnswer : ℕ → Result (List ℕ) ReadAnswer → Unreadable → Type 0
StopsByAnswer before (Err reading.Absent) NotThere = Unit {0}
StopsByAnswer before (Err reading.Failed) NotThere = Unit {0}
StopsByAnswer before (Err reading.TooLong) TooLong = Unit {0}
StopsByAnswer before (Ok bytes) (Past place) = (most_set_bytes - before < length bytes) × (place ≡ most_set_bytes - before)
StopsByAnswer before _ _ = ⊥

-- the files in front of this one were read and gave bytes, and it was read last, and stopped the reading for this reason
pub record StopsAfter (names : List Name) (given : List Event) (file : Name) (why : Unreadable) : Type 0 where
  pub front : List Name
  pub rest : List Name
  pub all : List (List ℕ)
  pub answer : Result (List ℕ) ReadAnswer
  pub first : List Event
  pub split : names ≡ front ++ file ∷ rest
  pub read : ReadsAll most_module_bytes front all first
  pub calls : given ≡ first ++ Read file most_module_bytes answer ∷ []
  pub together : total all ≤ most_set_bytes
  pub stops : StopsByAnswer (total all) answer why

-- what a line asks for, over what the reads gave
abbrev pub IsJobOver : Line → List Event → Job → Type 0
IsJobOver line given job = IsJobBy (StopsAfter (inputs_of line) given) (ReadsWhole (inputs_of line) given) line job

-- ---- what follows

-- the status that a job is answered by, the line that is said, and what is written: all of the job's files; or, where a write
-- failed or memory was wanting, those in front of the one that was broken off
abbrev pub Follows : Job → ℕ → (List ℕ → Type 0) → List Event → Type 0
Follows Usage status says put = ⊥
Follows (Missing file) status says put = (status ≡ 3) × (put ≡ []) × says (read_line file)
Follows (Refused file reason) status says put = (status ≡ 1) × (put ≡ []) × says (refused_line file reason)
Follows (Write files) status says put =
    ((status ≡ 0) × WritesFiles files put)
    ⊎ ((status ≡ 4) × (name : Name) × BreaksOffAt files name writing.Failed put × says (write_line name))
    ⊎ ((status ≡ 5) × WritesSome files put)

-- what passes for a line: its files are read first, and then what is asked for over what the reads gave is done; or memory was
-- wanting, and nothing was written
pub record PassesLine (line : Line) (status : ℕ) (says : List ℕ → Type 0) (events : List Event) : Type 0 where
  pub given : List Event
  pub put : List Event
  pub split : events ≡ given ++ put
  pub reads : ReadsFirst (inputs_of line) given
  pub follows : ((job : Job) × IsJobOver line given job × Follows job status says put) ⊎ ((status ≡ 5) × (put ≡ []))

-- what passes for words, with this status and the lines that are said: nothing where they have no reading
abbrev pub PassesFor : List Name → ℕ → (List ℕ → Type 0) → List Event → Type 0
PassesFor words status says events = MatchOption (line_of words)
    ((events ≡ []) × (((status ≡ 2) × says usage_line) ⊎ (status ≡ 5)))
    (λ line. PassesLine line status says events)

-- ---- the units that are put

-- the bytes spell the module, and the text that is put for it spells one unit, which keeps the rules and has the module's shape
pub record IsUnitOf (t : Target) (bytes : List ℕ) (m : Module) : Type 0 where
  pub is_module : IsModuleOf bytes t.module_name m
  pub unit : SpellsUnit (record { name = t.module_name; tree = m }) (text_of m t.module_name)

-- The C file and the header of each module are put whole: of the modules of the bytes that reads gave, or that are generated. What
-- is linked of these units, and of any that other calls have made, does what the modules do.
pub record PutsLinked (line : Line) (events : List Event) : Type 0 where
  pub given : List Event
  pub put : List Event
  pub split : events ≡ given ++ put
  pub reads : ReadsFirst (inputs_of line) given
  pub stand : StandAllBy IsUnitOf line (AreSourcesBy (ReadsWhole (inputs_of line) given) line)
  pub files : WritesFiles (files_of (targets_of line) stand.modules) put
  pub same : DoTheSameWithOthers (texts_made (targets_of line) stand.sources stand.modules)

abbrev pub PutsLinkedUnits : List Name → List Event → Type 0
PutsLinkedUnits words events = (line : Line) × (line_of words ≡ Some line) × PutsLinked line events
