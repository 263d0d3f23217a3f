-- What a command line asks for, over what the files hold or what reads of them gave.
use Rattle.std.specs.Prelude.{◌≡◌, ◌⊎◌, ℕ, List, [], ◌∷◌, ◌++◌, MatchOption}
use Rattle.w2c_io.specs.Contents.{Name, Contents}
use Rattle.w2c_files.specs.Reading.{AreRead, Missing as NotThere, StopsReading, Unreadable}
use Rattle.wasm_tree.specs.declared.tree.Module.{Module}
use Rattle.wasm_tree.specs.Limits.{most_module_bytes}
use Rattle.wasm_typing.specs.Verdict.{Accepted}
use Rattle.wasm_valid.specs.FileVerdict.{Read, IsVerdictOn}
use Rattle.w2c_gen.specs.GeneratedFile.{IsGeneratedFile}
use Rattle.w2c_sim.specs.Translation.{text_of, header_text_of}
use Rattle.wasm2c_words.specs.CommandLine.{Line, generate, runtime, line_of}
use Rattle.wasm2c_cli.specs.declared.stop.Reason.{Reason}
use Rattle.wasm2c_cli.specs.Plan.{Target, inputs_of, most_set_bytes, targets_of}
use Rattle.wasm2c_cli.specs.Reasons.{IsFirstRefused, PassesLimitBy}
use Rattle.wasm2c_cli.specs.Runtime.{runtime_files}

pub data Job : Type 0 where
  Usage : Job
  Missing : (file : Name) → Job
  Refused : (file : Name) (reason : Reason) → Job
  Write : (files : List (Name × List ℕ)) → Job

-- the bytes of each module: those of the files, of which Reads is so when all are read, or those that are generated
abbrev pub AreSourcesBy : (List (List ℕ) → Type 0) → Line → List (List ℕ) → Type 0
AreSourcesBy Reads (generate g) sources = (bytes : List ℕ) × IsGeneratedFile g.count bytes × (sources ≡ bytes ∷ [])
AreSourcesBy Reads (runtime dir) sources = sources ≡ []
AreSourcesBy Reads line sources = Reads sources

-- what the files of a line hold, when all can be read
abbrev pub AreReadOf : Line → Contents → List (List ℕ) → Type 0
AreReadOf line contents = AreRead most_module_bytes most_set_bytes contents (inputs_of line)

abbrev pub AreSources : Line → Contents → List (List ℕ) → Type 0
AreSources line contents sources = AreSourcesBy (AreReadOf line contents) line sources

-- the bytes are accepted, and these are their modules
abbrev pub AreAccepted : List (List ℕ) → List Module → Type 0
AreAccepted [] [] = Unit {0}
AreAccepted (bytes ∷ sources) (m ∷ modules) = IsVerdictOn bytes (Read m Accepted) × AreAccepted sources modules
AreAccepted _ _ = ⊥

-- the files of a module: its C file, then its header
abbrev pub module_files : Target → Module → List (Name × List ℕ)
module_files t m = (t.c_file, text_of m t.module_name) ∷ (t.header, header_text_of m t.module_name) ∷ []

abbrev pub files_of : List Target → List Module → List (Name × List ℕ)
files_of (t ∷ targets) (m ∷ modules) = module_files t m ++ files_of targets modules
files_of _ _ = []

-- each module is accepted, and these are the files to write
pub record TranslatesBy (Reads : List (List ℕ) → Type 0) (line : Line) (files : List (Name × List ℕ)) : Type 0 where
  pub sources : List (List ℕ)
  pub modules : List Module
  pub read : AreSourcesBy Reads line sources
  pub accepted : AreAccepted sources modules
  pub written : files ≡ files_of (targets_of line) modules

abbrev pub Translates : Line → Contents → List (Name × List ℕ) → Type 0
Translates line contents files = TranslatesBy (AreReadOf line contents) line files

-- the files that a line asks for
abbrev pub WritesBy : (List (List ℕ) → Type 0) → Line → List (Name × List ℕ) → Type 0
WritesBy Reads (runtime dir) files = files ≡ runtime_files dir
WritesBy Reads line files = TranslatesBy Reads line files

abbrev pub Writes : Line → Contents → List (Name × List ℕ) → Type 0
Writes line contents files = WritesBy (AreReadOf line contents) line files

-- what a line asks for: the first file that cannot be read or passes a limit of bytes, where reading stops so; else, when all are
-- read, the first that is refused; else the files to write
abbrev pub IsJobBy : (Name → Unreadable → Type 0) → (List (List ℕ) → Type 0) → Line → Job → Type 0
IsJobBy Stops Reads line Usage = ⊥
IsJobBy Stops Reads line (Missing file) = Stops file NotThere
IsJobBy Stops Reads line (Refused file reason) = PassesLimitBy (Stops file) reason
    ⊎ ((sources : List (List ℕ)) × AreSourcesBy Reads line sources × IsFirstRefused (inputs_of line) sources file reason)
IsJobBy Stops Reads line (Write files) = WritesBy Reads line files

-- this over what the files hold
abbrev pub IsJobOf : Line → Contents → Job → Type 0
IsJobOf line contents job =
    IsJobBy (StopsReading most_module_bytes most_set_bytes contents (inputs_of line)) (AreReadOf line contents) line job

-- usage where the words have no reading, else what their line asks for
abbrev pub IsJob : List Name → Contents → Job → Type 0
IsJob words contents job = MatchOption (line_of words) (job ≡ Usage) (λ line. IsJobOf line contents job)
