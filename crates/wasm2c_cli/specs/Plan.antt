-- What a line asks to be read, and which files it asks to be written.
use Rattle.std.specs.Prelude.{ℕ, List, [], ◌∷◌, map}
use Rattle.w2c_io.specs.Contents.{Name}
use Rattle.w2c_files.specs.Standing.{file_names}
use Rattle.wasm2c_words.specs.CommandLine.{Line, translate, set, generate, runtime}
use Rattle.wasm2c_words.specs.Names.{header_name_of, module_name_of}
use Rattle.wasm2c_words.specs.SetFiles.{c_file_of, header_of}
use Rattle.wasm2c_cli.specs.Runtime.{runtime_files}

-- the most bytes of all files of a call
abbrev pub most_set_bytes : ℕ
most_set_bytes = 16777216

-- a module to translate: its name, its C file, and the header beside it
pub record Target : Type 0 where
  pub module_name : List ℕ
  pub c_file : Name
  pub header : Name

-- a module under a name, in a C file
abbrev pub target : Name → List ℕ → Target
target output module_name = record { module_name = module_name; c_file = output; header = header_name_of output }

-- the module of a file of a set, in its directory
abbrev pub target_in : Name → Name → Target
target_in dir input = record {
  module_name = module_name_of input;
  c_file = c_file_of dir (module_name_of input);
  header = header_of dir (module_name_of input);
}

-- the files that are read, in order
abbrev pub inputs_of : Line → List Name
inputs_of (translate t) = t.input ∷ []
inputs_of (set s) = s.inputs
inputs_of _ = []

-- the modules that are translated, in order
abbrev pub targets_of : Line → List Target
targets_of (translate t) = target t.output t.module_name ∷ []
targets_of (set s) = map (target_in s.dir) s.inputs
targets_of (generate g) = target g.output g.module_name ∷ []
targets_of (runtime dir) = []

-- the names of the files of modules: for each the C file, then the header
abbrev pub names_of_targets : List Target → List Name
names_of_targets [] = []
names_of_targets (t ∷ ts) = t.c_file ∷ t.header ∷ names_of_targets ts

-- the files that are written, in order
abbrev pub outputs_of : Line → List Name
outputs_of (runtime dir) = file_names (runtime_files dir)
outputs_of line = names_of_targets (targets_of line)
