-- The file of a generated module, and what is said of it.
use Rattle.std.specs.Prelude.{ℕ, List}
use Rattle.wasm_tree.specs.declared.tree.Module.{Module}
use Rattle.wasm_tree.specs.Bytes.{AreBytes}
use Rattle.wasm_spelling.specs.Places.{SameApartFromPlaces}
use Rattle.wasm_typing.specs.Verdict.{Accepted}
use Rattle.wasm_valid.specs.FileVerdict.{Read, IsVerdictOn}
use Rattle.wasm_writing.specs.ShortFile.{IsShortFile}
use Rattle.w2c_gen.specs.Generated.{generated}

-- these bytes are the shortest file of the module of n functions. There is one (law `a_generated_module_has_one_file`)
abbrev pub IsGeneratedFile : ℕ → List ℕ → Type 0
IsGeneratedFile n bytes = AreBytes bytes × IsShortFile (generated n) bytes

-- the bytes are accepted, and their module differs from this one in places alone
abbrev pub IsAcceptedAs : Module → List ℕ → Type 0
IsAcceptedAs t bytes = (tree : Module) × SameApartFromPlaces t tree × IsVerdictOn bytes (Read tree Accepted)
