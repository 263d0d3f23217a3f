-- The shortest file of a module (WebAssembly Core 1.0, 5.5): its fields each spelled in the shortest way, sections
-- without entries left out, the data count section where the module has a data count, no custom sections.
use Rattle.std.specs.Prelude.{ℕ, List, length, ◌==◌, if◌then◌else◌}
use Rattle.wasm_tree.specs.declared.tree.Module.{Module}
use Rattle.wasm_spelling.specs.Fields.{Fields, finished, byte, provided, window}
use Rattle.wasm_spelling.specs.ModuleFields.{Part, parts, id_of, content, is_empty, each, magic, version}
use Rattle.wasm_writing.specs.Aside.{SpelledShort}

-- a section, where it has entries
unfoldable pub filled : Module → Part → Fields → Fields
filled t part rest = if is_empty part t then rest else byte (id_of part) (window (content part t finished) rest)

-- magic, version, and the sections that have entries; as many bodies as functions
abbrev pub short_fields : Module → Fields → Fields
short_fields t rest = magic (version (provided (length t.funcs == length t.bodies) (each (filled t) parts rest)))

abbrev pub IsShortFile : Module → List ℕ → Type 0
IsShortFile t bytes = SpelledShort (short_fields t finished) bytes
