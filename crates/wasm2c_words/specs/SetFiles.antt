-- The files of a set: DIR/NAME.c and DIR/NAME.h for each module, with its name escaped.
use Rattle.std.specs.Prelude.{ℕ, List, [], ◌∷◌, ◌++◌, codes}
use Rattle.std.specs.List.{flat_map}
use Rattle.w2c_io.specs.Contents.{Name}
use Rattle.w2c_mangle.specs.Escaping.{escaped}

-- a module's C file in a directory
abbrev pub c_file_of : Name → List ℕ → Name
c_file_of dir module_name = dir ++ (codes "/" ++ (escaped module_name ++ codes ".c"))

-- the header beside it
abbrev pub header_of : Name → List ℕ → Name
header_of dir module_name = dir ++ (codes "/" ++ (escaped module_name ++ codes ".h"))

-- both files of each module, in the order of the modules
abbrev pub files_of : Name → List (List ℕ) → List Name
files_of dir module_names = flat_map (λ name. c_file_of dir name ∷ header_of dir name ∷ []) module_names
