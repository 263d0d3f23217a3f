-- That a unit defines the parts of its init function, each under its number.
use Rattle.std.specs.Prelude.{ℕ, ◌+◌, List, [], ◌∷◌, ⊤}
use Rattle.wasm_tree.specs.declared.tree.Module.{Module}
use Rattle.c_meaning.specs.Linking.{Program}
use Rattle.alike.specs.Defines.{Defines}
use Rattle.c_init.specs.Init.{Part, part_func}

-- these parts, the first of which has this number
abbrev pub PartsAreDefined : Program → ℕ → Module → ℕ → List Part → Type 0
PartsAreDefined p u m k [] = ⊤
PartsAreDefined p u m k (x ∷ parts) = Defines p u (part_func m (k, x)) × PartsAreDefined p u m (k + 1) parts
