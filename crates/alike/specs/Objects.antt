-- The objects of C that stand for the globals, the memory and the table of a module.
use Rattle.std.specs.Prelude.{ℕ, ◌+◌}
use Rattle.c_tree.specs.DefinedNames.{global_name, memory_name, table_name}
use Rattle.wasm_meaning.specs.LinkedSet.{GlobalAddress, LinkedSet}
use Rattle.c_meaning.specs.State as state
use Rattle.alike.specs.Alike.{first_global}

-- the variable of a global
abbrev pub global_object : LinkedSet → GlobalAddress → state.ObjectAddress
global_object s g = record { unit = g.owner; name = global_name (first_global s g.owner + g.number) }

abbrev pub memory_object : ℕ → state.ObjectAddress
memory_object owner = record { unit = owner; name = memory_name }

abbrev pub table_object : ℕ → state.ObjectAddress
table_object owner = record { unit = owner; name = table_name }
