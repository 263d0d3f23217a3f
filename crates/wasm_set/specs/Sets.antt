-- A list of valid modules under names as the modules of a linked set without hosts (WebAssembly Core 1.0, 4.5.4).
use Rattle.std.specs.Prelude.{List, [], map}
use Rattle.wasm_tree.specs.NamedModule.{NamedModule}
use Rattle.wasm_meaning.specs.LinkedSet.{LinkedSet}
use Rattle.wasm_set.specs.declared.set_module.SetModule.{SetModule}

-- a module under its name
abbrev pub named_of : SetModule → NamedModule
named_of m = record { name = m.name; tree = m.«module» }

-- the set of these modules, in their order
abbrev pub set_of : List SetModule → LinkedSet
set_of modules = record { modules = map named_of modules; hosts = [] }
