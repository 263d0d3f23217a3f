-- The module that a unit is made of.
use Rattle.wasm_tree.specs.NamedModule.{NamedModule}
use Rattle.c_init.specs.declared.source.Source.{Source}

abbrev pub module_of : Source → NamedModule
module_of s = record { name = s.name.now; tree = s.tree.now }
