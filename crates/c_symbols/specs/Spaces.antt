-- The module that index spaces are of.
use Rattle.wasm_tree.specs.NamedModule.{NamedModule}
use Rattle.c_symbols.specs.declared.index_spaces.IndexSpaces.{IndexSpaces}

abbrev pub named_of : IndexSpaces → NamedModule
named_of s = record { name = s.name.now; tree = s.tree.now }
