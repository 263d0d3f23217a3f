-- The type of the pointer to an imported object.
use Rattle.wasm_tree.specs.declared.tree.Module.{Module}
use Rattle.wasm_tree.specs.declared.entries.Import.{Import}
use Rattle.c_tree.specs.declared.tree.CType.{CType}
use Rattle.c_symbols.specs.Symbols.{import_type}

-- the type of the pointer that an import's function gives
abbrev pub pointed : Module → Import → CType
pointed m i = (import_type m i).result
