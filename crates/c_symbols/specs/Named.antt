-- A module as its translation holds it, and symbols with their types.
use Rattle.wasm_tree.specs.NamedModule.{NamedModule}
use Rattle.wasm_tree.specs.declared.tree.Module.{Module}
use Rattle.wasm_tree.specs.declared.entries.Export.{Export}
use Rattle.wasm_tree.specs.declared.entries.Import.{Import}
use Rattle.c_symbols.specs.Symbols.{Typed, export_symbol, export_type, import_symbol, import_type}
use Rattle.c_symbols.specs.declared.indexes.Indexes.{Indexes}
use Rattle.c_symbols.specs.declared.indexes.Symbol.{Symbol}
use Rattle.c_symbols.specs.Typed.{type_of}

abbrev pub named_of : Indexes → NamedModule
named_of i = record { name = i.name.now; tree = i.tree.now }

abbrev pub pair_of : Symbol → Typed
pair_of s = (s.name, type_of s.ty)

-- the symbol of an import and that of an export, with their own types
abbrev pub typed_import : Module → Import → Typed
typed_import m i = (import_symbol i, import_type m i)

abbrev pub typed_export : NamedModule → Export → Typed
typed_export m e = (export_symbol m e, export_type m.tree e)
