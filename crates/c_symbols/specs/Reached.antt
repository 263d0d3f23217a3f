-- The symbol of an import, where the unit may use it.
use Rattle.std.specs.Prelude.{Bool, false, if◌then◌else◌, Option, Some, None}
use Rattle.wasm_tree.specs.declared.entries.Import.{Import}
use Rattle.wasm_tree.specs.NamedModule.{NamedModule}
use Rattle.c_tree.specs.Tree as tree
use Rattle.c_tree.specs.Runtime.{same_func_type}
use Rattle.c_tree.specs.Scope.{Name}
use Rattle.c_symbols.specs.Symbols.{Typed, import_symbol, is_usable, symbol_type}

abbrev pub usable_symbol : NamedModule → Import → Option Name
usable_symbol m i = if is_usable m i then Some (import_symbol i) else None

-- what was found is this type
abbrev pub has_type : Option tree.FuncType → tree.FuncType → Bool
has_type None own = false
has_type (Some t) own = same_func_type t own

-- the name of a symbol, where the unit has it with this type
abbrev pub usable_as : NamedModule → Typed → Option Name
usable_as m s = if has_type (symbol_type m s.0) s.1 then Some s.0 else None
