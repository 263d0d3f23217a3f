-- How a unit's functions reach functions, tables, memories and globals by their index (WebAssembly
-- Core 1.0, 2.5.1 indices): an own one by its name; an imported function by its symbol; an imported
-- table, memory or global through a pointer that the init function has set.
use Rattle.std.specs.Prelude.{ℕ, Bool, if◌then◌else◌, List, ◌++◌, map, slice_get, is_some, Option, Some, None}
use Rattle.w2c_base.specs.Lookup.{numbered}
use Rattle.wasm_tree.specs.declared.tree.Module.{Module}
use Rattle.wasm_tree.specs.declared.entries.Import.{Import}
use Rattle.wasm_tree.specs.NamedModule.{NamedModule}
use Rattle.c_tree.specs.declared.tree.CType.{CType}
use Rattle.c_tree.specs.declared.tree.CType.TheVariants as type
use Rattle.c_tree.specs.Tree as tree
use Rattle.c_tree.specs.Scope.{Name}
use Rattle.c_tree.specs.DefinedNames.{memory_name, table_name, func_name, global_name, pointer_name}
use Rattle.c_symbols.specs.Symbols.{func_imports, table_imports, memory_imports, global_imports, import_symbol, import_type, is_usable}

-- the function with an index, as a name
abbrev pub function_name : Module → ℕ → Name
function_name m index = elim (slice_get (func_imports m) index) [ None ↦ func_name index | Some i ↦ import_symbol i ]

-- the same, where it may be called: not an import whose symbol has another type in the unit
abbrev pub callee : NamedModule → ℕ → Option Name
callee m index = elim (slice_get (func_imports m.tree) index) [
  | None ↦ Some (func_name index)
  | Some i ↦ if is_usable m i then Some (import_symbol i) else None
]

-- a pointer to an object that is the unit's own or another's
abbrev pointer_to : Bool → Name → tree.Arg
pointer_to imported object = if imported then tree.Value (tree.Name (pointer_name object)) else tree.Address object

abbrev pub memory_arg : Module → tree.Arg
memory_arg m = pointer_to (is_some (slice_get (memory_imports m) 0)) memory_name

abbrev pub table_arg : Module → tree.Arg
table_arg m = pointer_to (is_some (slice_get (table_imports m) 0)) table_name

-- the value of a global, and an assignment to one
abbrev pub global_value : Module → ℕ → tree.Expr
global_value m index =
    if is_some (slice_get (global_imports m) index) then tree.Star (pointer_name (global_name index)) else tree.Name (global_name index)

abbrev pub set_global : Module → ℕ → tree.Expr → tree.Stmt
set_global m index e =
    if is_some (slice_get (global_imports m) index)
    then tree.SetStar (pointer_name (global_name index)) e
    else tree.Set (global_name index) (tree.Value e)

-- the pointers that the unit has: to its imported memory, its imported table and its imported
-- globals, each with its type
abbrev pub pointers_of : Module → List (CType × Name)
pointers_of m =
    map (λ (i : Import). (type.PtrMem, pointer_name memory_name)) (memory_imports m)
    ++ (map (λ (i : Import). (type.PtrTab, pointer_name table_name)) (table_imports m)
    ++ map (λ (i : ℕ × Import). ((import_type m i.1).result, pointer_name (global_name i.0))) (numbered (global_imports m)))
