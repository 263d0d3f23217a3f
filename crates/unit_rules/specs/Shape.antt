-- What is fixed of the unit of a module, whatever helpers, variables and statements it has (C11, 6.9): the
-- functions that other units see, and the names of its own objects.
use Rattle.std.specs.Prelude.{◌≡◌, ◌↔◌, ℕ, ◌+◌, ◌⊎◌, true, List, [], ◌∷◌, ◌++◌, map, filter, filter_map, slice_get, is_some, Option, Some}
use Rattle.std.specs.Prelude.{None}
use Rattle.std.specs.List.{Contains, AllByRecursion}
use Rattle.w2c_mangle.specs.Symbols.{init_symbol_of}
use Rattle.wasm_tree.specs.declared.tree.Module.{Module}
use Rattle.wasm_tree.specs.declared.entries.GlobalEntry.{GlobalEntry}
use Rattle.wasm_tree.specs.declared.entries.Import.{Import}
use Rattle.wasm_tree.specs.declared.entries.Export.{Export}
use Rattle.wasm_tree.specs.declared.entries.ExportKind.TheVariants.{Func as ExportFunc, Table as ExportTable, Memory as ExportMemory}
use Rattle.wasm_tree.specs.declared.entries.ExportKind.TheVariants.{Global as ExportGlobal}
use Rattle.wasm_tree.specs.IndexSpaces.{func_type_in, imported_globals, IsDefined, table_imports, memory_imports, global_imports}
use Rattle.wasm_tree.specs.NamedModule.{NamedModule}
use Rattle.c_tree.specs.declared.tree.CType.{CType}
use Rattle.c_tree.specs.declared.tree.CType.TheVariants as type
use Rattle.c_tree.specs.Tree as tree
use Rattle.c_tree.specs.Scope.{Name, func_type_of, is_among}
use Rattle.c_tree.specs.FirstBroken.{KeepsRules}
use Rattle.c_tree.specs.WellFormed.{IsWellFormed}
use Rattle.c_tree.specs.TypesInC.{c_type_of}
use Rattle.c_tree.specs.DefinedNames.{memory_name, table_name, func_name, global_name}
use Rattle.c_meaning.specs.Linking.{Definition, defined, defined_for_all, external_functions}
use Rattle.w2c_base.specs.Lookup.{numbered}
use Rattle.c_symbols.specs.Symbols.{c_func_type_if, import_symbol, import_type, symbol_type, export_symbol, export_type}
use Rattle.unit_definition.specs.Items.{items_of}
use Rattle.unit_definition.specs.Accepted.{IsAccepted}

-- the symbols of its init function and of its exports
abbrev pub own_symbols : NamedModule → List Name
own_symbols m = init_symbol_of m.name ∷ map (export_symbol m) m.tree.exports

-- external functions with a body, and all of them
abbrev pub defined_names : List tree.Item → List Name
defined_names unit = map (λ (f : tree.Func). f.name) (filter (λ (f : tree.Func). is_some f.body) (external_functions unit))

abbrev pub declared_names : List tree.Item → List Name
declared_names unit = map (λ (f : tree.Func). f.name) (external_functions unit)

-- variables of file scope that are numbers, memories and tables
abbrev object_of : tree.Item → Option (CType × Name)
object_of (tree.Var type.U32 name number) = Some (type.U32, name)
object_of (tree.Var type.U64 name number) = Some (type.U64, name)
object_of (tree.Var type.Mem name number) = Some (type.Mem, name)
object_of (tree.Var type.Tab name number) = Some (type.Tab, name)
object_of _ = None

abbrev pub unit_objects : List tree.Item → List (CType × Name)
unit_objects unit = filter_map object_of unit

-- those of the module
abbrev pub module_objects : Module → List (CType × Name)
module_objects m =
    map (λ t. (type.Tab, table_name)) m.tables
    ++ (map (λ t. (type.Mem, memory_name)) m.memories
    ++ map (λ (g : ℕ × GlobalEntry). (c_type_of g.1.ty, global_name (imported_globals m + g.0))) (numbered m.globals))

abbrev pub HaveSame : {A : Type 0} → List A → List A → Type 0
HaveSame xs ys = (x : _) → Contains xs x ↔ Contains ys x

-- the symbol is defined with this type
pub record DefinesExternal (unit : List tree.Item) (name : Name) (ty : tree.FuncType) : Type 0 where
  pub definition : Definition
  pub there : defined_for_all unit name ≡ Some definition
  pub typed : func_type_of definition.func ≡ ty

-- The function returns the pointer to the module's own object; for one that was imported what the import's symbol gives, which is
-- the pointer to the object of the module that defines it. In a linked set each symbol has the type of its import.
abbrev pub GivesObject : NamedModule → Option Import → Name → tree.Func → Type 0
GivesObject m None object f = f.body ≡ Some (record { locals = []; stmts = tree.Return (tree.Address object) ∷ [] })
GivesObject m (Some i) object f = symbol_type m (import_symbol i) ≡ Some (import_type m.tree i)
    → (variable : tree.Local) × (f.body ≡ Some (record {
      locals = variable ∷ [];
      stmts = tree.Call (Some variable.1) (tree.Called (import_symbol i)) [] ∷ tree.Return (tree.Value (tree.Name variable.1)) ∷ [];
    }))

-- it gives the table, the memory or the global that is exported
abbrev pub GivesExport : NamedModule → Export → tree.Func → Type 0
GivesExport m e f = elim e.kind [
  | ExportFunc ↦ Unit {0}
  | ExportTable ↦ GivesObject m (slice_get (table_imports m.tree) e.index) table_name f
  | ExportMemory ↦ GivesObject m (slice_get (memory_imports m.tree) e.index) memory_name f
  | ExportGlobal ↦ GivesObject m (slice_get (global_imports m.tree) e.index) (global_name e.index) f
]

pub record HasShape (m : NamedModule) (unit : List tree.Item) : Type 0 where
  -- the external functions that it defines are the init function and one for each export
  pub defines : HaveSame (defined_names unit) (own_symbols m)
  -- those that it declares besides are its imports' symbols; of several imports with one symbol the first
  -- gives the type
  pub declares : (name : Name) → Contains (declared_names unit) name
      ↔ (Contains (own_symbols m) name ⊎ Contains (map import_symbol m.tree.imports) name)
  pub declared_types : (f : tree.Func) → Contains (external_functions unit) f → is_among f.name (map import_symbol m.tree.imports) ≡ true
      → symbol_type m f.name ≡ Some (func_type_of f)
  -- the function with index k is the static function f<k>
  pub functions : (index : ℕ) → IsDefined m.tree index
      → (d : Definition) × (defined unit (func_name index) ≡ Some d) × (d.func.is_static ≡ true)
      × (func_type_of d.func ≡ c_func_type_if (func_type_in m.tree index))
  -- globals, the memory and the table have their names, and there are no other such variables
  pub objects : HaveSame (unit_objects unit) (module_objects m.tree)
  -- an exported function has its type, and what gives a pointer to another export the pointer's
  pub exports : AllByRecursion (λ e. DefinesExternal unit (export_symbol m e) (export_type m.tree e)) m.tree.exports
  -- what is exported of tables, memories and globals is given; what an exported function does, the runs of linked units say
  pub accessors : AllByRecursion (λ e. (d : Definition) × (defined_for_all unit (export_symbol m e) ≡ Some d) × GivesExport m e d.func)
      m.tree.exports
  pub init : DefinesExternal unit (init_symbol_of m.name) (record { params = type.Void ∷ []; result = type.Void })

-- what is proved of each unit by itself
pub record IsUnit (m : NamedModule) (unit : List tree.Item) : Type 0 where
  pub well_formed : IsWellFormed unit
  pub keeps_rules : KeepsRules unit
  pub shape : HasShape m unit

abbrev pub UnitsAreProper : Type 0
UnitsAreProper = (m : NamedModule) → IsAccepted m → IsUnit m (items_of m.tree m.name)
