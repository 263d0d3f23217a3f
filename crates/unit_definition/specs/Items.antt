-- The unit of a module under a name, item by item: what it declares, the helpers that its bodies call, the
-- bodies, a function for each export, the parts of the init function, and the init function; and the module's header.
use Rattle.std.specs.Prelude.{ℕ, ◌+◌, false, List, [], ◌∷◌, ◌++◌, map, flat_map, length, None}
use Rattle.std.specs.List.{range_with_len}
use Rattle.w2c_base.specs.Lookup.{numbered}
use Rattle.w2c_mangle.specs.Symbols.{init_symbol_of}
use Rattle.wasm_tree.specs.declared.tree.Module.{Module}
use Rattle.wasm_tree.specs.declared.entries.GlobalEntry.{GlobalEntry}
use Rattle.wasm_tree.specs.declared.entries.LimitsEntry.{LimitsEntry}
use Rattle.wasm_tree.specs.declared.entries.SegmentEntry.{SegmentEntry}
use Rattle.wasm_tree.specs.IndexSpaces.{imported_funcs, imported_globals}
use Rattle.wasm_tree.specs.NamedModule.{NamedModule}
use Rattle.c_tree.specs.declared.tree.CType.{CType}
use Rattle.c_tree.specs.declared.tree.CType.TheVariants as c_type
use Rattle.c_tree.specs.declared.tree.Header.{Header}
use Rattle.c_tree.specs.Tree as tree
use Rattle.c_tree.specs.Scope.{Name}
use Rattle.c_tree.specs.Rules.{proper_types}
use Rattle.c_tree.specs.TypesInC.{c_type_of}
use Rattle.c_tree.specs.DefinedNames.{memory_name, table_name, global_name}
use Rattle.c_helpers.specs.Helpers.{helper_of}
use Rattle.c_symbols.specs.Symbols.{Typed, export_symbol, export_type}
use Rattle.body_definition.specs.Body.{body_of}
use Rattle.body_definition.specs.Needs.{needs_of}
use Rattle.c_init.specs.Init.{data_name, init_func, part_func, parts_of}
use Rattle.unit_definition.specs.Exports.{export_func}

-- ---- objects: the table, the memory, the globals, and pointers to imported ones

abbrev pub variable : CType → Name → tree.Item
variable t name = tree.Var t name None

abbrev pub global_item : Module → ℕ × GlobalEntry → tree.Item
global_item m g = variable (c_type_of g.1.ty) (global_name (imported_globals m + g.0))

abbrev pub objects_of : Module → List (CType × Name) → List tree.Item
objects_of m pointers =
    map (λ (t : LimitsEntry). variable c_type.Tab table_name) m.tables
    ++ (map (λ (t : LimitsEntry). variable c_type.Mem memory_name) m.memories
    ++ (map (global_item m) (numbered m.globals)
    ++ map (λ (p : CType × Name). variable p.0 p.1) pointers))

-- ---- the bytes of the segments that have some

abbrev pub data_item : ℕ × SegmentEntry → List tree.Item
data_item d = elim d.1.bytes [ [] ↦ [] | b ∷ bytes ↦ tree.Array (data_name d.0) (length d.1.bytes) d.1.bytes ∷ [] ]

abbrev pub data_of : Module → List tree.Item
data_of m = flat_map data_item (numbered m.segments)

-- ---- functions

-- a declaration of a symbol
abbrev pub declaration : Typed → tree.Item
declaration symbol = tree.Function (record {
  is_static = false;
  result = symbol.1.result;
  name = symbol.0;
  params = map (λ t. (t, None)) symbol.1.params;
  body = None;
})

abbrev pub no_name : tree.Param → tree.Param
no_name p = (p.0, None)

-- a declaration of a function that is defined further on
abbrev pub prototype : tree.Func → tree.Item
prototype f = tree.Function (record {
  is_static = f.is_static;
  result = f.result;
  name = f.name;
  params = map no_name f.params;
  body = None;
})

abbrev pub bodies : NamedModule → List tree.Func
bodies m = map (body_of m.tree m.name) (range_with_len (imported_funcs m.tree) (length m.tree.funcs))

-- those that the init function calls
abbrev pub part_items : Module → List tree.Item
part_items m = map (λ p. tree.Function (part_func m p)) (numbered (parts_of m))

abbrev pub items : NamedModule → List tree.Item
items m =
    objects_of m.tree (needs_of m).pointers
    ++ (data_of m.tree
    ++ (map declaration (needs_of m).declared
    ++ (map prototype (bodies m)
    ++ (map (λ which. tree.Function (helper_of which)) (needs_of m).helpers
    ++ (map tree.Function (bodies m)
    ++ (map (λ e. tree.Function (export_func m e)) m.tree.exports
    ++ (part_items m.tree
    ++ tree.Function (init_func m) ∷ [])))))))

-- the unit of the module with this tree and name
abbrev pub items_of : Module → List ℕ → List tree.Item
items_of m name = items (record { name = name; tree = m })

-- the init function, and the function of each export in order
abbrev pub header_of : Module → List ℕ → Header
header_of m name = record {
  «module» = name;
  lines =
      (c_type.Void, init_symbol_of name, [])
      ∷ map
      (λ e. ((export_type m e).result, export_symbol (record { name = name; tree = m }) e, proper_types (export_type m e).params))
      m.exports;
}
