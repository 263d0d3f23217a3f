-- The items of a unit from each kind of them on.
use Rattle.std.specs.Prelude.{◌≡◌, ℕ, List, [], ◌∷◌, ◌++◌, map}
use Rattle.w2c_base.specs.Lookup.{numbered}
use Rattle.wasm_tree.specs.declared.entries.Import.{Import}
use Rattle.wasm_tree.specs.declared.entries.LimitsEntry.{LimitsEntry}
use Rattle.wasm_tree.specs.NamedModule.{NamedModule}
use Rattle.c_tree.specs.declared.tree.CType.TheVariants as c_type
use Rattle.c_tree.specs.Tree as tree
use Rattle.c_tree.specs.DefinedNames.{memory_name, table_name, global_name, pointer_name}
use Rattle.c_helpers.specs.Helpers.{helper_of}
use Rattle.c_helpers.specs.Needed.{helpers_of}
use Rattle.wasm_tree.specs.IndexSpaces.{table_imports, memory_imports, global_imports}
use Rattle.c_symbols.specs.Symbols.{import_type, declared_symbols}
use Rattle.unit_definition.specs.Arrays.{array_of, byte_segments}
use Rattle.c_init.specs.Init.{init_func}
use Rattle.unit_definition.specs.Exports.{export_func}
use Rattle.unit_definition.specs.Items.{variable, global_item, declaration, prototype, bodies, part_items}

abbrev pub from_init : NamedModule → List tree.Item
from_init m = tree.Function (init_func m) ∷ []

abbrev pub from_parts : NamedModule → List tree.Item
from_parts m = part_items m.tree ++ from_init m

abbrev pub from_exports : NamedModule → List tree.Item
from_exports m = map (λ e. tree.Function (export_func m e)) m.tree.exports ++ from_parts m

abbrev pub from_bodies : NamedModule → List tree.Item
from_bodies m = map tree.Function (bodies m) ++ from_exports m

abbrev pub from_helpers : NamedModule → List tree.Item
from_helpers m = map (λ which. tree.Function (helper_of which)) (helpers_of m.tree) ++ from_bodies m

abbrev pub from_prototypes : NamedModule → List tree.Item
from_prototypes m = map prototype (bodies m) ++ from_helpers m

abbrev pub from_declared : NamedModule → List tree.Item
from_declared m = map declaration (declared_symbols m) ++ from_prototypes m

abbrev pub from_data : NamedModule → List tree.Item
from_data m = map array_of (byte_segments m.tree) ++ from_declared m

abbrev pub global_pointer : NamedModule → ℕ × Import → tree.Item
global_pointer m i = variable (import_type m.tree i.1).result (pointer_name (global_name i.0))

abbrev pub from_global_pointers : NamedModule → List tree.Item
from_global_pointers m = map (global_pointer m) (numbered (global_imports m.tree)) ++ from_data m

abbrev pub from_table_pointers : NamedModule → List tree.Item
from_table_pointers m = map (λ (i : Import). variable c_type.PtrTab (pointer_name table_name)) (table_imports m.tree) ++
    from_global_pointers m

abbrev pub from_pointers : NamedModule → List tree.Item
from_pointers m = map (λ (i : Import). variable c_type.PtrMem (pointer_name memory_name)) (memory_imports m.tree) ++ from_table_pointers m

abbrev pub from_globals : NamedModule → List tree.Item
from_globals m = map (global_item m.tree) (numbered m.tree.globals) ++ from_pointers m

abbrev pub from_memories : NamedModule → List tree.Item
from_memories m = map (λ (t : LimitsEntry). variable c_type.Mem memory_name) m.tree.memories ++ from_globals m

abbrev pub from_tables : NamedModule → List tree.Item
from_tables m = map (λ (t : LimitsEntry). variable c_type.Tab table_name) m.tree.tables ++ from_memories m
