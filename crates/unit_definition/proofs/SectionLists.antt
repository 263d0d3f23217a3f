-- The sections of a module's unit, each as the list of its items.
use Rattle.unit_definition.proofs.Common.{ℕ, ◌+◌, List, [], ◌∷◌, map, None, numbered, imported_globals, GlobalEntry, Import, LimitsEntry}
use Rattle.unit_definition.proofs.Common.{Name, CType, NamedModule, c_type_of, global_name, memory_name, table_name, helper_of, import_type}
use Rattle.unit_definition.proofs.Common.{declared_symbols, global_imports, memory_imports, table_imports, pointer_name, helpers_of, bodies}
use Rattle.unit_definition.proofs.Common.{pointers_of, export_func, declaration, objects_of, part_items, prototype, init_func}
use Rattle.c_tree.specs.declared.tree.CType.TheVariants as type
use Rattle.c_tree.specs.Tree as tree

abbrev variable : CType → Name → tree.Item
variable t name = tree.Var t name None

-- ---- what stands for objects

abbrev pub tabs : NamedModule → List tree.Item
tabs m = map (λ (x : LimitsEntry). variable type.Tab table_name) m.tree.tables

abbrev pub mems : NamedModule → List tree.Item
mems m = map (λ (x : LimitsEntry). variable type.Mem memory_name) m.tree.memories

abbrev pub global_item : NamedModule → ℕ × GlobalEntry → tree.Item
global_item m g = variable (c_type_of g.1.ty) (global_name (imported_globals m.tree + g.0))

abbrev pub globals : NamedModule → List tree.Item
globals m = map (global_item m) (numbered m.tree.globals)

abbrev pub pointers : NamedModule → List tree.Item
pointers m = map (λ (p : CType × Name). variable p.0 p.1) (pointers_of m.tree)

abbrev pub memory_pointers : NamedModule → List tree.Item
memory_pointers m = map (λ (i : Import). variable type.PtrMem (pointer_name memory_name)) (memory_imports m.tree)

abbrev pub table_pointers : NamedModule → List tree.Item
table_pointers m = map (λ (i : Import). variable type.PtrTab (pointer_name table_name)) (table_imports m.tree)

abbrev pub pointer_item : NamedModule → ℕ × Import → tree.Item
pointer_item m i = variable (import_type m.tree i.1).result (pointer_name (global_name i.0))

abbrev pub global_pointers : NamedModule → List tree.Item
global_pointers m = map (pointer_item m) (numbered (global_imports m.tree))

abbrev pub objects : NamedModule → List tree.Item
objects m = objects_of m.tree (pointers_of m.tree)

-- ---- functions

abbrev pub declarations : NamedModule → List tree.Item
declarations m = map declaration (declared_symbols m)

abbrev pub prototypes : NamedModule → List tree.Item
prototypes m = map prototype (bodies m)

abbrev pub helpers : NamedModule → List tree.Item
helpers m = map (λ which. tree.Function (helper_of which)) (helpers_of m.tree)

abbrev pub functions_of : NamedModule → List tree.Item
functions_of m = map tree.Function (bodies m)

abbrev pub exports : NamedModule → List tree.Item
exports m = map (λ e. tree.Function (export_func m e)) m.tree.exports

abbrev pub parts : NamedModule → List tree.Item
parts m = part_items m.tree

abbrev pub init : NamedModule → List tree.Item
init m = tree.Function (init_func m) ∷ []
