-- A module with an import, objects and exports, and units that have not its shape, each in one thing, written by hand.
use Rattle.std.specs.Prelude.{true, false, List, [], ◌∷◌, codes, Some, None}
use Rattle.wasm_tree.specs.declared.entries.ImportKind.TheVariants.{Func as ImportFunc}
use Rattle.wasm_tree.specs.declared.entries.ExportKind.TheVariants.{Func as ExportFunc, Memory as ExportMemory}
use Rattle.wasm_tree.specs.NamedModule.{NamedModule}
use Rattle.wasm_tree.specs.Samples.{body, func_type}
use Rattle.c_tree.specs.declared.tree.CType.{CType}
use Rattle.c_tree.specs.declared.tree.CType.TheVariants as c_type
use Rattle.c_tree.specs.Tree as tree
use Rattle.c_tree.specs.Scope.{Name}
use Rattle.c_tree.specs.DefinedNames.{func_name}
use Rattle.unit_definition.specs.Samples.{limits, export, import, call}

-- it takes a function, has one of its own, a table and a memory, and exports its function and its memory
abbrev pub shaped : NamedModule
shaped = record {
  name = codes "s";
  tree = record {
    types = func_type [] None ∷ [];
    imports = import (codes "f") (ImportFunc 0) ∷ [];
    funcs = record { type_index = 0; place = 0 } ∷ [];
    tables = record { limits = limits 1 None; place = 0 } ∷ [];
    memories = record { limits = limits 1 None; place = 0 } ∷ [];
    globals = [];
    exports = export (codes "g") ExportFunc 1 ∷ export (codes "m") ExportMemory 0 ∷ [];
    start = None;
    elements = [];
    data_count = None;
    segments = [];
    bodies = body [] ∷ [];
  };
}

-- ---- parts of units

-- static w2c_tab t0; static w2c_mem m0;
abbrev table : tree.Item
table = tree.Var c_type.Tab (codes "t0") None

abbrev memory : tree.Item
memory = tree.Var c_type.Mem (codes "m0") None

-- a function for other units, without parameters
abbrev external : CType → Name → List tree.Stmt → tree.Item
external result name stmts = tree.Function (record {
  is_static = false;
  result = result;
  name = name;
  params = (c_type.Void, None) ∷ [];
  body = Some (record { locals = []; stmts = stmts });
})

-- void w2cZ_aZ_fZ_f(void); or with another result
abbrev pub imported : CType → tree.Func
imported result = record {
  is_static = false;
  result = result;
  name = codes "w2cZ_aZ_fZ_f";
  params = (c_type.Void, None) ∷ [];
  body = None;
}

abbrev taken : tree.Item
taken = tree.Function (imported c_type.Void)

-- static void f1(void) { return; }
abbrev own : tree.Item
own = tree.Function (record {
  is_static = true;
  result = c_type.Void;
  name = func_name 1;
  params = (c_type.Void, None) ∷ [];
  body = Some (record { locals = []; stmts = tree.ReturnNone ∷ [] });
})

-- void w2cZ_sZ_fZ_g(void) { f1(); return; }
abbrev given : tree.Item
given = external c_type.Void (codes "w2cZ_sZ_fZ_g") (call None (func_name 1) [] ∷ tree.ReturnNone ∷ [])

-- w2c_mem *w2cZ_sZ_mZ_m(void) { return &m0; } or of another object
abbrev gives : Name → tree.Item
gives object = external c_type.PtrMem (codes "w2cZ_sZ_mZ_m") (tree.Return (tree.Address object) ∷ [])

-- void w2cZ_sZ_i(void) { ; return; }
abbrev init : tree.Item
init = external c_type.Void (codes "w2cZ_sZ_i") (tree.Null ∷ tree.ReturnNone ∷ [])

-- ---- the units

abbrev pub defines_its_import : List tree.Item
defines_its_import =
    table ∷ memory ∷ external c_type.Void (codes "w2cZ_aZ_fZ_f") (tree.ReturnNone ∷ []) ∷ own ∷ given ∷ gives (codes "m0") ∷ init ∷ []

abbrev pub without_export : List tree.Item
without_export = table ∷ memory ∷ taken ∷ own ∷ gives (codes "m0") ∷ init ∷ []

abbrev pub without_import : List tree.Item
without_import = table ∷ memory ∷ own ∷ given ∷ gives (codes "m0") ∷ init ∷ []

abbrev pub import_of_another_type : List tree.Item
import_of_another_type = table ∷ memory ∷ tree.Function (imported c_type.U32) ∷ own ∷ given ∷ gives (codes "m0") ∷ init ∷ []

abbrev pub without_function : List tree.Item
without_function = table ∷ memory ∷ taken ∷ given ∷ gives (codes "m0") ∷ init ∷ []

abbrev pub without_memory : List tree.Item
without_memory = table ∷ taken ∷ own ∷ given ∷ gives (codes "m0") ∷ init ∷ []

abbrev pub one_global_more : List tree.Item
one_global_more =
    tree.Var c_type.U32 (codes "g0") None ∷ table ∷ memory ∷ taken ∷ own ∷ given ∷ gives (codes "m0") ∷ init ∷ []

abbrev pub export_of_another_type : List tree.Item
export_of_another_type =
    table ∷ memory ∷ taken ∷ own
    ∷ external c_type.U32 (codes "w2cZ_sZ_fZ_g") (call None (func_name 1) [] ∷ tree.ReturnNone ∷ [])
    ∷ gives (codes "m0") ∷ init ∷ []

abbrev pub memory_gives_the_table : List tree.Item
memory_gives_the_table = table ∷ memory ∷ taken ∷ own ∷ given ∷ gives (codes "t0") ∷ init ∷ []

abbrev pub init_of_another_type : List tree.Item
init_of_another_type =
    table ∷ memory ∷ taken ∷ own ∷ given ∷ gives (codes "m0")
    ∷ external c_type.U32 (codes "w2cZ_sZ_i") (tree.Null ∷ tree.ReturnNone ∷ [])
    ∷ []
