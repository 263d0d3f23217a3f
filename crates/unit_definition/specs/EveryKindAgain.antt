-- A module that imports a function, a table, a memory and a global of a module `a` and exports all four again
-- under other names, and its unit, written by hand.
use Rattle.std.specs.Prelude.{false, true, List, [], ◌∷◌, ◌++◌, map, codes, Some, None}
use Rattle.w2c_base.specs.declared.value.ValType.TheVariants as type
use Rattle.wasm_tree.specs.declared.entries.ImportKind.TheVariants.{Func as ImportFunc, Table as ImportTable, Memory as ImportMemory}
use Rattle.wasm_tree.specs.declared.entries.ImportKind.TheVariants.{Global as ImportGlobal}
use Rattle.wasm_tree.specs.declared.entries.ExportKind.TheVariants.{Func as ExportFunc, Table as ExportTable, Memory as ExportMemory}
use Rattle.wasm_tree.specs.declared.entries.ExportKind.TheVariants.{Global as ExportGlobal}
use Rattle.wasm_tree.specs.NamedModule.{NamedModule}
use Rattle.wasm_tree.specs.Samples.{func_type}
use Rattle.c_tree.specs.declared.tree.CType.{CType}
use Rattle.c_tree.specs.declared.tree.CType.TheVariants as c_type
use Rattle.c_tree.specs.declared.tree.Num.{Num}
use Rattle.c_tree.specs.declared.tree.Num.TheVariants.{N32, N64, Plain}
use Rattle.c_tree.specs.declared.tree.COp.TheVariants as op
use Rattle.c_tree.specs.Tree as tree
use Rattle.c_tree.specs.Scope.{Name}
use Rattle.c_tree.specs.DefinedNames.{global_name, label_name, pointer_name}
use Rattle.unit_definition.specs.Exports.{param_name}
use Rattle.unit_definition.specs.Samples.{limits, export, import, call, n, n32, n64, pointer}

abbrev pub again : NamedModule
again = record {
  name = codes "c";
  tree = record {
    types = func_type (type.I64 ∷ []) (Some type.I32) ∷ [];
    imports =
        import (codes "f") (ImportFunc 0)
        ∷ import (codes "t") (ImportTable (limits 1 (Some 2)))
        ∷ import (codes "m") (ImportMemory (limits 2 None))
        ∷ import (codes "g") (ImportGlobal type.I64 true)
        ∷ [];
    funcs = [];
    tables = [];
    memories = [];
    globals = [];
    exports =
        export (codes "func") ExportFunc 0
        ∷ export (codes "table") ExportTable 0
        ∷ export (codes "memory") ExportMemory 0
        ∷ export (codes "global") ExportGlobal 0
        ∷ [];
    start = None;
    elements = [];
    data_count = None;
    segments = [];
    bodies = [];
  };
}

-- a function of one parameter, or of none, that hands its call on to an import's and gives what that gives
abbrev hands_on : CType → Name → tree.Param → Num → Name → List tree.Arg → tree.Func
hands_on result symbol param zero import_symbol args = record {
  is_static = false;
  result = result;
  name = symbol;
  params = param ∷ [];
  body = Some (record {
    locals = (result, codes "r", zero) ∷ [];
    stmts = call (Some (codes "r")) import_symbol args ∷ tree.Return (tree.Value (tree.Name (codes "r"))) ∷ [];
  });
}

-- u32 w2cZ_cZ_fZ_func(u64 a0) { u32 r = 0u; r = w2cZ_aZ_fZ_f(a0); return r; }
-- w2c_tab *w2cZ_cZ_tZ_table(void) { w2c_tab *r = 0; r = w2cZ_aZ_tZ_t(); return r; }
-- w2c_mem *w2cZ_cZ_mZ_memory(void) { w2c_mem *r = 0; r = w2cZ_aZ_mZ_m(); return r; }
-- u64 *w2cZ_cZ_vZ_global(void) { u64 *r = 0; r = w2cZ_aZ_vZ_g(); return r; }
abbrev pub again_exports : List tree.Func
again_exports =
    hands_on c_type.U32 (codes "w2cZ_cZ_fZ_func") (c_type.U64, Some (param_name 0)) (N32 0) (codes "w2cZ_aZ_fZ_f")
    (tree.Value (tree.Name (param_name 0)) ∷ [])
    ∷ hands_on c_type.PtrTab (codes "w2cZ_cZ_tZ_table") (c_type.Void, None) (Plain 0) (codes "w2cZ_aZ_tZ_t") []
    ∷ hands_on c_type.PtrMem (codes "w2cZ_cZ_mZ_memory") (c_type.Void, None) (Plain 0) (codes "w2cZ_aZ_mZ_m") []
    ∷ hands_on c_type.PtrU64 (codes "w2cZ_cZ_vZ_global") (c_type.Void, None) (Plain 0) (codes "w2cZ_aZ_vZ_g") []
    ∷ []

-- the pointers in the order of the imports, each with the tests of its limits
abbrev pub again_init : List tree.Stmt
again_init =
    tree.Null
    ∷ call (Some (pointer_name (codes "t0"))) (codes "w2cZ_aZ_tZ_t") []
    ∷ call (Some (codes "n")) (codes "w2c_tab_len") (pointer (codes "t0") ∷ [])
    ∷ tree.If op.Lt (tree.Op op.Div n (n64 1)) (n64 1) (label_name 0)
    ∷ call (Some (codes "n")) (codes "w2c_tab_max") (pointer (codes "t0") ∷ [])
    ∷ tree.If op.Gt n (n64 2) (label_name 0)
    ∷ call (Some (pointer_name (codes "m0"))) (codes "w2cZ_aZ_mZ_m") []
    ∷ call (Some (codes "n")) (codes "w2c_mem_len") (pointer (codes "m0") ∷ [])
    ∷ tree.If op.Lt (tree.Op op.Div n (n64 65536)) (n64 2) (label_name 0)
    ∷ call (Some (pointer_name (global_name 0))) (codes "w2cZ_aZ_vZ_g") []
    ∷ tree.ReturnNone
    ∷ tree.Label (label_name 0)
    ∷ call None (codes "w2c_trap") (n32 9 ∷ [])
    ∷ []

-- a declaration of an import's symbol
abbrev declared : CType → Name → CType → tree.Item
declared result symbol param = tree.Function (record {
  is_static = false;
  result = result;
  name = symbol;
  params = (param, None) ∷ [];
  body = None;
})

abbrev pub again_items : List tree.Item
again_items =
    tree.Var c_type.PtrMem (pointer_name (codes "m0")) None
    ∷ tree.Var c_type.PtrTab (pointer_name (codes "t0")) None
    ∷ tree.Var c_type.PtrU64 (pointer_name (global_name 0)) None
    ∷ declared c_type.U32 (codes "w2cZ_aZ_fZ_f") c_type.U64
    ∷ declared c_type.PtrTab (codes "w2cZ_aZ_tZ_t") c_type.Void
    ∷ declared c_type.PtrMem (codes "w2cZ_aZ_mZ_m") c_type.Void
    ∷ declared c_type.PtrU64 (codes "w2cZ_aZ_vZ_g") c_type.Void
    ∷ (map tree.Function again_exports
    ++ tree.Function (record {
      is_static = false;
      result = c_type.Void;
      name = codes "w2cZ_cZ_i";
      params = (c_type.Void, None) ∷ [];
      body = Some (record { locals = (c_type.U64, codes "n", N64 0) ∷ []; stmts = again_init });
    }) ∷ [])
