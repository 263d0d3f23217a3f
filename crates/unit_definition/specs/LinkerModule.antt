-- A module as a linker writes it, with every place 0, and its unit, written by hand. Its 99 bytes by sections:
--     00 61 73 6D 01 00 00 00
--     01 06 01 60 01 7F 01 7F                    a type `[i32] -> [i32]`
--     03 02 01 00                                a function of it
--     04 05 01 70 01 01 01                       a table of 1 element, at most 1
--     05 03 01 00 02                             a memory of 2 pages, without a maximum
--     06 08 01 7F 01 41 80 88 04 0B              a mutable i32, the stack pointer, 66560 at first
--     07 0E 02 06 6D 65 6D 6F 72 79 02 00        the memory as `memory`
--     01 66 00 00                                the function as `f`
--     0A 1A 01 18 01 01 7F                       its body, with one more i32
--     23 00 41 10 6B 22 01                       l1 is the pointer less 16
--     20 00 36 02 0C 20 01 28 02 0C 20 00 6C 0B  the parameter, stored 12 bytes behind l1 and loaded, times itself
--     00 0B 04 6E 61 6D 65 01 04 01 00 01 66     a custom section
use Rattle.std.specs.Prelude.{pos, false, true, List, [], ◌∷◌, ◌++◌, map, codes, Some, None}
use Rattle.w2c_base.specs.declared.value.ValType.TheVariants as type
use Rattle.wasm_tree.specs.declared.code.MemArg.{MemArg}
use Rattle.wasm_tree.specs.Instructions.{GlobalGet, I32Const, Binary, LocalTee, LocalGet, Store, Load}
use Rattle.wasm_tree.specs.declared.operators.BinaryOp.TheVariants.{Sub, Mul}
use Rattle.wasm_tree.specs.declared.operators.LoadOp.TheVariants.{I32Load}
use Rattle.wasm_tree.specs.declared.operators.StoreOp.TheVariants.{I32Store}
use Rattle.wasm_tree.specs.declared.entries.ExportKind.TheVariants.{Func as ExportFunc, Memory as ExportMemory}
use Rattle.wasm_tree.specs.NamedModule.{NamedModule}
use Rattle.wasm_tree.specs.Samples.{code_of, func_type}
use Rattle.c_tree.specs.declared.tree.CType.TheVariants as c_type
use Rattle.c_tree.specs.declared.tree.COp.TheVariants as op
use Rattle.c_tree.specs.Tree as tree
use Rattle.c_tree.specs.DefinedNames.{func_name, global_name}
use Rattle.c_helpers.specs.Helpers.{load_helper, store_helper}
use Rattle.body_forms.specs.Names.{local_name}
use Rattle.body_definition.specs.Samples.{i, name, number, set, two, slot, function_f0}
use Rattle.unit_definition.specs.Exports.{param_name}
use Rattle.unit_definition.specs.Samples.{limits, export, call, n32, n64}

-- 12 bytes behind the address, aligned to 4
abbrev behind_12 : MemArg
behind_12 = record { align = 2; offset = 12 }

abbrev pub linked : NamedModule
linked = record {
  name = codes "real";
  tree = record {
    types = func_type (type.I32 ∷ []) (Some type.I32) ∷ [];
    imports = [];
    funcs = record { type_index = 0; place = 0 } ∷ [];
    tables = record { limits = limits 1 (Some 1); place = 0 } ∷ [];
    memories = record { limits = limits 2 None; place = 0 } ∷ [];
    globals = record { ty = type.I32; mutable = true; code = code_of (I32Const (pos 66560) ∷ []); place = 0 } ∷ [];
    exports = export (codes "memory") ExportMemory 0 ∷ export (codes "f") ExportFunc 0 ∷ [];
    start = None;
    elements = [];
    data_count = None;
    segments = [];
    bodies = record {
      runs = record { count = 1; ty = type.I32 } ∷ [];
      code = code_of (
          GlobalGet 0 ∷ I32Const (pos 16) ∷ Binary type.I32 Sub ∷ LocalTee 1
          ∷ LocalGet 0 ∷ Store I32Store behind_12
          ∷ LocalGet 1 ∷ Load I32Load behind_12
          ∷ LocalGet 0 ∷ Binary type.I32 Mul ∷ []);
      end_place = 0;
    } ∷ [];
  };
}

-- ---- its unit

-- void w2cZ_realZ_i(void): a table, a memory and the global; nothing is tested, so no variable and no trap
abbrev pub linked_init : List tree.Stmt
linked_init =
    tree.Null
    ∷ call None (codes "w2c_tab_new") (tree.Address (codes "t0") ∷ n32 1 ∷ tree.Value (n64 1) ∷ [])
    ∷ call None (codes "w2c_mem_new") (tree.Address (codes "m0") ∷ n32 2 ∷ tree.Value (n64 4294967296) ∷ [])
    ∷ tree.Set (global_name 0) (n32 66560)
    ∷ tree.ReturnNone
    ∷ []

-- w2c_mem *w2cZ_realZ_mZ_memory(void) { return &m0; }
-- u32 w2cZ_realZ_fZ_f(u32 a0) { u32 r = 0u; r = f0(a0); return r; }
abbrev pub linked_exports : List tree.Func
linked_exports =
    record {
      is_static = false;
      result = c_type.PtrMem;
      name = codes "w2cZ_realZ_mZ_memory";
      params = (c_type.Void, None) ∷ [];
      body = Some (record { locals = []; stmts = tree.Return (tree.Address (codes "m0")) ∷ [] });
    }
    ∷ record {
      is_static = false;
      result = c_type.U32;
      name = codes "w2cZ_realZ_fZ_f";
      params = (c_type.U32, Some (param_name 0)) ∷ [];
      body = Some (record {
        locals = slot (codes "r") ∷ [];
        stmts =
            call (Some (codes "r")) (func_name 0) (tree.Value (name (param_name 0)) ∷ [])
            ∷ tree.Return (tree.Value (name (codes "r")))
            ∷ [];
      });
    }
    ∷ []

-- a statement for each instruction
abbrev linked_stmts : List tree.Stmt
linked_stmts =
    set (i 0) (name (global_name 0))
    ∷ set (i 1) (number 16)
    ∷ set (i 0) (two (i 0) op.Sub (i 1))
    ∷ set (local_name 1) (name (i 0))
    ∷ set (i 1) (name (local_name 0))
    ∷ call None (codes "i32_store") (tree.Address (codes "m0") ∷ tree.Value (name (i 0)) ∷ n32 12 ∷ tree.Value (name (i 1)) ∷ [])
    ∷ set (i 0) (name (local_name 1))
    ∷ call (Some (i 0)) (codes "i32_load") (tree.Address (codes "m0") ∷ tree.Value (name (i 0)) ∷ n32 12 ∷ [])
    ∷ set (i 1) (name (local_name 0))
    ∷ set (i 0) (two (i 0) op.Mul (i 1))
    ∷ []

-- the objects, a declaration of f0, both helpers, f0, the exports and the init function
abbrev pub linked_items : List tree.Item
linked_items =
    tree.Var c_type.Tab (codes "t0") None
    ∷ tree.Var c_type.Mem (codes "m0") None
    ∷ tree.Var c_type.U32 (global_name 0) None
    ∷ tree.Function (record {
      is_static = true;
      result = c_type.U32;
      name = func_name 0;
      params = (c_type.U32, None) ∷ [];
      body = None;
    })
    ∷ tree.Function (load_helper I32Load)
    ∷ tree.Function (store_helper I32Store)
    ∷ tree.Function (function_f0 (slot (local_name 1) ∷ slot (i 0) ∷ slot (i 1) ∷ []) linked_stmts)
    ∷ (map tree.Function linked_exports
    ++ tree.Function (record {
      is_static = false;
      result = c_type.Void;
      name = codes "w2cZ_realZ_i";
      params = (c_type.Void, None) ∷ [];
      body = Some (record { locals = []; stmts = linked_init });
    }) ∷ [])
