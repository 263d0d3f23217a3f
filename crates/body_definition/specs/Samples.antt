-- Small modules and what their bodies are translated to, written by hand.
use Rattle.std.specs.Prelude.{ℕ, pos, true, List, [], ◌∷◌, ◌++◌, codes, Some, None}
use Rattle.w2c_base.specs.declared.value.ValType.TheVariants as type
use Rattle.wasm_tree.specs.declared.tree.Module.{Module}
use Rattle.wasm_tree.specs.Instructions.{Kind, Br, BrIf, If, else_code, I32Const, LocalGet, Drop, Binary, Load, CallIndirect}
use Rattle.wasm_tree.specs.declared.operators.BinaryOp.TheVariants.{Shl, DivS, Add}
use Rattle.wasm_tree.specs.declared.entries.Import.{Import}
use Rattle.wasm_tree.specs.declared.entries.Limits.{Limits}
use Rattle.wasm_tree.specs.declared.entries.ImportKind.{ImportKind}
use Rattle.wasm_tree.specs.declared.entries.ImportKind.TheVariants.{Table as ImportTable, Memory as ImportMemory}
use Rattle.wasm_tree.specs.declared.operators.LoadOp.TheVariants.{I32Load}
use Rattle.wasm_tree.specs.Samples.{code_of, body, func_type, no_module, with_funcs}
use Rattle.c_tree.specs.declared.tree.CType.TheVariants as c_type
use Rattle.c_tree.specs.declared.tree.Num.TheVariants.{N32, N64, Plain}
use Rattle.c_tree.specs.declared.tree.COp.{COp}
use Rattle.c_tree.specs.declared.tree.COp.TheVariants as op
use Rattle.c_tree.specs.Tree as tree
use Rattle.c_tree.specs.DefinedNames.{func_name, label_name}
use Rattle.body_forms.specs.Names as names
use Rattle.body_forms.specs.Names.{local_name}

-- ---- modules

-- one function of type `[i32] -> [i32]`
abbrev pub one_function : List Kind → Module
one_function kinds = with_funcs (func_type (type.I32 ∷ []) (Some type.I32) ∷ []) (0 ∷ []) (body kinds ∷ []) [] no_module

-- one of type `[] -> []`
abbrev pub one_procedure : List Kind → Module
one_procedure kinds = with_funcs (func_type [] None ∷ []) (0 ∷ []) (body kinds ∷ []) [] no_module

-- a branch to the function's exit, and what stands behind it
abbrev pub leaves_early : List Kind
leaves_early = Br 0 ∷ Binary type.I32 Add ∷ Drop ∷ []

-- 1 or a shifted number, by a condition
abbrev pub both_branches : List Kind
both_branches =
    LocalGet 0
    ∷ If (Some type.I32) (code_of (I32Const (pos 1) ∷ []))
    (else_code 0 (code_of (LocalGet 0 ∷ I32Const (pos 33) ∷ Binary type.I32 Shl ∷ []))) 0
    ∷ []

-- a branch that has to move its value, and one that has not
abbrev pub branches_on_conditions : List Kind
branches_on_conditions = I32Const (pos 5) ∷ LocalGet 0 ∷ LocalGet 0 ∷ BrIf 0 ∷ Binary type.I32 DivS ∷ LocalGet 0 ∷ BrIf 0 ∷ []

-- a load from an imported memory, and a call through an imported table
abbrev import : List ℕ → ImportKind → Import
import field kind = record { «module» = codes "a"; field = field; kind = kind; place = 0 }

abbrev limits : Limits
limits = record { min = 1; max = None; place = 0 }

abbrev pub imports_objects : Module
imports_objects = record {
  types = func_type (type.I32 ∷ []) (Some type.I32) ∷ [];
  imports = import (codes "m") (ImportMemory limits) ∷ import (codes "t") (ImportTable limits) ∷ [];
  funcs = record { type_index = 0; place = 0 } ∷ [];
  tables = [];
  memories = [];
  globals = [];
  exports = [];
  start = None;
  elements = [];
  data_count = None;
  segments = [];
  bodies = body (LocalGet 0 ∷ Load I32Load (record { align = 2; offset = 4 }) ∷ LocalGet 0 ∷ CallIndirect 0 ∷ []) ∷ [];
}

-- ---- C

abbrev pub i : ℕ → List ℕ
i height = names.slot type.I32 height

abbrev pub name : List ℕ → tree.Expr
name n = tree.Name n

abbrev pub number : ℕ → tree.Expr
number n = tree.Number (N32 n)

abbrev pub set : List ℕ → tree.Expr → tree.Stmt
set n e = tree.Set n (tree.Value e)

-- left, operator, right
abbrev pub two : List ℕ → COp → List ℕ → tree.Expr
two left o right = tree.Op o (name left) (name right)

abbrev pub goto_if : List ℕ → COp → ℕ → List ℕ → tree.Stmt
goto_if left o right label = tree.If o (name left) (number right) label

abbrev pub slot : List ℕ → tree.Local
slot n = (c_type.U32, n, N32 0)

-- the test of the depth
abbrev pub entry : tree.Stmt → List tree.Stmt
entry give =
    goto_if (codes "w2c_depth") op.Lt 1024 (label_name 0)
    ∷ tree.Call None (tree.Called (codes "w2c_trap")) (tree.Value (number 8) ∷ [])
    ∷ give
    ∷ tree.Label (label_name 0)
    ∷ set (codes "w2c_depth") (tree.Op op.Add (name (codes "w2c_depth")) (number 1))
    ∷ []

-- the exit
abbrev pub leave : tree.Stmt → List tree.Stmt
leave give = set (codes "w2c_depth") (tree.Op op.Sub (name (codes "w2c_depth")) (number 1)) ∷ give ∷ []

abbrev pub give_i0 : tree.Stmt
give_i0 = tree.Return (tree.Value (name (i 0)))

-- static u32 f0(u32 l0) or static void f0(void)
abbrev pub function_f0 : List tree.Local → List tree.Stmt → tree.Func
function_f0 locals stmts = record {
  is_static = true;
  result = c_type.U32;
  name = func_name 0;
  params = (c_type.U32, Some (local_name 0)) ∷ [];
  body = Some (record { locals = locals; stmts = entry give_i0 ++ (stmts ++ leave give_i0) });
}

abbrev pub procedure_f0 : List tree.Stmt → tree.Func
procedure_f0 stmts = record {
  is_static = true;
  result = c_type.Void;
  name = func_name 0;
  params = (c_type.Void, None) ∷ [];
  body = Some (record { locals = []; stmts = entry tree.ReturnNone ++ (stmts ++ leave tree.ReturnNone) });
}

abbrev pub leaves_early_c : List tree.Stmt
leaves_early_c = tree.Goto (label_name 1) ∷ tree.Label (label_name 1) ∷ []

abbrev pub three_blocks_c : List tree.Stmt
three_blocks_c =
    set (i 0) (number 3)
    ∷ set (i 1) (number 7)
    ∷ set (i 2) (name (local_name 0))
    ∷ tree.Switch (name (i 2)) ((N32 0, label_name 5) ∷ (N32 1, label_name 6) ∷ []) (label_name 7)
    ∷ tree.Label (label_name 5)
    ∷ set (i 0) (name (i 1))
    ∷ tree.Goto (label_name 4)
    ∷ tree.Label (label_name 6)
    ∷ set (i 0) (name (i 1))
    ∷ tree.Goto (label_name 3)
    ∷ tree.Label (label_name 7)
    ∷ set (i 0) (name (i 1))
    ∷ tree.Goto (label_name 2)
    ∷ tree.Label (label_name 4)
    ∷ set (i 1) (number 1)
    ∷ set (i 0) (two (i 0) op.Add (i 1))
    ∷ tree.Label (label_name 3)
    ∷ set (i 1) (number 2)
    ∷ set (i 0) (two (i 0) op.Add (i 1))
    ∷ tree.Label (label_name 2)
    ∷ []

abbrev pub both_branches_c : List tree.Stmt
both_branches_c =
    set (i 0) (name (local_name 0))
    ∷ goto_if (i 0) op.Eq 0 (label_name 2)
    ∷ set (i 0) (number 1)
    ∷ tree.Goto (label_name 3)
    ∷ tree.Label (label_name 2)
    ∷ set (i 0) (name (local_name 0))
    ∷ set (i 1) (number 33)
    ∷ set (i 0) (tree.Op op.Shl (name (i 0)) (tree.Op op.Rem (name (i 1)) (number 32)))
    ∷ tree.Label (label_name 3)
    ∷ []

abbrev pub branches_on_conditions_c : List tree.Stmt
branches_on_conditions_c =
    set (i 0) (number 5)
    ∷ set (i 1) (name (local_name 0))
    ∷ set (i 2) (name (local_name 0))
    ∷ goto_if (i 2) op.Eq 0 (label_name 2)
    ∷ set (i 0) (name (i 1))
    ∷ tree.Goto (label_name 1)
    ∷ tree.Label (label_name 2)
    ∷ tree.Call (Some (i 0)) (tree.Called (codes "i32_div_s")) (tree.Value (name (i 0)) ∷ tree.Value (name (i 1)) ∷ [])
    ∷ set (i 1) (name (local_name 0))
    ∷ goto_if (i 1) op.Ne 0 (label_name 1)
    ∷ tree.Label (label_name 1)
    ∷ []

abbrev pub imports_objects_locals : List tree.Local
imports_objects_locals = slot (i 0) ∷ slot (i 1) ∷ (c_type.FnPtr, codes "e", Plain 0) ∷ []

abbrev pub imports_objects_c : List tree.Stmt
imports_objects_c =
    set (i 0) (name (local_name 0))
    ∷ tree.Call (Some (i 0)) (tree.Called (codes "i32_load"))
    (tree.Value (name (codes "pm0")) ∷ tree.Value (name (i 0)) ∷ tree.Value (number 4) ∷ [])
    ∷ set (i 1) (name (local_name 0))
    ∷ tree.Call (Some (codes "e")) (tree.Called (codes "table_element"))
    (tree.Value (name (codes "pt0")) ∷ tree.Value (name (i 1)) ∷ tree.Value (tree.Number (N64 7)) ∷ [])
    ∷ tree.Call (Some (i 0)) (tree.Through (record { params = c_type.U32 ∷ []; result = c_type.U32 }) (codes "e"))
    (tree.Value (name (i 0)) ∷ [])
    ∷ []
