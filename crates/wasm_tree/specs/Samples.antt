-- Code and modules by hand, of which closed cases are made. Every place is 0.
use Rattle.std.specs.Prelude.{ℕ, pos, List, [], ◌∷◌, map, Option, Some, None}
use Rattle.w2c_base.specs.declared.value.ValType.{ValType}
use Rattle.w2c_base.specs.declared.value.ValType.TheVariants as type
use Rattle.wasm_tree.specs.Instructions.{Code, end_code, then_code, Kind, Block, BrTable, LocalGet, I32Const, Binary}
use Rattle.wasm_tree.specs.declared.operators.BinaryOp.TheVariants.{Add}
use Rattle.wasm_tree.specs.declared.tree.Module.{Module}
use Rattle.wasm_tree.specs.declared.entries.TypeEntry.{TypeEntry}
use Rattle.wasm_tree.specs.declared.entries.Export.{Export}
use Rattle.wasm_tree.specs.declared.entries.BodyEntry.{BodyEntry}
use Rattle.wasm_tree.specs.declared.entries.ExportKind.TheVariants.{Func as ExportFunc}

abbrev pub code_of : List Kind → Code
code_of [] = end_code
code_of (kind ∷ kinds) = then_code 0 kind (code_of kinds)

-- three blocks inside each other: the label that an index takes, and what each branch drops
abbrev pub three_blocks : List Kind
three_blocks =
    Block (Some type.I32) (code_of (
    Block (Some type.I32) (code_of (
    Block (Some type.I32) (code_of (I32Const (pos 3) ∷ I32Const (pos 7) ∷ LocalGet 0 ∷ BrTable (0 ∷ 1 ∷ []) 2 ∷ [])) 0
    ∷ I32Const (pos 1) ∷ Binary type.I32 Add ∷ [])) 0
    ∷ I32Const (pos 2) ∷ Binary type.I32 Add ∷ [])) 0
    ∷ []

abbrev pub func_type : List ValType → Option ValType → TypeEntry
func_type params result = record { place = 0; ty = record { params = params; result = result } }

abbrev pub export_func : List ℕ → ℕ → Export
export_func name index = record { name = name; kind = ExportFunc; index = index; name_place = 0; index_place = 0 }

abbrev pub body : List Kind → BodyEntry
body kinds = record { runs = []; code = code_of kinds; end_place = 0 }

abbrev pub no_module : Module
no_module = record {
  types = [];
  imports = [];
  funcs = [];
  tables = [];
  memories = [];
  globals = [];
  exports = [];
  start = None;
  elements = [];
  data_count = None;
  segments = [];
  bodies = [];
}

-- types, the type of each function, bodies, and exports
abbrev pub with_funcs : List TypeEntry → List ℕ → List BodyEntry → List Export → Module → Module
with_funcs types of_types bodies exports m = record {
  types = types;
  imports = m.imports;
  funcs = map (λ t. record { type_index = t; place = 0 }) of_types;
  tables = m.tables;
  memories = m.memories;
  globals = m.globals;
  exports = exports;
  start = m.start;
  elements = m.elements;
  data_count = None;
  segments = m.segments;
  bodies = bodies;
}
