-- Small modules and bodies, written by hand, for closed cases.
use Rattle.std.specs.Prelude.{ℕ, ◌+◌, pos, false, List, [], ◌∷◌, map, Option, Some, None}
use Rattle.w2c_base.specs.declared.value.ValType.{ValType}
use Rattle.w2c_base.specs.declared.value.ValType.TheVariants as type
use Rattle.wasm_tree.specs.Instructions.{Code, end_code, then_code, Kind, GlobalGet, I32Const}
use Rattle.wasm_tree.specs.declared.tree.Module.{Module}
use Rattle.wasm_tree.specs.declared.entries.BodyEntry.{BodyEntry}
use Rattle.wasm_tree.specs.declared.entries.Limits.{Limits}
use Rattle.wasm_tree.specs.declared.entries.Export.{Export}
pub use Rattle.wasm_tree.specs.Samples.{no_module}
use Rattle.wasm_typing.specs.Context.{Context}

-- instructions in order, the first at a place, each one byte behind the one before
abbrev pub code_from : ℕ → List Kind → Code
code_from place [] = end_code
code_from place (kind ∷ kinds) = then_code place kind (code_from (place + 1) kinds)

-- a context with these locals and this result, with a memory and nothing else
abbrev pub context : List ValType → Option ValType → Context
context locals result = record {
  types = [];
  funcs = [];
  tables = [];
  memories = record { min = 1; max = None; place = 0 } ∷ [];
  globals = [];
  locals = locals;
  result = result;
}

abbrev pub body : Code → ℕ → BodyEntry
body code end_place = record { runs = []; code = code; end_place = end_place }

-- two functions `[] -> [i32]` with these bodies
abbrev pub two_functions : BodyEntry → BodyEntry → Module
two_functions first second = record no_module {
  types = record { place = 11; ty = record { params = []; result = Some type.I32 } } ∷ [];
  funcs = record { type_index = 0; place = 18 } ∷ record { type_index = 0; place = 19 } ∷ [];
  bodies = first ∷ second ∷ [];
}

-- two globals, of which the second gets the first
abbrev pub gets_own_global : Module
gets_own_global = record no_module {
  globals = record { ty = type.I32; mutable = false; code = code_from 13 (I32Const (pos 0) ∷ []); place = 13 }
      ∷ record { ty = type.I32; mutable = false; code = code_from 18 (GlobalGet 0 ∷ []); place = 18 } ∷ [];
}

-- nothing but these memories and exports
abbrev pub memories_and_exports : List Limits → List Export → Module
memories_and_exports memories exports = record {
  types = [];
  imports = [];
  funcs = [];
  tables = [];
  memories = map (λ limits. record { limits = limits; place = limits.place }) memories;
  globals = [];
  exports = exports;
  start = None;
  elements = [];
  data_count = None;
  segments = [];
  bodies = [];
}
