-- The context in which the instructions of a body are typed (WebAssembly Core 1.0, 3.1.1). Labels stand beside it,
-- since each block adds one.
use Rattle.std.specs.Prelude.{Bool, List, ◌++◌, map, Option, option_map}
use Rattle.w2c_base.specs.declared.value.ValType.{ValType}
use Rattle.w2c_base.specs.declared.signature.FuncType.{FuncType}
use Rattle.wasm_tree.specs.declared.tree.Module.{Module}
use Rattle.wasm_tree.specs.declared.entries.Limits.{Limits}
use Rattle.wasm_tree.specs.declared.entries.FuncEntry.{FuncEntry}
use Rattle.wasm_tree.specs.declared.entries.BodyEntry.{BodyEntry}
use Rattle.wasm_tree.specs.IndexSpaces.{func_space, table_space, memory_space, global_space, type_in, declared_locals}

pub record Context : Type 0 where
  pub types : List FuncType
  -- a function whose type index is out of range has no type
  pub funcs : List (Option FuncType)
  pub tables : List Limits
  pub memories : List Limits
  -- a global's type, and whether it is mutable
  pub globals : List (ValType × Bool)
  -- the parameters, and then the declared locals
  pub locals : List ValType
  -- what the function returns
  pub result : Option ValType

-- the labels in reach, the innermost first, each with the type of its value
abbrev pub Labels : Type 0
Labels = List (Option ValType)

-- the context of a body of a function of this type (3.4.1)
abbrev pub context_of : Module → FuncType → BodyEntry → Context
context_of m ty body = record {
  types = map (λ t. t.ty) m.types;
  funcs = map (type_in m) (func_space m);
  tables = table_space m;
  memories = memory_space m;
  globals = global_space m;
  locals = ty.params ++ declared_locals body.runs;
  result = ty.result;
}

-- the context of a function's body. None where the function has no type
abbrev pub body_context : Module → FuncEntry → BodyEntry → Option Context
body_context m func body = option_map (λ ty. context_of m ty body) (type_in m func.type_index)
