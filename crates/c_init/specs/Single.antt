-- An expression by its only instruction.
use Rattle.std.specs.Prelude.{Option, Some, None}
use Rattle.w2c_base.specs.Values.{pattern_of}
use Rattle.wasm_tree.specs.Instructions.{Code, Kind, end_code, then_code, I32Const, I64Const, GlobalGet}
use Rattle.wasm_tree.specs.declared.tree.Module.{Module}
use Rattle.c_tree.specs.Tree as tree
use Rattle.c_symbols.specs.Objects.{global_value}
use Rattle.c_init.specs.Init.{n32, n64}

abbrev pub single_of : Code → Option Kind
single_of (then_code place kind end_code) = Some kind
single_of _ = None

abbrev pub constant_by : Module → Option Kind → tree.Expr
constant_by m (Some (I32Const z)) = n32 (pattern_of 32 z)
constant_by m (Some (I64Const z)) = n64 (pattern_of 64 z)
constant_by m (Some (GlobalGet index)) = global_value m index
constant_by m _ = n32 0
