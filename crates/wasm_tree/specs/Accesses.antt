-- Accesses to memory: the type of the value, how many bytes it has there, and whether what is loaded is extended by its sign
-- (WebAssembly Core 1.0, 2.4.4). And how many low bits are extended, at which type (Core 2.0, 2.4.1).
use Rattle.std.specs.Prelude.{ℕ, Bool, true, false}
use Rattle.w2c_base.specs.declared.value.ValType.{ValType}
use Rattle.w2c_base.specs.declared.value.ValType.TheVariants.{I32, I64}
use Rattle.wasm_tree.specs.declared.operators.Access.{Access}
use Rattle.wasm_tree.specs.declared.operators.LoadOp.{LoadOp}
use Rattle.wasm_tree.specs.declared.operators.LoadOp.TheVariants.{I32Load, I64Load, I32Load8S, I32Load8U, I32Load16S, I32Load16U, I64Load8S}
use Rattle.wasm_tree.specs.declared.operators.LoadOp.TheVariants.{I64Load8U, I64Load16S, I64Load16U, I64Load32S, I64Load32U}
use Rattle.wasm_tree.specs.declared.operators.StoreOp.{StoreOp}
use Rattle.wasm_tree.specs.declared.operators.StoreOp.TheVariants.{I32Store, I64Store, I32Store8, I32Store16, I64Store8, I64Store16}
use Rattle.wasm_tree.specs.declared.operators.StoreOp.TheVariants.{I64Store32}
use Rattle.wasm_tree.specs.declared.operators.ExtendOp.{ExtendOp}
use Rattle.wasm_tree.specs.declared.operators.ExtendOp.TheVariants.{I32Extend8S, I32Extend16S, I64Extend8S, I64Extend16S, I64Extend32S}

abbrev access : ValType → ℕ → Bool → Access
access ty width is_signed = record { ty = ty; width = width; is_signed = is_signed }

abbrev pub load_access : LoadOp → Access
load_access I32Load = access I32 4 false
load_access I64Load = access I64 8 false
load_access I32Load8S = access I32 1 true
load_access I32Load8U = access I32 1 false
load_access I32Load16S = access I32 2 true
load_access I32Load16U = access I32 2 false
load_access I64Load8S = access I64 1 true
load_access I64Load8U = access I64 1 false
load_access I64Load16S = access I64 2 true
load_access I64Load16U = access I64 2 false
load_access I64Load32S = access I64 4 true
load_access I64Load32U = access I64 4 false

abbrev pub store_access : StoreOp → Access
store_access I32Store = access I32 4 false
store_access I64Store = access I64 8 false
store_access I32Store8 = access I32 1 false
store_access I32Store16 = access I32 2 false
store_access I64Store8 = access I64 1 false
store_access I64Store16 = access I64 2 false
store_access I64Store32 = access I64 4 false

abbrev pub extend_width : ExtendOp → ℕ
extend_width I32Extend8S = 8
extend_width I32Extend16S = 16
extend_width I64Extend8S = 8
extend_width I64Extend16S = 16
extend_width I64Extend32S = 32

abbrev pub extend_type : ExtendOp → ValType
extend_type I32Extend8S = I32
extend_type I32Extend16S = I32
extend_type _ = I64

-- ---- parts of these

abbrev pub load_width : LoadOp → ℕ
load_width op = (load_access op).width

abbrev pub load_type : LoadOp → ValType
load_type op = (load_access op).ty

abbrev pub store_width : StoreOp → ℕ
store_width op = (store_access op).width

abbrev pub store_type : StoreOp → ValType
store_type op = (store_access op).ty
