-- Instructions as the program holds them, seen as trees.
use Rattle.std.specs.Prelude.{List, [], ◌∷◌, Option, Some, None}
use Rattle.w2c_base.specs.declared.value.ValType.TheVariants as type
use Rattle.wasm_tree.specs.declared.code.Instr.{Instr}
use Rattle.wasm_tree.specs.declared.operators.Kind.{Kind as RustKind}
use Rattle.wasm_tree.specs.declared.operators.Kind.TheVariants as kind
use Rattle.wasm_tree.specs.declared.code.ElsePart.{ElsePart}
use Rattle.wasm_tree.specs.Instructions.{Code, end_code, then_code, Kind, Otherwise, no_else, else_code, Unreachable, Nop, Return, Drop}
use Rattle.wasm_tree.specs.Instructions.{Select, MemorySize, MemoryGrow, MemoryCopy, MemoryFill, Block, Loop, If, Br, BrIf, BrTable, Call}
use Rattle.wasm_tree.specs.Instructions.{CallIndirect, LocalGet, LocalSet, LocalTee, GlobalGet, GlobalSet, Load, Store, I32Const, I64Const}
use Rattle.wasm_tree.specs.Instructions.{Eqz, Compare, Unary, Binary, I32WrapI64, I64ExtendI32S, I64ExtendI32U, Extend}
use Rattle.wasm_tree.specs.declared.operators.UnaryOp.TheVariants.{Clz, Ctz, Popcnt}
use Rattle.wasm_tree.specs.declared.operators.BinaryOp.TheVariants.{Add, Sub, Mul, DivS, DivU, RemS, RemU, And, Or, Xor, Shl, ShrS, ShrU}
use Rattle.wasm_tree.specs.declared.operators.BinaryOp.TheVariants.{Rotl, Rotr}
use Rattle.wasm_tree.specs.declared.operators.CompareOp.TheVariants.{Eq, Ne, LtS, LtU, GtS, GtU, LeS, LeU, GeS, GeU}
use Rattle.wasm_tree.specs.declared.operators.LoadOp.TheVariants.{I32Load, I64Load, I32Load8S, I32Load8U, I32Load16S, I32Load16U, I64Load8S}
use Rattle.wasm_tree.specs.declared.operators.LoadOp.TheVariants.{I64Load8U, I64Load16S, I64Load16U, I64Load32S, I64Load32U}
use Rattle.wasm_tree.specs.declared.operators.StoreOp.TheVariants.{I32Store, I64Store, I32Store8, I32Store16, I64Store8, I64Store16}
use Rattle.wasm_tree.specs.declared.operators.StoreOp.TheVariants.{I64Store32}
use Rattle.wasm_tree.specs.declared.operators.ExtendOp.TheVariants.{I32Extend8S, I32Extend16S, I64Extend8S, I64Extend16S, I64Extend32S}
use Rattle.wasm_tree.specs.Appended.{InstrTree}

abbrev pub otherwise_tree : Option ElsePart → Otherwise
otherwise_tree None = no_else
otherwise_tree (Some other) = else_code other.place other.code

abbrev pub kind_tree : RustKind → Kind
kind_tree kind.Unreachable = Unreachable
kind_tree kind.Nop = Nop
kind_tree (kind.Br index) = Br index
kind_tree (kind.BrIf index) = BrIf index
kind_tree (kind.BrTable labels default) = BrTable labels default
kind_tree kind.Return = Return
kind_tree (kind.Call index) = Call index
kind_tree (kind.CallIndirect type_index) = CallIndirect type_index
kind_tree kind.Drop = Drop
kind_tree kind.Select = Select
kind_tree (kind.LocalGet index) = LocalGet index
kind_tree (kind.LocalSet index) = LocalSet index
kind_tree (kind.LocalTee index) = LocalTee index
kind_tree (kind.GlobalGet index) = GlobalGet index
kind_tree (kind.GlobalSet index) = GlobalSet index
kind_tree (kind.I32Load arg) = Load I32Load arg
kind_tree (kind.I64Load arg) = Load I64Load arg
kind_tree (kind.I32Load8S arg) = Load I32Load8S arg
kind_tree (kind.I32Load8U arg) = Load I32Load8U arg
kind_tree (kind.I32Load16S arg) = Load I32Load16S arg
kind_tree (kind.I32Load16U arg) = Load I32Load16U arg
kind_tree (kind.I64Load8S arg) = Load I64Load8S arg
kind_tree (kind.I64Load8U arg) = Load I64Load8U arg
kind_tree (kind.I64Load16S arg) = Load I64Load16S arg
kind_tree (kind.I64Load16U arg) = Load I64Load16U arg
kind_tree (kind.I64Load32S arg) = Load I64Load32S arg
kind_tree (kind.I64Load32U arg) = Load I64Load32U arg
kind_tree (kind.I32Store arg) = Store I32Store arg
kind_tree (kind.I64Store arg) = Store I64Store arg
kind_tree (kind.I32Store8 arg) = Store I32Store8 arg
kind_tree (kind.I32Store16 arg) = Store I32Store16 arg
kind_tree (kind.I64Store8 arg) = Store I64Store8 arg
kind_tree (kind.I64Store16 arg) = Store I64Store16 arg
kind_tree (kind.I64Store32 arg) = Store I64Store32 arg
kind_tree kind.MemorySize = MemorySize
kind_tree kind.MemoryGrow = MemoryGrow
kind_tree kind.MemoryCopy = MemoryCopy
kind_tree kind.MemoryFill = MemoryFill
kind_tree (kind.I32Const number) = I32Const number
kind_tree (kind.I64Const number) = I64Const number
kind_tree kind.I32Eqz = Eqz type.I32
kind_tree kind.I32Eq = Compare type.I32 Eq
kind_tree kind.I32Ne = Compare type.I32 Ne
kind_tree kind.I32LtS = Compare type.I32 LtS
kind_tree kind.I32LtU = Compare type.I32 LtU
kind_tree kind.I32GtS = Compare type.I32 GtS
kind_tree kind.I32GtU = Compare type.I32 GtU
kind_tree kind.I32LeS = Compare type.I32 LeS
kind_tree kind.I32LeU = Compare type.I32 LeU
kind_tree kind.I32GeS = Compare type.I32 GeS
kind_tree kind.I32GeU = Compare type.I32 GeU
kind_tree kind.I64Eqz = Eqz type.I64
kind_tree kind.I64Eq = Compare type.I64 Eq
kind_tree kind.I64Ne = Compare type.I64 Ne
kind_tree kind.I64LtS = Compare type.I64 LtS
kind_tree kind.I64LtU = Compare type.I64 LtU
kind_tree kind.I64GtS = Compare type.I64 GtS
kind_tree kind.I64GtU = Compare type.I64 GtU
kind_tree kind.I64LeS = Compare type.I64 LeS
kind_tree kind.I64LeU = Compare type.I64 LeU
kind_tree kind.I64GeS = Compare type.I64 GeS
kind_tree kind.I64GeU = Compare type.I64 GeU
kind_tree kind.I32Clz = Unary type.I32 Clz
kind_tree kind.I32Ctz = Unary type.I32 Ctz
kind_tree kind.I32Popcnt = Unary type.I32 Popcnt
kind_tree kind.I32Add = Binary type.I32 Add
kind_tree kind.I32Sub = Binary type.I32 Sub
kind_tree kind.I32Mul = Binary type.I32 Mul
kind_tree kind.I32DivS = Binary type.I32 DivS
kind_tree kind.I32DivU = Binary type.I32 DivU
kind_tree kind.I32RemS = Binary type.I32 RemS
kind_tree kind.I32RemU = Binary type.I32 RemU
kind_tree kind.I32And = Binary type.I32 And
kind_tree kind.I32Or = Binary type.I32 Or
kind_tree kind.I32Xor = Binary type.I32 Xor
kind_tree kind.I32Shl = Binary type.I32 Shl
kind_tree kind.I32ShrS = Binary type.I32 ShrS
kind_tree kind.I32ShrU = Binary type.I32 ShrU
kind_tree kind.I32Rotl = Binary type.I32 Rotl
kind_tree kind.I32Rotr = Binary type.I32 Rotr
kind_tree kind.I64Clz = Unary type.I64 Clz
kind_tree kind.I64Ctz = Unary type.I64 Ctz
kind_tree kind.I64Popcnt = Unary type.I64 Popcnt
kind_tree kind.I64Add = Binary type.I64 Add
kind_tree kind.I64Sub = Binary type.I64 Sub
kind_tree kind.I64Mul = Binary type.I64 Mul
kind_tree kind.I64DivS = Binary type.I64 DivS
kind_tree kind.I64DivU = Binary type.I64 DivU
kind_tree kind.I64RemS = Binary type.I64 RemS
kind_tree kind.I64RemU = Binary type.I64 RemU
kind_tree kind.I64And = Binary type.I64 And
kind_tree kind.I64Or = Binary type.I64 Or
kind_tree kind.I64Xor = Binary type.I64 Xor
kind_tree kind.I64Shl = Binary type.I64 Shl
kind_tree kind.I64ShrS = Binary type.I64 ShrS
kind_tree kind.I64ShrU = Binary type.I64 ShrU
kind_tree kind.I64Rotl = Binary type.I64 Rotl
kind_tree kind.I64Rotr = Binary type.I64 Rotr
kind_tree kind.I32WrapI64 = I32WrapI64
kind_tree kind.I64ExtendI32S = I64ExtendI32S
kind_tree kind.I64ExtendI32U = I64ExtendI32U
kind_tree kind.I32Extend8S = Extend I32Extend8S
kind_tree kind.I32Extend16S = Extend I32Extend16S
kind_tree kind.I64Extend8S = Extend I64Extend8S
kind_tree kind.I64Extend16S = Extend I64Extend16S
kind_tree kind.I64Extend32S = Extend I64Extend32S
kind_tree (kind.Block result code end_place) = Block result code end_place
kind_tree (kind.Loop result code end_place) = Loop result code end_place
kind_tree (kind.If result code otherwise end_place) = If result code (otherwise_tree otherwise) end_place

abbrev pub instr_tree : Instr → InstrTree
instr_tree instr = record { place = instr.place; kind = kind_tree instr.kind }

abbrev pub code_tree : List Instr → Code
code_tree [] = end_code
code_tree (instr ∷ instrs) = then_code instr.place (kind_tree instr.kind) (code_tree instrs)
