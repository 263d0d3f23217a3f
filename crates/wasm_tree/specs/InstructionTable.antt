-- Opcodes, and the table of instructions but for blocks (WebAssembly Core 1.0, 5.4 and 3.3): a row has the opcode,
-- what stands behind it with the instruction that this makes, and the instruction's type.
use Rattle.std.specs.Prelude.{ℕ, ℤ, ◌+◌, List, [], ◌∷◌, map, find, flat_map, Option, ◌==◌}
use Rattle.w2c_base.specs.declared.value.ValType.{ValType}
use Rattle.w2c_base.specs.declared.value.ValType.TheVariants as type
use Rattle.wasm_tree.specs.declared.code.MemArg.{MemArg}
use Rattle.wasm_tree.specs.Instructions.{Kind, Unreachable, Nop, Return, Drop, Select, MemorySize, MemoryGrow, MemoryCopy, MemoryFill, Br}
use Rattle.wasm_tree.specs.Instructions.{BrIf, BrTable, Call, CallIndirect, LocalGet, LocalSet, LocalTee, GlobalGet, GlobalSet, Load, Store}
use Rattle.wasm_tree.specs.Instructions.{I32Const, I64Const, Eqz, Compare, Unary, Binary, I32WrapI64, I64ExtendI32S, I64ExtendI32U, Extend}
use Rattle.wasm_tree.specs.Instructions.{Block, Loop, If}
use Rattle.wasm_tree.specs.declared.operators.UnaryOp.TheVariants.{Clz, Ctz, Popcnt}
use Rattle.wasm_tree.specs.declared.operators.BinaryOp.TheVariants.{Add, Sub, Mul, DivS, DivU, RemS, RemU, And, Or, Xor, Shl, ShrS, ShrU}
use Rattle.wasm_tree.specs.declared.operators.BinaryOp.TheVariants.{Rotl, Rotr}
use Rattle.wasm_tree.specs.declared.operators.CompareOp.TheVariants.{Eq, Ne, LtS, LtU, GtS, GtU, LeS, LeU, GeS, GeU}
use Rattle.wasm_tree.specs.declared.operators.LoadOp.TheVariants.{I32Load, I64Load, I32Load8S, I32Load8U, I32Load16S, I32Load16U, I64Load8S}
use Rattle.wasm_tree.specs.declared.operators.LoadOp.TheVariants.{I64Load8U, I64Load16S, I64Load16U, I64Load32S, I64Load32U}
use Rattle.wasm_tree.specs.declared.operators.StoreOp.TheVariants.{I32Store, I64Store, I32Store8, I32Store16, I64Store8, I64Store16}
use Rattle.wasm_tree.specs.declared.operators.StoreOp.TheVariants.{I64Store32}
use Rattle.wasm_tree.specs.declared.operators.ExtendOp.TheVariants.{I32Extend8S, I32Extend16S, I64Extend8S, I64Extend16S, I64Extend32S}
use Rattle.wasm_tree.specs.declared.operators.UnaryOp.{UnaryOp}
use Rattle.wasm_tree.specs.declared.operators.BinaryOp.{BinaryOp}
use Rattle.wasm_tree.specs.declared.operators.CompareOp.{CompareOp}
use Rattle.wasm_tree.specs.declared.operators.LoadOp.{LoadOp}
use Rattle.wasm_tree.specs.declared.operators.StoreOp.{StoreOp}
use Rattle.wasm_tree.specs.declared.operators.ExtendOp.{ExtendOp}
use Rattle.wasm_tree.specs.Accesses.{load_access, store_access, extend_type}

-- ---- opcodes

-- memory instructions (5.4.4)
abbrev pub load_opcode : LoadOp → ℕ
load_opcode I32Load = 0x28
load_opcode I64Load = 0x29
load_opcode I32Load8S = 0x2C
load_opcode I32Load8U = 0x2D
load_opcode I32Load16S = 0x2E
load_opcode I32Load16U = 0x2F
load_opcode I64Load8S = 0x30
load_opcode I64Load8U = 0x31
load_opcode I64Load16S = 0x32
load_opcode I64Load16U = 0x33
load_opcode I64Load32S = 0x34
load_opcode I64Load32U = 0x35

abbrev pub store_opcode : StoreOp → ℕ
store_opcode I32Store = 0x36
store_opcode I64Store = 0x37
store_opcode I32Store8 = 0x3A
store_opcode I32Store16 = 0x3B
store_opcode I64Store8 = 0x3C
store_opcode I64Store16 = 0x3D
store_opcode I64Store32 = 0x3E

abbrev pub extend_opcode : ExtendOp → ℕ
extend_opcode I32Extend8S = 0xC0
extend_opcode I32Extend16S = 0xC1
extend_opcode I64Extend8S = 0xC2
extend_opcode I64Extend16S = 0xC3
extend_opcode I64Extend32S = 0xC4

-- numeric instructions (5.4.5): the opcode at i32. That at i64 stands so many places behind it
abbrev at_type : ValType → (opcode behind : ℕ) → ℕ
at_type type.I32 opcode behind = opcode
at_type type.I64 opcode behind = opcode + behind

abbrev pub eqz_opcode : ValType → ℕ
eqz_opcode ty = at_type ty 0x45 0x0B

abbrev comparison_at_i32 : CompareOp → ℕ
comparison_at_i32 Eq = 0x46
comparison_at_i32 Ne = 0x47
comparison_at_i32 LtS = 0x48
comparison_at_i32 LtU = 0x49
comparison_at_i32 GtS = 0x4A
comparison_at_i32 GtU = 0x4B
comparison_at_i32 LeS = 0x4C
comparison_at_i32 LeU = 0x4D
comparison_at_i32 GeS = 0x4E
comparison_at_i32 GeU = 0x4F

abbrev pub compare_opcode : ValType → CompareOp → ℕ
compare_opcode ty op = at_type ty (comparison_at_i32 op) 0x0B

abbrev unary_at_i32 : UnaryOp → ℕ
unary_at_i32 Clz = 0x67
unary_at_i32 Ctz = 0x68
unary_at_i32 Popcnt = 0x69

abbrev pub unary_opcode : ValType → UnaryOp → ℕ
unary_opcode ty op = at_type ty (unary_at_i32 op) 0x12

abbrev binary_at_i32 : BinaryOp → ℕ
binary_at_i32 Add = 0x6A
binary_at_i32 Sub = 0x6B
binary_at_i32 Mul = 0x6C
binary_at_i32 DivS = 0x6D
binary_at_i32 DivU = 0x6E
binary_at_i32 RemS = 0x6F
binary_at_i32 RemU = 0x70
binary_at_i32 And = 0x71
binary_at_i32 Or = 0x72
binary_at_i32 Xor = 0x73
binary_at_i32 Shl = 0x74
binary_at_i32 ShrS = 0x75
binary_at_i32 ShrU = 0x76
binary_at_i32 Rotl = 0x77
binary_at_i32 Rotr = 0x78

abbrev pub binary_opcode : ValType → BinaryOp → ℕ
binary_opcode ty op = at_type ty (binary_at_i32 op) 0x12

abbrev pub opcode_of : Kind → ℕ
opcode_of (Block result code end_place) = 0x02
opcode_of (Loop result code end_place) = 0x03
opcode_of (If result code otherwise end_place) = 0x04
opcode_of Unreachable = 0x00
opcode_of Nop = 0x01
opcode_of (Br index) = 0x0C
opcode_of (BrIf index) = 0x0D
opcode_of (BrTable labels default) = 0x0E
opcode_of Return = 0x0F
opcode_of (Call index) = 0x10
opcode_of (CallIndirect index) = 0x11
opcode_of Drop = 0x1A
opcode_of Select = 0x1B
opcode_of (LocalGet index) = 0x20
opcode_of (LocalSet index) = 0x21
opcode_of (LocalTee index) = 0x22
opcode_of (GlobalGet index) = 0x23
opcode_of (GlobalSet index) = 0x24
opcode_of (Load op arg) = load_opcode op
opcode_of (Store op arg) = store_opcode op
opcode_of MemorySize = 0x3F
opcode_of MemoryGrow = 0x40
opcode_of MemoryCopy = 0xFC
opcode_of MemoryFill = 0xFC
opcode_of (I32Const number) = 0x41
opcode_of (I64Const number) = 0x42
opcode_of (Eqz ty) = eqz_opcode ty
opcode_of (Compare ty op) = compare_opcode ty op
opcode_of (Unary ty op) = unary_opcode ty op
opcode_of (Binary ty op) = binary_opcode ty op
opcode_of I32WrapI64 = 0xA7
opcode_of I64ExtendI32S = 0xAC
opcode_of I64ExtendI32U = 0xAD
opcode_of (Extend op) = extend_opcode op

-- ---- rows

-- the immediates, in order
pub data Form : Type 0 where
  nothing : Kind → Form
  an_index : (ℕ → Kind) → Form
  -- an alignment and an offset
  a_mem_arg : (MemArg → Kind) → Form
  -- a vector of labels, and the default label
  labels : (List ℕ → ℕ → Kind) → Form
  -- a type index, and a table index that is 0
  a_type : (ℕ → Kind) → Form
  -- the byte 00
  a_zero : Kind → Form
  an_i32 an_i64 : (ℤ → Kind) → Form
  -- a number that says which instruction it is, and so many bytes 00: see `prefixed`
  a_sub_opcode : Form

-- operands to results; for some instructions the place in the module says more
pub data Typing : Type 0 where
  of_types : (operands results : List ValType) → Typing
  by_rule : Typing

pub record Row : Type 0 where
  pub opcode : ℕ
  pub form : Form
  pub typing : Typing

abbrev pub row : ℕ → Form → Typing → Row
row opcode form typing = record { opcode = opcode; form = form; typing = typing }

-- ---- rows of instructions with an operator, by their opcodes and types

abbrev pub load_row : LoadOp → Row
load_row op = row (load_opcode op) (a_mem_arg (Load op)) (of_types (type.I32 ∷ []) ((load_access op).ty ∷ []))

abbrev pub store_row : StoreOp → Row
store_row op = row (store_opcode op) (a_mem_arg (Store op)) (of_types (type.I32 ∷ (store_access op).ty ∷ []) [])

abbrev eqz_row : ValType → Row
eqz_row ty = row (eqz_opcode ty) (nothing (Eqz ty)) (of_types (ty ∷ []) (type.I32 ∷ []))

abbrev pub compare_row : ValType → CompareOp → Row
compare_row ty op = row (compare_opcode ty op) (nothing (Compare ty op)) (of_types (ty ∷ ty ∷ []) (type.I32 ∷ []))

abbrev pub unary_row : ValType → UnaryOp → Row
unary_row ty op = row (unary_opcode ty op) (nothing (Unary ty op)) (of_types (ty ∷ []) (ty ∷ []))

abbrev pub binary_row : ValType → BinaryOp → Row
binary_row ty op = row (binary_opcode ty op) (nothing (Binary ty op)) (of_types (ty ∷ ty ∷ []) (ty ∷ []))

abbrev pub extend_row : ExtendOp → Row
extend_row op = row (extend_opcode op) (nothing (Extend op)) (of_types (extend_type op ∷ []) (extend_type op ∷ []))

-- the operators of each class, by rising opcodes
abbrev pub loads : List LoadOp
loads =
    I32Load ∷ I64Load ∷ I32Load8S ∷ I32Load8U ∷ I32Load16S ∷ I32Load16U ∷ I64Load8S ∷ I64Load8U ∷ I64Load16S ∷ I64Load16U ∷ I64Load32S
    ∷ I64Load32U ∷ []

abbrev pub stores : List StoreOp
stores = I32Store ∷ I64Store ∷ I32Store8 ∷ I32Store16 ∷ I64Store8 ∷ I64Store16 ∷ I64Store32 ∷ []

abbrev pub comparisons : List CompareOp
comparisons = Eq ∷ Ne ∷ LtS ∷ LtU ∷ GtS ∷ GtU ∷ LeS ∷ LeU ∷ GeS ∷ GeU ∷ []

abbrev pub unaries : List UnaryOp
unaries = Clz ∷ Ctz ∷ Popcnt ∷ []

abbrev pub binaries : List BinaryOp
binaries = Add ∷ Sub ∷ Mul ∷ DivS ∷ DivU ∷ RemS ∷ RemU ∷ And ∷ Or ∷ Xor ∷ Shl ∷ ShrS ∷ ShrU ∷ Rotl ∷ Rotr ∷ []

abbrev pub extensions : List ExtendOp
extensions = I32Extend8S ∷ I32Extend16S ∷ I64Extend8S ∷ I64Extend16S ∷ I64Extend32S ∷ []

-- ---- the table

-- the rows of instructions that are in no class
abbrev own_rows : List Row
own_rows =
    row 0x00 (nothing Unreachable) by_rule
    ∷ row 0x01 (nothing Nop) (of_types [] [])
    ∷ row 0x0C (an_index Br) by_rule
    ∷ row 0x0D (an_index BrIf) by_rule
    ∷ row 0x0E (labels BrTable) by_rule
    ∷ row 0x0F (nothing Return) by_rule
    ∷ row 0x10 (an_index Call) by_rule
    ∷ row 0x11 (a_type CallIndirect) by_rule
    ∷ row 0x1A (nothing Drop) by_rule
    ∷ row 0x1B (nothing Select) by_rule
    ∷ row 0x20 (an_index LocalGet) by_rule
    ∷ row 0x21 (an_index LocalSet) by_rule
    ∷ row 0x22 (an_index LocalTee) by_rule
    ∷ row 0x23 (an_index GlobalGet) by_rule
    ∷ row 0x24 (an_index GlobalSet) by_rule
    ∷ row 0x3F (a_zero MemorySize) (of_types [] (type.I32 ∷ []))
    ∷ row 0x40 (a_zero MemoryGrow) (of_types (type.I32 ∷ []) (type.I32 ∷ []))
    ∷ row 0x41 (an_i32 I32Const) (of_types [] (type.I32 ∷ []))
    ∷ row 0x42 (an_i64 I64Const) (of_types [] (type.I64 ∷ []))
    ∷ row 0xA7 (nothing I32WrapI64) (of_types (type.I64 ∷ []) (type.I32 ∷ []))
    ∷ row 0xAC (nothing I64ExtendI32S) (of_types (type.I32 ∷ []) (type.I64 ∷ []))
    ∷ row 0xAD (nothing I64ExtendI32U) (of_types (type.I32 ∷ []) (type.I64 ∷ []))
    ∷ row 0xFC a_sub_opcode (of_types (type.I32 ∷ type.I32 ∷ type.I32 ∷ []) [])
    ∷ []

abbrev pub groups : List (List Row)
groups =
    own_rows ∷ map load_row loads ∷ map store_row stores ∷ map extend_row extensions
    ∷ (eqz_row type.I32 ∷ map (compare_row type.I32) comparisons) ∷ (eqz_row type.I64 ∷ map (compare_row type.I64) comparisons)
    ∷ map (unary_row type.I32) unaries ∷ map (unary_row type.I64) unaries
    ∷ map (binary_row type.I32) binaries ∷ map (binary_row type.I64) binaries ∷ []

abbrev pub rows : List Row
rows = flat_map (λ group. group) groups

abbrev pub first_row : ℕ → List Row → Option Row
first_row opcode table = find (λ r. r.opcode == opcode) table

abbrev pub row_of : ℕ → Option Row
row_of opcode = first_row opcode rows

-- the instructions whose opcode is the byte FC (Core 2.0, 5.4.6): a row has the sub-opcode, the instruction, and how many bytes
-- 00 stand behind the sub-opcode
pub record Prefixed : Type 0 where
  pub sub_opcode : ℕ
  pub kind : Kind
  pub zeros : ℕ

abbrev prefixed_row : ℕ → Kind → ℕ → Prefixed
prefixed_row sub_opcode kind zeros = record { sub_opcode = sub_opcode; kind = kind; zeros = zeros }

abbrev pub prefixed : List Prefixed
prefixed = prefixed_row 10 MemoryCopy 2 ∷ prefixed_row 11 MemoryFill 1 ∷ []

abbrev pub first_prefixed : ℕ → List Prefixed → Option Prefixed
first_prefixed sub_opcode table = find (λ r. r.sub_opcode == sub_opcode) table

abbrev pub prefixed_of : ℕ → Option Prefixed
prefixed_of sub_opcode = first_prefixed sub_opcode prefixed
