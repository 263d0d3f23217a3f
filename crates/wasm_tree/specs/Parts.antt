-- Instructions by their parts, as the program sees them: an operator with its immediates (WebAssembly Core 1.0, 2.4).
use Rattle.std.specs.Prelude.{◌≡◌, ℕ}
use Rattle.wasm_tree.specs.declared.code.MemArg.{MemArg}
use Rattle.wasm_tree.specs.declared.operators.Simple.{Simple}
use Rattle.wasm_tree.specs.declared.operators.Simple.TheVariants as simple
use Rattle.wasm_tree.specs.declared.operators.IndexOp.{IndexOp}
use Rattle.wasm_tree.specs.declared.operators.IndexOp.TheVariants as index
use Rattle.wasm_tree.specs.declared.operators.AccessOp.{AccessOp}
use Rattle.wasm_tree.specs.declared.operators.AccessOp.TheVariants as access
use Rattle.wasm_tree.specs.declared.operators.Numeric.{Numeric}
use Rattle.wasm_tree.specs.declared.operators.Numeric.TheVariants as numeric
use Rattle.wasm_tree.specs.declared.operators.Parts.{Parts}
use Rattle.wasm_tree.specs.declared.operators.Parts.TheVariants as parts
use Rattle.wasm_tree.specs.declared.opcodes.Op.{Op}
use Rattle.wasm_tree.specs.declared.opcodes.Op.TheVariants as op
use Rattle.wasm_tree.specs.Instructions as tree
use Rattle.wasm_tree.specs.Instructions.{Kind}
use Rattle.wasm_tree.specs.InstructionTable.{load_opcode, opcode_of, store_opcode}

abbrev pub simple_tree : Simple → Kind
simple_tree simple.Unreachable = tree.Unreachable
simple_tree simple.Nop = tree.Nop
simple_tree simple.Return = tree.Return
simple_tree simple.Drop = tree.Drop
simple_tree simple.Select = tree.Select

abbrev pub index_tree : IndexOp → ℕ → Kind
index_tree index.Br n = tree.Br n
index_tree index.BrIf n = tree.BrIf n
index_tree index.Call n = tree.Call n
index_tree index.LocalGet n = tree.LocalGet n
index_tree index.LocalSet n = tree.LocalSet n
index_tree index.LocalTee n = tree.LocalTee n
index_tree index.GlobalGet n = tree.GlobalGet n
index_tree index.GlobalSet n = tree.GlobalSet n

abbrev pub access_tree : AccessOp → MemArg → Kind
access_tree (access.Load op) arg = tree.Load op arg
access_tree (access.Store op) arg = tree.Store op arg

abbrev pub numeric_tree : Numeric → Kind
numeric_tree (numeric.Eqz ty) = tree.Eqz ty
numeric_tree (numeric.Compare ty op) = tree.Compare ty op
numeric_tree (numeric.Unary ty op) = tree.Unary ty op
numeric_tree (numeric.Binary ty op) = tree.Binary ty op
numeric_tree numeric.I32WrapI64 = tree.I32WrapI64
numeric_tree numeric.I64ExtendI32S = tree.I64ExtendI32S
numeric_tree numeric.I64ExtendI32U = tree.I64ExtendI32U
numeric_tree (numeric.Extend op) = tree.Extend op

abbrev pub parts_of : Kind → Parts
parts_of tree.Unreachable = parts.Simple simple.Unreachable
parts_of tree.Nop = parts.Simple simple.Nop
parts_of tree.Return = parts.Simple simple.Return
parts_of tree.Drop = parts.Simple simple.Drop
parts_of tree.Select = parts.Simple simple.Select
parts_of (tree.Br n) = parts.Index index.Br n
parts_of (tree.BrIf n) = parts.Index index.BrIf n
parts_of (tree.Call n) = parts.Index index.Call n
parts_of (tree.LocalGet n) = parts.Index index.LocalGet n
parts_of (tree.LocalSet n) = parts.Index index.LocalSet n
parts_of (tree.LocalTee n) = parts.Index index.LocalTee n
parts_of (tree.GlobalGet n) = parts.Index index.GlobalGet n
parts_of (tree.GlobalSet n) = parts.Index index.GlobalSet n
parts_of (tree.Load op arg) = parts.Access (access.Load op) arg
parts_of (tree.Store op arg) = parts.Access (access.Store op) arg
parts_of (tree.Eqz ty) = parts.Numeric (numeric.Eqz ty)
parts_of (tree.Compare ty op) = parts.Numeric (numeric.Compare ty op)
parts_of (tree.Unary ty op) = parts.Numeric (numeric.Unary ty op)
parts_of (tree.Binary ty op) = parts.Numeric (numeric.Binary ty op)
parts_of tree.I32WrapI64 = parts.Numeric numeric.I32WrapI64
parts_of tree.I64ExtendI32S = parts.Numeric numeric.I64ExtendI32S
parts_of tree.I64ExtendI32U = parts.Numeric numeric.I64ExtendI32U
parts_of (tree.Extend op) = parts.Numeric (numeric.Extend op)
parts_of kind = parts.Other

-- the opcode of an operator, whatever its immediates are
abbrev pub simple_opcode : Simple → ℕ
simple_opcode o = opcode_of (simple_tree o)

abbrev pub index_opcode : IndexOp → ℕ
index_opcode o = opcode_of (index_tree o 0)

abbrev pub access_opcode : AccessOp → ℕ
access_opcode (access.Load o) = load_opcode o
access_opcode (access.Store o) = store_opcode o

abbrev pub numeric_opcode : Numeric → ℕ
numeric_opcode o = opcode_of (numeric_tree o)

abbrev pub op_opcode : Op → ℕ
op_opcode (op.Simple o) = simple_opcode o
op_opcode (op.Index o) = index_opcode o
op_opcode (op.Access o) = access_opcode o
op_opcode (op.Numeric o) = numeric_opcode o

-- it is the opcode of an operator
abbrev pub HasOp : ℕ → Type 0
HasOp opcode = (o : Op) × (op_opcode o ≡ opcode)
