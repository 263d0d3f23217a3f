-- Instructions as trees without where they lie in memory (WebAssembly Core 1.0, 2.4; Core 2.0 for the extensions of the low
-- bits of a number, `memory.copy` and `memory.fill`).
-- A place is a byte offset in the file.
use Rattle.std.specs.Prelude.{ℕ, ℤ, List, Option}
use Rattle.w2c_base.specs.declared.value.ValType.{ValType}
use Rattle.wasm_tree.specs.declared.code.MemArg.{MemArg}
use Rattle.wasm_tree.specs.declared.operators.UnaryOp.{UnaryOp}
use Rattle.wasm_tree.specs.declared.operators.BinaryOp.{BinaryOp}
use Rattle.wasm_tree.specs.declared.operators.CompareOp.{CompareOp}
use Rattle.wasm_tree.specs.declared.operators.LoadOp.{LoadOp}
use Rattle.wasm_tree.specs.declared.operators.StoreOp.{StoreOp}
use Rattle.wasm_tree.specs.declared.operators.ExtendOp.{ExtendOp}

mutual
  -- instructions in order, each with the place of its opcode
  pub data Code : Type 0 where
    end_code : Code
    then_code : (place : ℕ) → Kind → Code → Code

  -- what an instruction is, with its immediates
  pub data Kind : Type 0 where
    Unreachable Nop Return Drop Select MemorySize MemoryGrow MemoryCopy MemoryFill : Kind
    Block Loop : (result : Option ValType) → (code : Code) → (end_place : ℕ) → Kind
    If : (result : Option ValType) → (code : Code) → (otherwise : Otherwise) → (end_place : ℕ) → Kind
    Br BrIf : (label : ℕ) → Kind
    BrTable : (labels : List ℕ) → (default : ℕ) → Kind
    Call : (func : ℕ) → Kind
    CallIndirect : (type_index : ℕ) → Kind
    LocalGet LocalSet LocalTee GlobalGet GlobalSet : (index : ℕ) → Kind
    Load : LoadOp → MemArg → Kind
    Store : StoreOp → MemArg → Kind
    I32Const I64Const : (number : ℤ) → Kind
    Eqz : ValType → Kind
    Compare : ValType → CompareOp → Kind
    Unary : ValType → UnaryOp → Kind
    Binary : ValType → BinaryOp → Kind
    I32WrapI64 I64ExtendI32S I64ExtendI32U : Kind
    Extend : ExtendOp → Kind

  -- the second branch of an `if`
  pub data Otherwise : Type 0 where
    no_else : Otherwise
    else_code : (place : ℕ) → (code : Code) → Otherwise
