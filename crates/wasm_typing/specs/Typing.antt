-- Typing of instructions and of lists of them (WebAssembly Core 1.0, 3.3; Core 2.0, 3.3.7 for bytes copied and filled). A stack is
-- a list of value types, its top first; the operands and results of a type are written as in the standard, the top last.
use Rattle.std.specs.Prelude.{◌≡◌, ◌≤◌, ◌^◌, Bool, true, List, [], ◌∷◌, ◌++◌, reverse, IsSome, slice_get, Option, Some, None}
use Rattle.std.specs.Prelude.{option_to_list}
use Rattle.std.specs.List.{AllByRecursion}
use Rattle.w2c_base.specs.declared.value.ValType.{ValType}
use Rattle.w2c_base.specs.declared.value.ValType.TheVariants as type
use Rattle.w2c_base.specs.declared.signature.FuncType.{FuncType}
use Rattle.wasm_tree.specs.Instructions.{Code, end_code, then_code, Kind, Otherwise, no_else, else_code, Unreachable, Return, Drop, Select}
use Rattle.wasm_tree.specs.Instructions.{MemorySize, MemoryGrow, MemoryCopy, MemoryFill, Block, Loop, If, Br, BrIf, BrTable, Call}
use Rattle.wasm_tree.specs.Instructions.{CallIndirect, LocalGet, LocalSet, LocalTee, GlobalGet, GlobalSet, Load, Store}
use Rattle.wasm_tree.specs.InstructionTable.{Typing, of_types, by_rule, Row, row_of, opcode_of}
use Rattle.wasm_tree.specs.Accesses.{load_width, store_width}
use Rattle.wasm_typing.specs.Context.{Context, Labels}

abbrev pub Stack : Type 0
Stack = List ValType

-- no value, or one
abbrev pub values : Option ValType → List ValType
values result = option_to_list result

-- of type [operands] → [results]: the rest of the stack is left alone (3.3.6)
abbrev pub Turns : List ValType → List ValType → Stack → Stack → Type 0
Turns operands results old new = (rest : Stack) × (old ≡ reverse operands ++ rest) × (new ≡ reverse results ++ rest)

-- of type [t* operands] → [u*] for any t* and u*: what does not go on
abbrev pub Leaves : List ValType → Stack → Stack → Type 0
Leaves operands old new = (rest : Stack) × (old ≡ reverse operands ++ rest)

-- the type that an instruction has in the table of instructions
abbrev pub typing_in : Option Row → Typing
typing_in None = by_rule
typing_in (Some row) = row.typing

abbrev pub table_type : Kind → Typing
table_type kind = typing_in (row_of (opcode_of kind))

abbrev pub TurnsAsTabled : Typing → Stack → Stack → Type 0
TurnsAsTabled (of_types operands results) old new = Turns operands results old new
TurnsAsTabled by_rule old new = ⊥

-- there is a memory, or a table
abbrev pub HasMemory : Context → Type 0
HasMemory c = IsSome (slice_get c.memories 0)

abbrev pub HasTable : Context → Type 0
HasTable c = IsSome (slice_get c.tables 0)

abbrev mutual
  -- lists of instructions (3.3.6): the end leaves the stack, and an instruction joins where the stacks agree
  pub HasType : Context → Labels → Code → Stack → Stack → Type 0
  HasType c labels end_code old new = old ≡ new
  HasType c labels (then_code place kind code) old new =
      (middle : Stack) × KindHasType c labels kind old middle × HasType c labels code middle new

  pub KindHasType : Context → Labels → Kind → Stack → Stack → Type 0
  -- parametric instructions (3.3.2)
  KindHasType c labels Drop old new = (t : ValType) × Turns (t ∷ []) [] old new
  KindHasType c labels Select old new = (t : ValType) × Turns (t ∷ t ∷ type.I32 ∷ []) (t ∷ []) old new
  -- variable instructions (3.3.3)
  KindHasType c labels (LocalGet index) old new = (t : ValType) × (slice_get c.locals index ≡ Some t) × Turns [] (t ∷ []) old new
  KindHasType c labels (LocalSet index) old new = (t : ValType) × (slice_get c.locals index ≡ Some t) × Turns (t ∷ []) [] old new
  KindHasType c labels (LocalTee index) old new = (t : ValType) × (slice_get c.locals index ≡ Some t) × Turns (t ∷ []) (t ∷ []) old new
  KindHasType c labels (GlobalGet index) old new =
      (t : ValType) × (mutable : Bool) × (slice_get c.globals index ≡ Some (t, mutable)) × Turns [] (t ∷ []) old new
  KindHasType c labels (GlobalSet index) old new = (t : ValType) × (slice_get c.globals index ≡ Some (t, true)) × Turns (t ∷ []) [] old new
  -- memory instructions (3.3.4): the alignment is not larger than the access
  KindHasType c labels (Load op arg) old new =
      HasMemory c × (2 ^ arg.align ≤ load_width op) × TurnsAsTabled (table_type (Load op arg)) old new
  KindHasType c labels (Store op arg) old new =
      HasMemory c × (2 ^ arg.align ≤ store_width op) × TurnsAsTabled (table_type (Store op arg)) old new
  KindHasType c labels MemorySize old new = HasMemory c × TurnsAsTabled (table_type MemorySize) old new
  KindHasType c labels MemoryGrow old new = HasMemory c × TurnsAsTabled (table_type MemoryGrow) old new
  KindHasType c labels MemoryCopy old new = HasMemory c × TurnsAsTabled (table_type MemoryCopy) old new
  KindHasType c labels MemoryFill old new = HasMemory c × TurnsAsTabled (table_type MemoryFill) old new
  -- control instructions (3.3.5). Code inside an instruction goes from the empty stack to the block's result; the label
  -- of a loop carries no value, that of another block its result
  KindHasType c labels Unreachable old new = Leaves [] old new
  KindHasType c labels (Block t code end_place) old new = HasType c (t ∷ labels) code [] (values t) × Turns [] (values t) old new
  KindHasType c labels (Loop t code end_place) old new = HasType c (None ∷ labels) code [] (values t) × Turns [] (values t) old new
  KindHasType c labels (If t code otherwise end_place) old new =
      HasType c (t ∷ labels) code [] (values t) × ElseHasType c (t ∷ labels) otherwise t × Turns (type.I32 ∷ []) (values t) old new
  KindHasType c labels (Br label) old new = (t : Option ValType) × (slice_get labels label ≡ Some t) × Leaves (values t) old new
  KindHasType c labels (BrIf label) old new =
      (t : Option ValType) × (slice_get labels label ≡ Some t) × Turns (values t ++ type.I32 ∷ []) (values t) old new
  KindHasType c labels (BrTable others label) old new =
      (t : Option ValType) × (slice_get labels label ≡ Some t) × AllByRecursion (λ other. slice_get labels other ≡ Some t) others
      × Leaves (values t ++ type.I32 ∷ []) old new
  KindHasType c labels Return old new = Leaves (values c.result) old new
  KindHasType c labels (Call index) old new =
      (ty : FuncType) × (slice_get c.funcs index ≡ Some (Some ty)) × Turns ty.params (values ty.result) old new
  KindHasType c labels (CallIndirect type_index) old new =
      (ty : FuncType) × (slice_get c.types type_index ≡ Some ty) × HasTable c
      × Turns (ty.params ++ type.I32 ∷ []) (values ty.result) old new
  -- numeric instructions (3.3.1) and `nop` (3.3.5): by their row
  KindHasType c labels kind old new = TurnsAsTabled (table_type kind) old new

  -- the second branch of an `if`. Without one there is no result
  pub ElseHasType : Context → Labels → Otherwise → Option ValType → Type 0
  ElseHasType c labels no_else t = t ≡ None
  ElseHasType c labels (else_code place code) t = HasType c labels code [] (values t)

-- a body goes from the empty stack to the function's result, which its own label carries too (3.3.7, 3.4.1)
abbrev pub BodyHasType : Context → Code → Type 0
BodyHasType c code = HasType c (c.result ∷ []) code [] (values c.result)
