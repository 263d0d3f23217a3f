-- That a helper does what its instruction does (WebAssembly Core 1.0, 4.3.2, 4.4.4 memory instructions and
-- 4.4.5 call_indirect; Core 2.0, 4.4.7 memory.copy and memory.fill).
use Rattle.std.specs.Prelude.{◌≡◌, ◌≢◌, ℕ, suc, ◌+◌, ◌*◌, ◌/◌, ◌^◌, ◌==◌, ◌<◌, ◌≤◌, if◌then◌else◌, List, [], ◌∷◌, length, slice_get, Option}
use Rattle.std.specs.Prelude.{Some, None}
use Rattle.std.specs.List.{AllByRecursion}
use Rattle.w2c_base.specs.declared.trap.TrapKind.TheVariants.{MemoryOut, TableOut, Empty, Signature}
use Rattle.w2c_base.specs.declared.value.ValType.{ValType}
use Rattle.w2c_base.specs.declared.value.ValType.TheVariants as type
use Rattle.w2c_base.specs.Values.{bits, value}
use Rattle.wasm_tree.specs.declared.operators.LoadOp.{LoadOp}
use Rattle.wasm_tree.specs.declared.operators.StoreOp.{StoreOp}
use Rattle.wasm_tree.specs.Accesses.{load_access, store_access}
use Rattle.wasm_meaning.specs.Operators.{Answer, Gives, Traps, truth, extend_s, unary, binary, compare}
use Rattle.wasm_meaning.specs.Memories.{load_number, store_number, copy_bytes, fill_bytes}
use Rattle.c_tree.specs.Tree as tree
use Rattle.c_meaning.specs.State.{ObjectAddress, CValue, Number, Pointer, FuncPointer, Memory, Element, Table, Machine}
use Rattle.c_meaning.specs.Machine.{memory_in, with_memory, table_in}
use Rattle.c_meaning.specs.Primitives.{with_content}
use Rattle.c_helpers.specs.declared.operation.Helper.{Helper}
use Rattle.c_helpers.specs.declared.operation.Helper.TheVariants as helper
use Rattle.c_helpers.specs.Rows.{Operator, Unary, Binary, Compare, ExtendI32S, Extend, operator_of, row_of}
use Rattle.c_prelude.specs.Calls.{CallEnd, GivesBack, TrapsWith, CallComesTo, CallComesBetween}

-- a number of a type as a value of C
abbrev pub number : ValType → ℕ → CValue
number t n = Number (value t n)

-- a call that gives what an operator gives, or traps as it does, and changes nothing
abbrev pub answered : Machine → ValType → Answer → CallEnd
answered m t (Gives n) = GivesBack m (Some (number t n))
answered m t (Traps kind) = TrapsWith m kind

-- ---- operators on numbers of a type

abbrev pub DoesOperator : tree.Func → ValType → Operator → Type 0
DoesOperator f t (Unary op) = (m : Machine) (x : ℕ) → x < 2 ^ bits t
    → CallComesTo 390 f (number t x ∷ []) m (answered m t (Gives (unary op (bits t) x)))
DoesOperator f t (Binary op) = (m : Machine) (x y : ℕ) → x < 2 ^ bits t → y < 2 ^ bits t
    → CallComesTo 390 f (number t x ∷ number t y ∷ []) m (answered m t (binary op (bits t) x y))
DoesOperator f t (Compare op) = (m : Machine) (x y : ℕ) → x < 2 ^ bits t → y < 2 ^ bits t
    → CallComesTo 390 f (number t x ∷ number t y ∷ []) m (answered m type.I32 (Gives (truth (compare op (bits t) x y))))
DoesOperator f t ExtendI32S = (m : Machine) (x : ℕ) → x < 2 ^ 32
    → CallComesTo 390 f (number type.I32 x ∷ []) m (answered m t (Gives (extend_s 32 64 x)))
DoesOperator f t (Extend width) = (m : Machine) (x : ℕ) → x < 2 ^ bits t
    → CallComesTo 390 f (number t x ∷ []) m (answered m t (Gives (extend_s width (bits t) x)))

-- ---- memories

abbrev pub DoesLoad : tree.Func → LoadOp → Type 0
DoesLoad f op = (m : Machine) (a : ObjectAddress) (memory : Memory) → memory_in m a ≡ Some memory
    → (base offset : ℕ) → base < 2 ^ 32 → offset < 2 ^ 32
    → CallComesTo 390 f (Pointer (Some a) ∷ number type.I32 base ∷ number type.I32 offset ∷ []) m
    (answered m (load_access op).ty (load_number op memory.bytes (base + offset)))

-- the memory has other bytes and nothing else is changed, or the store trapped
abbrev pub stored : Machine → ObjectAddress → Memory → Option (List ℕ) → CallEnd
stored m a memory None = TrapsWith m MemoryOut
stored m a memory (Some bytes) = GivesBack (with_memory m a (with_content memory bytes)) None

abbrev pub DoesStore : tree.Func → StoreOp → Type 0
DoesStore f op = (m : Machine) (a : ObjectAddress) (memory : Memory) → memory_in m a ≡ Some memory
    → (base offset n : ℕ) → base < 2 ^ 32 → offset < 2 ^ 32
    → CallComesTo 390 f (Pointer (Some a) ∷ number type.I32 base ∷ number type.I32 offset ∷ number (store_access op).ty n ∷ []) m
    (stored m a memory (store_number op memory.bytes (base + offset) n))

-- The memory has other bytes and nothing else is changed, after more statements than so many bytes and at most 20 more for
-- each; or the call trapped.
abbrev pub ComesToBytes : tree.Func → List CValue → Machine → ObjectAddress → Memory → ℕ → Option (List ℕ) → Type 0
ComesToBytes f args m a memory count None = CallComesTo 390 f args m (TrapsWith m MemoryOut)
ComesToBytes f args m a memory count (Some bytes) =
    CallComesBetween (suc count) (390 + 20 * count) f args m (stored m a memory (Some bytes))

-- the memory holds bytes, and they come to others by three numbers: where to write, where to read or what to write, and how many
abbrev pub DoesBytes : tree.Func → (List ℕ → ℕ → ℕ → ℕ → Option (List ℕ)) → Type 0
DoesBytes f change = (m : Machine) (a : ObjectAddress) (memory : Memory) → memory_in m a ≡ Some memory
    → AllByRecursion (λ b. b < 256) memory.bytes
    → (to second count : ℕ) → to < 2 ^ 32 → second < 2 ^ 32 → count < 2 ^ 32
    → ComesToBytes f (Pointer (Some a) ∷ number type.I32 to ∷ number type.I32 second ∷ number type.I32 count ∷ []) m a memory count
    (change memory.bytes to second count)

abbrev pub DoesCopy : tree.Func → Type 0
DoesCopy f = DoesBytes f copy_bytes

abbrev pub DoesFill : tree.Func → Type 0
DoesFill f = DoesBytes f fill_bytes

-- the number of pages of a memory, which has at most 16,384
abbrev pub DoesSize : tree.Func → Type 0
DoesSize f = (m : Machine) (a : ObjectAddress) (memory : Memory) → memory_in m a ≡ Some memory
    → length memory.bytes ≤ 16384 * 65536
    → CallComesTo 390 f (Pointer (Some a) ∷ []) m (GivesBack m (Some (number type.I32 (length memory.bytes / 65536))))

-- ---- tables

-- no element that is filled has the signature number 0
abbrev pub IsSigned : Table → Type 0
IsSigned table = (i : ℕ) (e : Element) → slice_get table.elements i ≡ Some (Some e) → e.signature ≢ 0

-- the function of what stands at an index, where it is there, filled, and of this signature
abbrev pub element_found : Machine → Option (Option Element) → ℕ → CallEnd
element_found m None signature = TrapsWith m TableOut
element_found m (Some None) signature = TrapsWith m Empty
element_found m (Some (Some e)) signature =
    if e.signature == signature then GivesBack m (Some (FuncPointer (Some e.func))) else TrapsWith m Signature

abbrev pub DoesElement : tree.Func → Type 0
DoesElement f = (m : Machine) (a : ObjectAddress) (table : Table) → table_in m a ≡ Some table → IsSigned table
    → (index signature : ℕ)
    → CallComesTo 100 f (Pointer (Some a) ∷ number type.I32 index ∷ number type.I64 signature ∷ []) m
    (element_found m (slice_get table.elements index) signature)

-- ---- all helpers

-- The function does what the helper's instruction does.
abbrev pub DoesItsInstruction : Helper → tree.Func → Type 0
DoesItsInstruction (helper.Num op) f = DoesOperator f (row_of op).ty (operator_of (row_of op).form)
DoesItsInstruction (helper.Load op) f = DoesLoad f op
DoesItsInstruction (helper.Store op) f = DoesStore f op
DoesItsInstruction helper.Size f = DoesSize f
DoesItsInstruction helper.Element f = DoesElement f
DoesItsInstruction helper.Copy f = DoesCopy f
DoesItsInstruction helper.Fill f = DoesFill f
