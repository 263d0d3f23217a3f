-- The primitives of the runtime that units call (C11, 6.5.2.2 function calls). Where several
-- undefined kinds hold of one call, the least is the one.
use Rattle.std.specs.Prelude.{ℕ, ◌+◌, ◌*◌, ◌/◌, ◌==◌, ◌||◌, true, if◌then◌else◌, nat_lt, nat_le, min, List, [], ◌∷◌, ◌++◌, length}
use Rattle.std.specs.Prelude.{replicate, find, codes, slice_get, slice_set, Option, Some, None, option_map}
use Rattle.w2c_base.specs.declared.value.ValType.{ValType}
use Rattle.w2c_base.specs.declared.value.ValType.TheVariants as type
use Rattle.w2c_base.specs.declared.value.Value.{Value}
use Rattle.w2c_base.specs.declared.value.Value.TheVariants.{I32, I64}
use Rattle.w2c_base.specs.declared.trap.TrapKind.{TrapKind}
use Rattle.w2c_base.specs.declared.trap.TrapKind.TheVariants.{Unreachable, MemoryOut, DivByZero, IntOverflow, TableOut, Empty, Signature}
use Rattle.w2c_base.specs.declared.trap.TrapKind.TheVariants.{Exhaustion, ImportLimits, SegmentOut, HostTrap}
use Rattle.w2c_base.specs.Trap.{code_of}
use Rattle.w2c_base.specs.Values.{value, number_of, type_of, equal_type}
use Rattle.w2c_base.specs.LittleEndian.{little_endian, low_bytes, bytes_at, with_bytes}
use Rattle.w2c_base.specs.Lookup.{named}
use Rattle.c_meaning.specs.State.{Name, FuncAddress, ObjectAddress, CValue, Number, Pointer, FuncPointer, Memory, Element, Table, Machine}
use Rattle.c_meaning.specs.Machine.{memory_in, with_memory, table_in, with_table}

-- what a primitive does
pub data Effect : Type 0 where
  Gives : (machine : Machine) → (value : Option CValue) → Effect
  Traps : (kind : TrapKind) → Effect
  IsUndefined : (kind : ℕ) → Effect
  NoEffect : Effect

abbrev pub trap_kinds : List TrapKind
trap_kinds = Unreachable ∷ MemoryOut ∷ DivByZero ∷ IntOverflow ∷ TableOut ∷ Empty
    ∷ Signature ∷ Exhaustion ∷ ImportLimits ∷ SegmentOut ∷ HostTrap ∷ []

abbrev pub trap : List CValue → Machine → Effect
trap (Number (I32 code) ∷ []) m =
    elim (find (λ kind. code_of kind == code) trap_kinds) [ None ↦ IsUndefined 8 | Some kind ↦ Traps kind ]
trap _ m = NoEffect

abbrev pub gives : Machine → Value → Effect
gives m v = Gives m (Some (Number v))

-- on the memory, or the table, that a pointer points to
abbrev pub on_memory : CValue → Machine → (ObjectAddress → Memory → Effect) → Effect
on_memory (Pointer None) m go = IsUndefined 4
on_memory (Pointer (Some a)) m go = elim (memory_in m a) [ None ↦ NoEffect | Some memory ↦ go a memory ]
on_memory _ m go = NoEffect

abbrev pub on_table : CValue → Machine → (ObjectAddress → Table → Effect) → Effect
on_table (Pointer None) m go = IsUndefined 4
on_table (Pointer (Some a)) m go = elim (table_in m a) [ None ↦ NoEffect | Some table ↦ go a table ]
on_table _ m go = NoEffect

abbrev pub mem_new : List CValue → Machine → Effect
mem_new (pointer ∷ Number (I32 least) ∷ Number (I64 most) ∷ []) m = on_memory pointer m (λ a memory.
    if memory.is_made || nat_lt 16384 least || nat_lt 4294967296 most
    then IsUndefined 8
    else Gives (with_memory m a (record { is_made = true; bytes = replicate (least * 65536) 0; max = most })) None)
mem_new _ m = NoEffect

abbrev pub mem_len : List CValue → Machine → Effect
mem_len (pointer ∷ []) m = on_memory pointer m (λ a memory. gives m (I64 (length memory.bytes)))
mem_len _ m = NoEffect

abbrev pub mem_max : List CValue → Machine → Effect
mem_max (pointer ∷ []) m = on_memory pointer m (λ a memory. gives m (I64 memory.max))
mem_max _ m = NoEffect

-- the memory with other bytes
abbrev pub with_content : Memory → List ℕ → Memory
with_content memory bytes = record memory { bytes = bytes }

-- the old number of pages, or 4294967295 where the maximum or 16,384 would be passed
abbrev pub mem_grow : List CValue → Machine → Effect
mem_grow (pointer ∷ Number (I32 more) ∷ []) m = on_memory pointer m (λ a memory.
    let old = length memory.bytes / 65536 in
    if nat_le (old + more) (min memory.max 16384)
    then gives (with_memory m a (with_content memory (memory.bytes ++ replicate (more * 65536) 0))) (I32 old)
    else gives m (I32 4294967295))
mem_grow _ m = NoEffect

-- a number of so many little-endian bytes
abbrev pub get : ℕ → ValType → List CValue → Machine → Effect
get width t (pointer ∷ Number (I64 place) ∷ []) m = on_memory pointer m (λ a memory.
    if nat_le (place + width) (length memory.bytes)
    then gives m (value t (little_endian (bytes_at memory.bytes place width)))
    else IsUndefined 6)
get width t _ m = NoEffect

-- the low bytes of a number are put at a place
abbrev pub put_at : ℕ → ℕ → ℕ → Machine → ObjectAddress → Memory → Effect
put_at width place n m a memory =
    if nat_le (place + width) (length memory.bytes)
    then Gives (with_memory m a (with_content memory (with_bytes memory.bytes place (low_bytes width n)))) None
    else IsUndefined 6

abbrev pub put : ℕ → ValType → List CValue → Machine → Effect
put width t (pointer ∷ Number (I64 place) ∷ Number v ∷ []) m =
    if equal_type t (type_of v) then on_memory pointer m (put_at width place (number_of v) m) else NoEffect
put width t _ m = NoEffect

abbrev pub tab_new : List CValue → Machine → Effect
tab_new (pointer ∷ Number (I32 count) ∷ Number (I64 most) ∷ []) m = on_table pointer m (λ a table.
    if table.is_made || nat_lt 1000000 count
    then IsUndefined 8
    else Gives (with_table m a (record { is_made = true; elements = replicate count None; max = most })) None)
tab_new _ m = NoEffect

abbrev pub tab_len : List CValue → Machine → Effect
tab_len (pointer ∷ []) m = on_table pointer m (λ a table. gives m (I64 (length table.elements)))
tab_len _ m = NoEffect

abbrev pub tab_max : List CValue → Machine → Effect
tab_max (pointer ∷ []) m = on_table pointer m (λ a table. gives m (I64 table.max))
tab_max _ m = NoEffect

abbrev pub tab_sig : List CValue → Machine → Effect
tab_sig (pointer ∷ Number (I64 place) ∷ []) m = on_table pointer m (λ a table. elim (slice_get table.elements place) [
  | None ↦ IsUndefined 7
  | Some element ↦ elim element [ None ↦ gives m (I64 0) | Some e ↦ gives m (I64 e.signature) ]
])
tab_sig _ m = NoEffect

abbrev pub tab_fn : List CValue → Machine → Effect
tab_fn (pointer ∷ Number (I64 place) ∷ []) m = on_table pointer m (λ a table. elim (slice_get table.elements place) [
  | None ↦ IsUndefined 7
  | Some element ↦ Gives m (Some (FuncPointer (option_map (λ e. e.func) element)))
])
tab_fn _ m = NoEffect

-- the table with another element
abbrev pub with_element : Table → ℕ → Element → Table
with_element table place e = record table { elements = slice_set table.elements place (Some e) }

abbrev pub set_element : Machine → ObjectAddress → Table → ℕ → FuncAddress → ℕ → Effect
set_element m a table place f signature = elim (slice_get table.elements place) [
  | None ↦ IsUndefined 7
  | Some old ↦
      if signature == 0 then IsUndefined 8
      else Gives (with_table m a (with_element table place (record { func = f; signature = signature }))) None
]

abbrev pub tab_set : List CValue → Machine → Effect
tab_set (pointer ∷ Number (I64 place) ∷ FuncPointer func ∷ Number (I64 signature) ∷ []) m =
    on_table pointer m (λ a table. elim func [ None ↦ IsUndefined 4 | Some f ↦ set_element m a table place f signature ])
tab_set _ m = NoEffect

abbrev pub primitives : List (Name × (List CValue → Machine → Effect))
primitives =
    (codes "w2c_trap", trap) ∷ (codes "w2c_mem_new", mem_new) ∷ (codes "w2c_mem_len", mem_len) ∷ (codes "w2c_mem_max", mem_max)
    ∷ (codes "w2c_mem_grow", mem_grow) ∷ (codes "w2c_get1", get 1 type.I32) ∷ (codes "w2c_get2", get 2 type.I32)
    ∷ (codes "w2c_get4", get 4 type.I32) ∷ (codes "w2c_get8", get 8 type.I64) ∷ (codes "w2c_put1", put 1 type.I32)
    ∷ (codes "w2c_put2", put 2 type.I32) ∷ (codes "w2c_put4", put 4 type.I32) ∷ (codes "w2c_put8", put 8 type.I64)
    ∷ (codes "w2c_tab_new", tab_new) ∷ (codes "w2c_tab_len", tab_len) ∷ (codes "w2c_tab_max", tab_max) ∷ (codes "w2c_tab_sig", tab_sig)
    ∷ (codes "w2c_tab_fn", tab_fn) ∷ (codes "w2c_tab_set", tab_set) ∷ []

-- the primitive of this name
abbrev pub primitive : Name → Option (List CValue → Machine → Effect)
primitive name = named name primitives
