-- The store of a linked set: what each module defines, as far as it is made, and what code reads
-- and changes of it (WebAssembly Core 1.0, 4.2.3 to 4.2.9).
use Rattle.std.specs.Prelude.{ℕ, ◌+◌, ◌*◌, ◌/◌, if◌then◌else◌, nat_le, min, List, [], ◌++◌, length, replicate, slice_get, slice_set, Option}
use Rattle.std.specs.Prelude.{Some, None, unwrap_or}
use Rattle.w2c_base.specs.declared.value.Value.{Value}
use Rattle.w2c_base.specs.Lookup.{if_found}
use Rattle.w2c_base.specs.Run.{Trail}
use Rattle.wasm_meaning.specs.LinkedSet.{FuncAddress, GlobalAddress}

-- a maximum is in pages of 65,536 bytes
pub record Memory : Type 0 where
  pub bytes : List ℕ
  pub max : Option ℕ

pub record Table : Type 0 where
  pub elements : List (Option FuncAddress)
  pub max : Option ℕ

-- what one module defines
pub record Objects : Type 0 where
  pub memory : Option Memory
  pub table : Option Table
  pub globals : List Value

-- the objects of each module of a set, in order
abbrev pub Store : Type 0
Store = List Objects

-- before a module is begun
abbrev pub no_objects : Objects
no_objects = record { memory = None; table = None; globals = [] }

-- what code changes besides its operands: the locals of its frame, the store, and the trail
pub record State : Type 0 where
  pub locals : List Value
  pub store : Store
  pub trail : Trail

-- the store with the objects of one module changed
abbrev pub with_objects : Store → ℕ → (Objects → Objects) → Store
with_objects store owner change = elim (slice_get store owner) [ None ↦ store | Some o ↦ slice_set store owner (change o) ]

abbrev pub memory_in : Store → ℕ → Option Memory
memory_in store owner = if_found (slice_get store owner) (λ o. o.memory)

abbrev pub with_memory : Store → ℕ → Memory → Store
with_memory store owner m = with_objects store owner (λ o. record o { memory = Some m })

abbrev pub table_in : Store → ℕ → Option Table
table_in store owner = if_found (slice_get store owner) (λ o. o.table)

abbrev pub with_table : Store → ℕ → Table → Store
with_table store owner t = with_objects store owner (λ o. record o { table = Some t })

abbrev pub global_in : Store → GlobalAddress → Option Value
global_in store g = if_found (slice_get store g.owner) (λ o. slice_get o.globals g.number)

abbrev pub with_global : Store → GlobalAddress → Value → Store
with_global store g v = with_objects store g.owner (λ o. record o { globals = slice_set o.globals g.number v })

abbrev pub pages : Memory → ℕ
pages m = length m.bytes / 65536

-- a memory of so many pages of zero bytes, and a table of so many empty elements
abbrev pub new_memory : ℕ → Option ℕ → Memory
new_memory count max = record { bytes = replicate (count * 65536) 0; max = max }

abbrev pub new_table : ℕ → Option ℕ → Table
new_table count max = record { elements = replicate count None; max = max }

-- a memory with more pages of zero bytes, or none where its maximum or 16,384 would be passed
abbrev pub grown : Memory → ℕ → Option Memory
grown m more =
    if nat_le (pages m + more) (min (unwrap_or m.max 16384) 16384)
    then Some (record m { bytes = m.bytes ++ replicate (more * 65536) 0 }) else None
