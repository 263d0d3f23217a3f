-- Loads and stores on the bytes of a memory (WebAssembly Core 1.0, 4.4.4), where the address is base plus offset as
-- unbounded numbers; and bytes copied and filled (Core 2.0, 4.4.7).
use Rattle.std.specs.Prelude.{ℕ, ◌+◌, ◌*◌, ◌%◌, ◌&&◌, if◌then◌else◌, nat_le, List, length, replicate, Option, Some, None}
use Rattle.w2c_base.specs.declared.trap.TrapKind.TheVariants.{MemoryOut}
use Rattle.w2c_base.specs.Values.{bits}
use Rattle.w2c_base.specs.LittleEndian.{little_endian, low_bytes, bytes_at, with_bytes}
use Rattle.wasm_tree.specs.declared.operators.LoadOp.{LoadOp}
use Rattle.wasm_tree.specs.declared.operators.StoreOp.{StoreOp}
use Rattle.wasm_tree.specs.Accesses.{load_access, store_access}
use Rattle.wasm_meaning.specs.Operators.{Answer, Gives, Traps, extend_s}

-- a loaded number is extended by its sign, else by zero
abbrev pub extended : LoadOp → ℕ → ℕ
extended op n = if (load_access op).is_signed then extend_s (8 * (load_access op).width) (bits (load_access op).ty) n else n

-- the number that is loaded from an address, or a trap
abbrev pub load_number : LoadOp → List ℕ → ℕ → Answer
load_number op bytes address =
    if nat_le (address + (load_access op).width) (length bytes)
    then Gives (extended op (little_endian (bytes_at bytes address (load_access op).width))) else Traps MemoryOut

-- the bytes after a store at an address, or none where it traps
abbrev pub store_number : StoreOp → List ℕ → ℕ → ℕ → Option (List ℕ)
store_number op bytes address n =
    if nat_le (address + (store_access op).width) (length bytes)
    then Some (with_bytes bytes address (low_bytes (store_access op).width n)) else None

-- the bytes after so many old ones at one place are written at another, or none where either range passes the end
abbrev pub copy_bytes : List ℕ → (to from count : ℕ) → Option (List ℕ)
copy_bytes bytes to from count =
    if nat_le (from + count) (length bytes) && nat_le (to + count) (length bytes)
    then Some (with_bytes bytes to (bytes_at bytes from count)) else None

-- the bytes after so many places hold the low byte of a number, or none where they pass the end
abbrev pub fill_bytes : List ℕ → (at number count : ℕ) → Option (List ℕ)
fill_bytes bytes at number count =
    if nat_le (at + count) (length bytes) then Some (with_bytes bytes at (replicate count (number % 256))) else None
