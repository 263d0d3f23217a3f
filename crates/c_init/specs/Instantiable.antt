-- What instantiation rests on of a module that is valid and within the limits (WebAssembly Core 1.0, 3.4 and
-- 4.5.4).
use Rattle.std.specs.Prelude.{◌≡◌, ℕ, ◌+◌, ◌^◌, ◌<◌, ◌≤◌, [], ◌++◌, length, IsSome, slice_get, Some}
use Rattle.std.specs.List.{AllByRecursion}
use Rattle.w2c_base.specs.declared.signature.FuncType.{FuncType}
use Rattle.w2c_base.specs.declared.value.ValType.TheVariants as type
use Rattle.wasm_tree.specs.IndexSpaces.{func_space, func_type_in, global_space, imported_global_space, imported_globals, memory_space}
use Rattle.wasm_tree.specs.IndexSpaces.{table_space}
use Rattle.wasm_tree.specs.declared.entries.ElementEntry.{ElementEntry}
use Rattle.wasm_tree.specs.declared.entries.GlobalEntry.{GlobalEntry}
use Rattle.wasm_tree.specs.declared.entries.LimitsEntry.{LimitsEntry}
use Rattle.wasm_tree.specs.declared.entries.SegmentEntry.{SegmentEntry}
use Rattle.wasm_tree.specs.declared.entries.Start.{Start}
use Rattle.wasm_tree.specs.declared.tree.Module.{Module}
use Rattle.wasm_tree.specs.Within.{IsMaximum}
use Rattle.wasm_typing.specs.ModuleFaults.{shape_of}
use Rattle.c_init.specs.Init.{max_number}
use Rattle.c_init.specs.Fitting.{ShapeFits}

pub record ElementIsValid (m : Module) (e : ElementEntry) : Type 0 where
  pub table_is : e.table ≡ 0
  pub there : IsSome (slice_get (table_space m) 0)
  pub offset : ShapeFits type.I32 (shape_of (global_space m) e.offset)
  pub few : length e.funcs < 2 ^ 32
  pub funcs : AllByRecursion (λ f. f.index < length (func_space m)) e.funcs

pub record DataIsValid (m : Module) (d : SegmentEntry) : Type 0 where
  pub memory_is : d.memory ≡ 0
  pub there : IsSome (slice_get (memory_space m) 0)
  pub offset : ShapeFits type.I32 (shape_of (global_space m) d.offset)
  pub few : length d.bytes < 2 ^ 32
  pub are_bytes : AllByRecursion (λ b. b < 256) d.bytes

-- the start function takes nothing
pub record StartIsValid (m : Module) (func : ℕ) : Type 0 where
  pub there : func < length (func_space m)
  pub no_params : (ty : FuncType) → func_type_in m func ≡ Some ty → ty.params ≡ []

-- what a module that is valid and within limits has
pub record IsInstantiable (m : Module) : Type 0 where
  pub elements : AllByRecursion (ElementIsValid m) m.elements
  pub segments : AllByRecursion (DataIsValid m) m.segments
  pub few_segments : length m.segments + 2 < 2 ^ 32
  pub one_table : length m.tables ≤ 1
  pub one_memory : length m.memories ≤ 1
  pub one_table_in_all : length (table_space m) ≤ 1
  pub one_memory_in_all : length (memory_space m) ≤ 1
  pub table_limits : AllByRecursion (λ (t : LimitsEntry). t.limits.min ≤ 1000000) m.tables
  pub memory_limits : AllByRecursion (λ (t : LimitsEntry). (t.limits.min ≤ 16384) × (max_number t.limits.max ≤ 4294967296)) m.memories
  pub globals : AllByRecursion (λ (e : GlobalEntry). ShapeFits e.ty (shape_of (imported_global_space m) e.code)) m.globals
  pub few_globals : imported_globals m + length m.globals < 2 ^ 64
  pub maxima : AllByRecursion (λ l. IsMaximum l.max) (table_space m ++ memory_space m)
  pub start : (x : Start) → m.start ≡ Some x → StartIsValid m x.index
