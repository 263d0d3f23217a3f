-- What every module that has a file keeps within (WebAssembly Core 1.0, appendix A.2): the number of its entries,
-- locals and instructions, the depth of its blocks, and the numbers that stand in it. Each entry, each opcode and each
-- label of a table takes a byte of the file, which has at most `most_module_bytes`.
use Rattle.std.specs.Prelude.{◌≡◌, ℕ, suc, ◌+◌, ◌<◌, ◌≤◌, ◌^◌, max, not, nat_lt, Bool, false, ◌||◌, ◌++◌, List, length, Option, Some, None}
use Rattle.std.specs.Prelude.{⊤}
use Rattle.std.specs.List.{AllByRecursion}
use Rattle.wasm_tree.specs.declared.tree.Module.{Module}
use Rattle.wasm_tree.specs.declared.entries.BodyEntry.{BodyEntry}
use Rattle.wasm_tree.specs.Instructions.{Code, end_code, then_code, Kind, Otherwise, no_else, else_code, Block, Loop, If, BrTable, Load}
use Rattle.wasm_tree.specs.Instructions.{Store}
use Rattle.wasm_tree.specs.IndexSpaces.{table_space, memory_space, declared_locals}
use Rattle.wasm_tree.specs.Bytes.{AreBytes}
use Rattle.wasm_tree.specs.Limits.{most_parameters, most_name_bytes, most_functions, most_locals, most_blocks, most_memory_pages}
use Rattle.wasm_tree.specs.Limits.{most_table_elements, most_module_bytes}

-- ---- code

abbrev pub is_wide : ℕ → Bool
is_wide n = not (nat_lt n 4294967296)

-- an instruction with a number of more than 32 bits: an offset, or the number of a table's labels
abbrev pub has_wide : Kind → Bool
has_wide (Load op arg) = is_wide arg.offset
has_wide (Store op arg) = is_wide arg.offset
has_wide (BrTable labels default) = is_wide (length labels)
has_wide _ = false

abbrev mutual
  -- an instruction passes a test, at whatever depth it stands
  pub some_in : (Kind → Bool) → Code → Bool
  some_in test end_code = false
  some_in test (then_code place kind code) = (test kind || some_inside test kind) || some_in test code

  pub some_inside : (Kind → Bool) → Kind → Bool
  some_inside test (Block t code end_place) = some_in test code
  some_inside test (Loop t code end_place) = some_in test code
  some_inside test (If t code otherwise end_place) = some_in test code || some_in_else test otherwise
  some_inside test _ = false

  pub some_in_else : (Kind → Bool) → Otherwise → Bool
  some_in_else test no_else = false
  some_in_else test (else_code place code) = some_in test code

abbrev mutual
  -- so many bytes are taken at least: one for an opcode, a block's type and its end, an `else`, and a label of a table
  pub least_bytes : Code → ℕ
  least_bytes end_code = 0
  least_bytes (then_code place kind code) = least_bytes_of kind + least_bytes code

  pub least_bytes_of : Kind → ℕ
  least_bytes_of (Block t code end_place) = 3 + least_bytes code
  least_bytes_of (Loop t code end_place) = 3 + least_bytes code
  least_bytes_of (If t code otherwise end_place) = 3 + least_bytes code + least_bytes_of_else otherwise
  least_bytes_of (BrTable labels default) = 1 + length labels
  least_bytes_of _ = 1

  pub least_bytes_of_else : Otherwise → ℕ
  least_bytes_of_else no_else = 0
  least_bytes_of_else (else_code place code) = 1 + least_bytes code

abbrev mutual
  -- so many blocks are open at once
  pub block_depth : Code → ℕ
  block_depth end_code = 0
  block_depth (then_code place kind code) = max (block_depth_of kind) (block_depth code)

  pub block_depth_of : Kind → ℕ
  block_depth_of (Block t code end_place) = suc (block_depth code)
  block_depth_of (Loop t code end_place) = suc (block_depth code)
  block_depth_of (If t code otherwise end_place) = suc (max (block_depth code) (block_depth_of_else otherwise))
  block_depth_of _ = 0

  pub block_depth_of_else : Otherwise → ℕ
  block_depth_of_else no_else = 0
  block_depth_of_else (else_code place code) = block_depth code

pub record BodyIsWithin (b : BodyEntry) : Type 0 where
  pub locals : length (declared_locals b.runs) ≤ most_locals
  pub bytes : least_bytes b.code ≤ most_module_bytes
  pub depth : block_depth b.code ≤ most_blocks
  pub numbers : some_in has_wide b.code ≡ false

-- ---- modules

-- a greatest size is a number of 32 bits
abbrev pub IsMaximum : Option ℕ → Type 0
IsMaximum None = ⊤
IsMaximum (Some max) = max < 2 ^ 32

abbrev pub IsName : List ℕ → Type 0
IsName name = AreBytes name × (length name ≤ most_name_bytes)

pub record WithinLimits (m : Module) : Type 0 where
  pub types : length m.types ≤ most_module_bytes
  pub imports : length m.imports ≤ most_module_bytes
  pub funcs : length m.funcs ≤ most_functions
  pub globals : length m.globals ≤ most_module_bytes
  pub exports : length m.exports ≤ most_module_bytes
  pub segments : length m.segments ≤ most_module_bytes
  -- one body for each function
  pub bodies_are_there : length m.bodies ≡ length m.funcs
  pub params : AllByRecursion (λ t. length t.ty.params ≤ most_parameters) m.types
  pub tables : AllByRecursion (λ l. l.min ≤ most_table_elements) (table_space m)
  pub memories : AllByRecursion (λ l. l.min ≤ most_memory_pages) (memory_space m)
  pub maxima : AllByRecursion (λ l. IsMaximum l.max) (table_space m ++ memory_space m)
  pub import_names : AllByRecursion (λ i. IsName i.«module» × IsName i.field) m.imports
  pub export_names : AllByRecursion (λ e. IsName e.name) m.exports
  pub few_elements : length m.elements ≤ most_module_bytes
  pub elements : AllByRecursion (λ e. length e.funcs ≤ most_module_bytes) m.elements
  -- data are bytes
  pub are_bytes : AllByRecursion (λ d. AreBytes d.bytes) m.segments
  pub bytes : AllByRecursion (λ d. length d.bytes ≤ most_module_bytes) m.segments
  pub bodies : AllByRecursion BodyIsWithin m.bodies
