-- What every module that was read keeps within (WebAssembly Core 1.0, appendix A.2), as far as its unit
-- rests on it: what is counted, and the numbers that stand in instructions.
use Rattle.std.specs.Prelude.{◌≡◌, ◌<◌, ◌≤◌, ◌^◌, ◌+◌, false, [], ◌++◌, length}
use Rattle.std.specs.List.{AllByRecursion}
use Rattle.wasm_tree.specs.declared.tree.Module.{Module}
use Rattle.wasm_tree.specs.declared.entries.BodyEntry.{BodyEntry}
use Rattle.wasm_tree.specs.IndexSpaces.{table_space, memory_space, declared_locals}
use Rattle.wasm_tree.specs.Bytes.{AreBytes}
use Rattle.wasm_tree.specs.Within.{has_wide, IsMaximum}
use Rattle.wasm_typing.specs.Context.{Context}
use Rattle.c_helpers.specs.Translated.{any_in}
use Rattle.body_definition.specs.Stack.{peak}
use Rattle.body_definition.specs.Labels.{labels_in}

pub record BodyHasLimits (b : BodyEntry) : Type 0 where
  pub locals : length (declared_locals b.runs) < 2 ^ 32
  pub labels : labels_in b.code + 2 < 2 ^ 32
  -- operands on a stack, whatever the types are
  pub operands : (c : Context) → peak c [] b.code < 2 ^ 32
  pub numbers : any_in has_wide b.code ≡ false

pub record HasLimits (m : Module) : Type 0 where
  pub imports : length m.imports < 2 ^ 32
  pub types : length m.types < 2 ^ 32
  pub funcs : length m.funcs < 2 ^ 32
  pub globals : length m.globals < 2 ^ 32
  pub segments : length m.segments + 2 < 2 ^ 32
  -- one body for each function
  pub bodies_are_there : length m.bodies ≡ length m.funcs
  pub params : AllByRecursion (λ t. length t.ty.params ≤ 60) m.types
  pub memories : AllByRecursion (λ l. l.min ≤ 16384) (memory_space m)
  pub tables : AllByRecursion (λ l. l.min ≤ 1000000) (table_space m)
  -- a maximum is a number of 32 bits
  pub maxima : AllByRecursion (λ l. IsMaximum l.max) (table_space m ++ memory_space m)
  pub bytes : AllByRecursion (λ d. length d.bytes < 2 ^ 32) m.segments
  -- data and names are bytes
  pub are_bytes : AllByRecursion (λ d. AreBytes d.bytes) m.segments
  pub import_names : AllByRecursion (λ i. AreBytes i.«module» × AreBytes i.field) m.imports
  pub export_names : AllByRecursion (λ e. AreBytes e.name) m.exports
  pub elements : AllByRecursion (λ e. length e.funcs < 2 ^ 32) m.elements
  pub bodies : AllByRecursion BodyHasLimits m.bodies
