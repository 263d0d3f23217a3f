-- A module under the name by which other modules import from it (WebAssembly Core 1.0, 2.5.11).
use Rattle.std.specs.Prelude.{ℕ, List}
use Rattle.wasm_tree.specs.declared.tree.Module.{Module}

pub record NamedModule : Type 0 where
  pub name : List ℕ
  pub tree : Module
