-- The modules whose units are spoken of: those that are valid and within the limits, under a name.
use Rattle.std.specs.Prelude.{◌<◌, ◌≤◌, All, length}
use Rattle.wasm_tree.specs.Within.{WithinLimits}
use Rattle.wasm_tree.specs.NamedModule.{NamedModule}
use Rattle.wasm_typing.specs.Verdict.{IsValid}

-- a module that is valid and within the limits, under a name of 1 to 1,024 bytes
pub record IsAccepted (m : NamedModule) : Type 0 where
  pub valid : IsValid m.tree
  pub within : WithinLimits m.tree
  pub named : 1 ≤ length m.name
  pub short : length m.name ≤ 1024
  pub bytes : All (λ b. b < 256) m.name
