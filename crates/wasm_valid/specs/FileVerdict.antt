-- The verdict on a file: the fault at which it is no module, or its module with what is said of it.
use Rattle.std.specs.Prelude.{ℕ, List}
use Rattle.wasm_tree.specs.declared.tree.Module.{Module}
use Rattle.wasm_spelling.specs.declared.fault.ReadFault.{ReadFault}
use Rattle.wasm_spelling.specs.ModuleFields.{Spells}
use Rattle.wasm_spelling.specs.Table.{Upto}
use Rattle.wasm_typing.specs.Verdict.{Outcome, Verdict}

pub data FileVerdict : Type 0 where
  Unread : ReadFault → FileVerdict
  Read : Module → Outcome → FileVerdict

abbrev pub IsVerdictOn : List ℕ → FileVerdict → Type 0
IsVerdictOn bytes (Unread fault) = Upto bytes fault
IsVerdictOn bytes (Read tree outcome) = Spells tree bytes × Verdict tree outcome
