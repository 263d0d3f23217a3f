-- What the code keeps of a verdict.
use Rattle.std.specs.Prelude.{◌≡◌, Bool, true, false, Option, Some, None}
use Rattle.wasm_tree.specs.declared.tree.Module.{Module}
use Rattle.wasm_valid.specs.FileVerdict.{FileVerdict}
use Rattle.wast_run.specs.declared.judging.Judged.{Judged}
use Rattle.wast_run.specs.declared.judging.Judged.TheVariants as judged
use Rattle.wast_run.specs.Report.{accepted_tree, is_invalid, is_malformed}

abbrev pub tree_of : Judged → Option Module
tree_of (judged.Accepted tree) = Some tree
tree_of judged.Invalid = None
tree_of judged.Malformed = None
tree_of judged.Beyond = None

abbrev pub says_invalid : Judged → Bool
says_invalid (judged.Accepted tree) = false
says_invalid judged.Invalid = true
says_invalid judged.Malformed = false
says_invalid judged.Beyond = false

abbrev pub says_malformed : Judged → Bool
says_malformed (judged.Accepted tree) = false
says_malformed judged.Invalid = false
says_malformed judged.Malformed = true
says_malformed judged.Beyond = false

-- it says what the verdict says
pub record Agrees (j : Judged) (verdict : Option FileVerdict) : Type 0 where
  pub tree : accepted_tree verdict ≡ tree_of j
  pub invalid : is_invalid verdict ≡ says_invalid j
  pub malformed : is_malformed verdict ≡ says_malformed j
