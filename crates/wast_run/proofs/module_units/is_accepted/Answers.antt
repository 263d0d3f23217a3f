use Rattle.wast_run.proofs.Common.{subst, IsValid}
use Rattle.wasm_tree.specs.Within.{WithinLimits}
use Rattle.wast_run.proofs.module_units.is_accepted.Goals as goal

pub returns : goal.returns
returns c = record {
  valid = subst IsValid c.module.ensures.same c.module.ensures.valid;
  within = subst WithinLimits c.module.ensures.same c.module.ensures.within;
  named = c.requires.0;
  short = c.requires.1;
  bytes = c.are_bytes.ensures;
}
