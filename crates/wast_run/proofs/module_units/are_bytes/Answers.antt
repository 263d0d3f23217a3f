use Rattle.wast_run.proofs.Common.{arith, get_or_default}
use Rattle.wast_run.proofs.module_units.are_bytes.Goals as goal

pub returns : goal.returns
returns c = λ k d less. omega (arith, c.type_inv.text k, get_or_default c.args.text.now k d 0 less)
