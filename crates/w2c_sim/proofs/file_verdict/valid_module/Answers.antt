use Rattle.w2c_sim.proofs.Common.{err_from_is_err_and, accepted}
use Rattle.w2c_sim.proofs.Refusing.{rule_refusal}
use Rattle.w2c_sim.proofs.file_verdict.valid_module.Goals as goal

pub returns-in_err-module-clause-refused : goal.returns-in_err-module-clause-refused
returns-in_err-module-clause-refused c =
    let p = err_from_is_err_and c.from_residual-in_err-module.result c.from_residual-in_err-module.ensures.1 in
    rw (p.1, p.2) (rule_refusal c.args.bytes.now c.in_ok-tree.tree c.in_err-module.field-0.0 c.in_ok-tree.ensures.found
    c.in_err-module.ensures.first)

pub returns-clause-found : goal.returns-clause-found
returns-clause-found c =
    rw c.in_ok-module.ensures.found (c.in_ok-tree.ensures.found, accepted c.in_ok-tree.tree c.in_ok-module.ensures.valid)

pub check-requires : goal.check-requires
check-requires c = c.in_ok-tree.ensures.formed
