use Rattle.w2c_sim.proofs.Common.{IsVerdictOn, Read, Accepted}
use Rattle.w2c_sim.proofs.Refusing.{accepted_is_given, refused_is_given}
use Rattle.w2c_sim.proofs.file_verdict.accept.Goals as goal

pub returns-clause-accepted : goal.returns-clause-accepted
returns-clause-accepted c = accepted_is_given c.args.bytes.now c.valid_module.result c.valid_module.ensures.refused

pub returns-clause-given : goal.returns-clause-given
returns-clause-given c = refused_is_given c.args.bytes.now c.valid_module.result (λ m. IsVerdictOn c.args.bytes.now (Read m Accepted))
    (λ m found. (m, found)) c.valid_module.ensures.found c.valid_module.ensures.refused
