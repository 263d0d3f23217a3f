use Rattle.w2c_sim.specs.Translation.{IsTranslation}
use Rattle.w2c_sim.proofs.Accepting.{verdict_on}
use Rattle.w2c_sim.proofs.Refusing.{accepted_is_given, refused_is_given}
use Rattle.w2c_sim.proofs.translation.translate.Goals as goal

pub returns-clause-accepted : goal.returns-clause-accepted
returns-clause-accepted c = accepted_is_given c.args.bytes.now c.translation.result c.translation.ensures.refused

pub returns-clause-given : goal.returns-clause-given
returns-clause-given c = refused_is_given c.args.bytes.now c.translation.result (IsTranslation c.args.bytes.now c.args.name.now)
    (λ texts made. (made.0, verdict_on c.args.bytes.now c.args.name.now made.0 made.1))
    c.translation.ensures.texts c.translation.ensures.refused
