use Rattle.c_init.proofs.Common.{subst, NamedModule}
use Rattle.c_symbols.specs.Usable.{AreReached}
use Rattle.c_init.proofs.source.Source.reached.Goals as goal

pub returns : goal.returns
returns c = subst (λ (m : NamedModule). AreReached c.reached.result.now m) c.args.self.now.spaces_are c.reached.ensures
