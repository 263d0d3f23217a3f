use Rattle.crun_startup.proofs.Common.{nat_eq, Decides-eqb, strip_prefix_is}
use Rattle.crun_startup.proofs.init_symbol.behind.Goals as goal

pub returns : goal.returns
returns c = strip_prefix_is {E = nat_eq} Decides-eqb c.args.text.now c.args.front.now c.strip_prefix.result c.strip_prefix.ensures.cases
