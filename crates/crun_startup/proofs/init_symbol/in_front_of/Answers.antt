use Rattle.crun_startup.proofs.Common.{nat_eq, Decides-eqb, strip_suffix_is}
use Rattle.crun_startup.proofs.init_symbol.in_front_of.Goals as goal

pub returns : goal.returns
returns c = strip_suffix_is {E = nat_eq} Decides-eqb c.args.text.now c.args.end.now c.strip_suffix.result c.strip_suffix.ensures.cases
