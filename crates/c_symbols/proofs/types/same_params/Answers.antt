use Rattle.c_symbols.proofs.SameTypes.{params_of_other_lengths}
use Rattle.c_symbols.proofs.types.same_params.Goals as goal

pub returns-then-ones-others : goal.returns-then-ones-others
returns-then-ones-others c = params_of_other_lengths c.args.ones.now c.args.others.now c.if-ones-others.true
