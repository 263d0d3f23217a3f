use Rattle.c_link.proofs.Arguments.{unequal}
use Rattle.c_link.proofs.calls.are_types.Goals as goal

pub returns-then-params-args-clause-types : goal.returns-then-params-args-clause-types
returns-then-params-args-clause-types c = unequal c.args.params.now c.args.args.now c.if-params-args.true
