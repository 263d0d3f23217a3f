use Rattle.std.proofs.Common.{◌∙◌}
use Rattle.w2c_base.proofs.Types.{unequal, types_many}
use Rattle.w2c_base.specs.Values.{types_of}
use Rattle.w2c_base.proofs.value.are_of_types.Goals as goal

pub returns-then-types-values-clause-types : goal.returns-then-types-values-clause-types
returns-then-types-values-clause-types c =
    unequal c.args.types.now (types_of c.args.values.now) (λ e. c.if-types-values.true (e ∙ types_many c.args.values.now))
