use Rattle.c_link.proofs.Common.{sym, ap, ◌∙◌, arith, nat_tests, same_types}
use Rattle.c_link.proofs.Arguments.{arguments_typed, no_arguments}
use Rattle.c_link.proofs.calls.are_params.Goals as goal

pub returns-then-is_empty-clause-types : goal.returns-then-is_empty-clause-types
returns-then-is_empty-clause-types c =
    c.are_void.ensures
    ∙ ap (same_types c.args.params.now) (sym (no_arguments c.args.args.now (grind (arith, nat_tests))))

pub returns-else-is_empty-clause-types : goal.returns-else-is_empty-clause-types
returns-else-is_empty-clause-types c =
    c.are_types.ensures.types
    ∙ ap (same_types c.args.params.now) (sym (arguments_typed c.args.args.now (grind (arith, nat_tests))))
