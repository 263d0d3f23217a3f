use Rattle.c_helpers.proofs.Common.{◌∙◌}
use Rattle.c_helpers.proofs.Whole.{is_whole}
use Rattle.c_helpers.proofs.make.helper.Goals as goal

pub returns : goal.returns
returns c =
    is_whole c.args.which _ _ _ _ _ _ c.function.ensures c.returns.ensures c.in_ok-name.ensures
    (c.in_ok-params.ensures ∙ c.params.ensures) (c.in_ok-locals.ensures ∙ c.locals.ensures) c.in_ok-stmts.ensures
