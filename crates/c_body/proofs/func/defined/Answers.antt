use Rattle.c_body.proofs.Common.{List, ap, ◌∙◌, ValType, params_of}
use Rattle.c_body.proofs.Whole.{same_func}
use Rattle.c_body.proofs.func.defined.Goals as goal

pub returns : goal.returns
returns c =
    same_func _ _ _ _ _ _ _ _ c.c_result.ensures c.in_ok-name.ensures
    (c.in_ok-params.ensures ∙ ap (λ (types : List ValType). params_of types) c.as_slice.ensures) c.in_ok-content.ensures
