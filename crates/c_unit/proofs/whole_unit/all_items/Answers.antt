use Rattle.c_unit.proofs.Common.{◌≡◌, IfOk, subst, unit_of}
use Rattle.c_unit.proofs.whole_unit.all_items.Goals as goal

pub returns : goal.returns
returns c =
    subst (λ items. IfOk c.unit_of_rest.result (λ unit. unit_of unit ≡ items)) c.in_ok-items.ensures.left
    c.unit_of_rest.ensures
