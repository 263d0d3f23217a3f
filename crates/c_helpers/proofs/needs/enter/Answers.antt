use Rattle.c_helpers.proofs.Common.{Option, sym, subst, helper_of, Helper, HasMore, named_by}
use Rattle.c_helpers.proofs.needs.enter.Goals as goal

pub returns-in-Some : goal.returns-in-Some
returns-in-Some c =
    subst (λ (w : Option Helper). HasMore c.mark.new.self c.args.marks.now (λ q. named_by (helper_of q).name w)) (sym c.in-Some.is)
    c.mark.ensures
