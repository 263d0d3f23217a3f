use Rattle.c_helpers.proofs.Common.{Bool, ◌||◌, List, Some, ap, ◌∙◌, rules, helper_of, marked, named_by}
use Rattle.c_helpers.proofs.HelperNumbers.{marks_more}
use Rattle.c_helpers.proofs.marks.Marks.mark.Goals as goal

pub returns : goal.returns
returns c = λ q.
    marks_more c.self.inside.list c.number.result c.args.which (search rules) c.number.ensures.value q
    ∙ ap (λ (l : List Bool). marked l q || named_by (helper_of q).name (Some c.args.which)) c.self.view_is
