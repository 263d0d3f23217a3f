use Rattle.crun_startup.proofs.Common.{sym, ap, ◌∙◌, item_of, var_value}
use Rattle.crun_startup.proofs.objects.first_value.Goals as goal

pub returns-in-Var : goal.returns-in-Var
returns-in-Var c names = c.value_of_var.ensures names ∙ sym (ap (λ it. var_value (item_of it)) c.in-Var.is)
