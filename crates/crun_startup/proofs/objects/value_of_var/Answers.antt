use Rattle.crun_startup.proofs.Common.{sym, ap, ◌∙◌, first_of}
use Rattle.crun_startup.proofs.objects.value_of_var.Goals as goal

pub returns-in-None : goal.returns-in-None
returns-in-None c names = c.zero.ensures names ∙ sym (ap (first_of c.args.ty) c.in-None.is)

pub returns-in-Some : goal.returns-in-Some
returns-in-Some c names = c.initial_value.ensures names ∙ sym (ap (first_of c.args.ty) c.in-Some.is)
