use Rattle.c_machine.proofs.Common.{sym, ◌∙◌, stmt_of}
use Rattle.c_machine.proofs.Labels.{at_place}
use Rattle.c_machine.proofs.ahead.Ahead.of.Goals as goal

pub returns-else-has_label : goal.returns-else-has_label
returns-else-has_label c = at_place stmt_of c.args.stmts.now (sym c.has_label.ensures ∙ c.if-has_label.false)
