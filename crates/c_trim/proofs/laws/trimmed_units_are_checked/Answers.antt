use Rattle.c_trim.proofs.Needed.{trimmed_formed, trimmed_keeps}
use Rattle.c_trim.proofs.laws.trimmed_units_are_checked.Goals as goal

pub returns-clause-formed : goal.returns-clause-formed
returns-clause-formed c = trimmed_formed

pub returns-clause-kept : goal.returns-clause-kept
returns-clause-kept c = trimmed_keeps
