use Rattle.c_tree.proofs.NoFault as faults
use Rattle.c_tree.proofs.OneUnit.{one_unit}
use Rattle.c_print.specs.Print.{print_of}
use Rattle.c_print.proofs.Spells as print
use Rattle.c_print.proofs.laws.printed_units_are_read_again.Goals as goal

pub returns-clause-spells : goal.returns-clause-spells
returns-clause-spells c u formed = print.spells u formed

pub returns-clause-no_other : goal.returns-clause-no_other
returns-clause-no_other c u v formed other = one_unit v u (print_of u) other (print.spells u formed)

pub returns-clause-no_fault : goal.returns-clause-no_fault
returns-clause-no_fault c u f formed upto = faults.no_fault u (print_of u) f (print.spells u formed) upto
