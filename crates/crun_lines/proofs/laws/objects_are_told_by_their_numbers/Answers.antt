use Rattle.crun_lines.proofs.ByNumber.{found_by_number}
use Rattle.crun_lines.proofs.laws.objects_are_told_by_their_numbers.Goals as goal

pub returns-clause-variables : goal.returns-clause-variables
returns-clause-variables c names objects d e = found_by_number names objects d e

pub returns-clause-memories : goal.returns-clause-memories
returns-clause-memories c names objects d e = found_by_number names objects d e

pub returns-clause-tables : goal.returns-clause-tables
returns-clause-tables c names objects d e = found_by_number names objects d e
