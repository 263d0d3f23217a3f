use Rattle.std.proofs.Common.{refl}
use Rattle.std.specs.Fmt.{digits}
use Rattle.hex.specs.Hex.{encode_with}
use Rattle.crun_lines.proofs.cases.state_line_cases.Goals as goal

pub returns-clause-names_in_order : goal.returns-clause-names_in_order
unfolding digits encode_with
returns-clause-names_in_order c = refl

pub returns-clause-unit : goal.returns-clause-unit
unfolding digits encode_with
returns-clause-unit c = refl

pub returns-clause-row_of_zeros : goal.returns-clause-row_of_zeros
unfolding digits encode_with
returns-clause-row_of_zeros c = refl
