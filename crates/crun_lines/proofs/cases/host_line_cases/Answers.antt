use Rattle.std.proofs.Common.{refl}
use Rattle.std.specs.Fmt.{digits}
use Rattle.crun_lines.proofs.cases.host_line_cases.Goals as goal

pub returns-clause-tick : goal.returns-clause-tick
unfolding digits
returns-clause-tick c = refl

pub returns-clause-not_replied : goal.returns-clause-not_replied
unfolding digits
returns-clause-not_replied c = refl

pub returns-clause-empty_function_name : goal.returns-clause-empty_function_name
unfolding digits
returns-clause-empty_function_name c = refl

pub returns-clause-escaped_names : goal.returns-clause-escaped_names
unfolding digits
returns-clause-escaped_names c = refl

pub returns-clause-empty_host_name : goal.returns-clause-empty_host_name
unfolding digits
returns-clause-empty_host_name c = refl
