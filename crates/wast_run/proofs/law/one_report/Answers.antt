use Rattle.wast_run.proofs.OneReport.{one_report, part_is_prefix}
use Rattle.wast_run.proofs.law.one_report.Goals as goal

pub returns : goal.returns
returns c = record { one = one_report; parts = part_is_prefix }
