use Rattle.crun_job.specs.Texts.{IsRefusedText, IsUnitText}
use Rattle.crun_job.proofs.Each.{first_apart, one_each}
use Rattle.crun_job.proofs.Texts.{one_items, text_apart}
use Rattle.crun_job.proofs.law.one_list_of_units.Goals as goal

pub returns-clause-one : goal.returns-clause-one
returns-clause-one c = one_each IsUnitText one_items

pub returns-clause-apart : goal.returns-clause-apart
returns-clause-apart c = first_apart IsUnitText IsRefusedText text_apart
