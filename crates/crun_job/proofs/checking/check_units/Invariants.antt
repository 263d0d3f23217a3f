use Rattle.crun_job.proofs.Common.{map, take, unit_of, AreUnitTexts}
use Rattle.crun_job.proofs.checking.check_units.Given as goal

abbrev pub invariant-loop-number : goal.invariant-loop-number
invariant-loop-number l = AreUnitTexts (take l.number l.texts) (map unit_of l.units.items)
