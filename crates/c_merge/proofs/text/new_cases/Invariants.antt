use Rattle.c_merge.proofs.Common.{◌≡◌, map, take, new_names}
use Rattle.c_renaming.specs.Renamed as renamed
use Rattle.c_merge.proofs.text.new_cases.Given as goal

abbrev pub invariant-loop-case : goal.invariant-loop-case
invariant-loop-case l = l.made ≡ map (renamed.case new_names l.unit) (take l.case-index l.cases)
