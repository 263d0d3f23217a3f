use Rattle.c_merge.proofs.Common.{◌≡◌, map, take, new_names}
use Rattle.c_renaming.specs.Renamed as renamed
use Rattle.c_merge.proofs.items.new_params.Given as goal

abbrev pub invariant-loop-param : goal.invariant-loop-param
invariant-loop-param l = l.made ≡ map (renamed.param new_names l.unit) (take l.param-index l.params)
