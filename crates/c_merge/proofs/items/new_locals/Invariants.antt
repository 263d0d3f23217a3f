use Rattle.c_merge.proofs.Common.{◌≡◌, map, take, new_names}
use Rattle.c_renaming.specs.Renamed as renamed
use Rattle.c_merge.proofs.items.new_locals.Given as goal

abbrev pub invariant-loop-local : goal.invariant-loop-local
invariant-loop-local l = l.made ≡ map (renamed.local new_names l.unit) (take l.local-index l.locals)
