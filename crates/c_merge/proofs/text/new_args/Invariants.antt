use Rattle.c_merge.proofs.Common.{◌≡◌, map, take, arg_of, new_names}
use Rattle.c_renaming.specs.Renamed as renamed
use Rattle.c_merge.proofs.text.new_args.Given as goal

abbrev pub invariant-loop-arg : goal.invariant-loop-arg
invariant-loop-arg l = map arg_of l.made ≡ map (renamed.arg new_names l.unit) (map arg_of (take l.arg-index l.args))
