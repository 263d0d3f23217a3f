use Rattle.c_merge.proofs.Common.{◌≡◌, map, take, stmt_of, new_names}
use Rattle.c_renaming.specs.Renamed as renamed
use Rattle.c_merge.proofs.text.new_stmts.Given as goal

abbrev pub invariant-loop-stmt : goal.invariant-loop-stmt
invariant-loop-stmt l = map stmt_of l.made ≡ map (renamed.stmt new_names l.unit) (map stmt_of (take l.stmt-index l.stmts))
