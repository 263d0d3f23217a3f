use Rattle.c_tree.proofs.Common.{◌≡◌, map, drop, named, by_name}
use Rattle.c_tree.proofs.primitive.find.Given as goal

abbrev pub invariant-loop-one : goal.invariant-loop-one
invariant-loop-one l = named l.name (map by_name (drop l.one-index l.all)) ≡ named l.name (map by_name l.all)
