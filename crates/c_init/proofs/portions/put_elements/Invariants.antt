use Rattle.c_init.proofs.Common.{◌≡◌, ◌++◌, length, map}
use Rattle.c_init.specs.Init.{elements_of, elements_part, pieces}
use Rattle.c_init.specs.Portions.{elements_behind, Owns, part_of, Starts}
use Rattle.c_init.proofs.portions.put_elements.Given as goal

-- what is put, and what is left
abbrev pub invariant-loop-rest : goal.invariant-loop-rest
invariant-loop-rest l = record {
  so_far : map (part_of l.m) l.list.items ++ map (elements_part l.m) (pieces (elements_behind l.number l.rest))
      ≡ map (part_of l.m) l.fn.list.items ++ map (elements_part l.m) (pieces (elements_of l.m));
  starts : Starts l.number l.rest;
  own : Owns l.m l.fn.list.items l.list.items;
}

abbrev pub decreases-loop-rest : goal.decreases-loop-rest
decreases-loop-rest l = length (elements_behind l.number l.rest)
