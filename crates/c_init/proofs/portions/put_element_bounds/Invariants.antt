use Rattle.c_init.proofs.Common.{◌≡◌, ◌++◌, length, map}
use Rattle.c_init.specs.Init.{element_tests_part, pieces}
use Rattle.c_init.specs.Portions.{Owns, part_of}
use Rattle.c_init.proofs.portions.put_element_bounds.Given as goal

-- what is put, and what is left
abbrev pub invariant-loop-rest : goal.invariant-loop-rest
invariant-loop-rest l = record {
  so_far : map (part_of l.m) l.list.items ++ map (element_tests_part l.m) (pieces l.rest)
      ≡ map (part_of l.m) l.fn.list.items ++ map (element_tests_part l.m) (pieces l.m.elements);
  own : Owns l.m l.fn.list.items l.list.items;
}

abbrev pub decreases-loop-rest : goal.decreases-loop-rest
decreases-loop-rest l = length l.rest
