use Rattle.std.proofs.Common.{◌-◌}
use Rattle.c_init.proofs.Common.{◌≡◌, ◌≤◌, ◌++◌, length, map, numbered}
use Rattle.c_init.specs.Init.{globals_part, pieces}
use Rattle.c_init.specs.Portions.{numbered_from, Owns, part_of}
use Rattle.c_init.proofs.portions.put_globals.Given as goal

-- what is put, and what is left
abbrev pub invariant-loop-rest : goal.invariant-loop-rest
invariant-loop-rest l = record {
  so_far : map (part_of l.m) l.list.items
      ++ map (globals_part l.m) (pieces (numbered_from (length l.m.globals - length l.rest) l.rest))
      ≡ map (part_of l.m) l.fn.list.items ++ map (globals_part l.m) (pieces (numbered l.m.globals));
  room : length l.rest ≤ length l.m.globals;
  own : Owns l.m l.fn.list.items l.list.items;
}

abbrev pub decreases-loop-rest : goal.decreases-loop-rest
decreases-loop-rest l = length l.rest
