use Rattle.std.proofs.Common.{◌-◌}
use Rattle.c_init.proofs.Common.{◌≡◌, ◌≤◌, ◌++◌, length, map, filter, numbered}
use Rattle.c_init.specs.Init.{bytes_part, pieces, some_bytes}
use Rattle.c_init.specs.Portions.{numbered_from, Owns, part_of}
use Rattle.c_init.proofs.portions.put_bytes.Given as goal

-- what is put, and what is left
abbrev pub invariant-loop-rest : goal.invariant-loop-rest
invariant-loop-rest l = record {
  so_far : map (part_of l.m) l.list.items
      ++ map (bytes_part l.m) (filter some_bytes (pieces (numbered_from (length l.m.segments - length l.rest) l.rest)))
      ≡ map (part_of l.m) l.fn.list.items ++ map (bytes_part l.m) (filter some_bytes (pieces (numbered l.m.segments)));
  room : length l.rest ≤ length l.m.segments;
  own : Owns l.m l.fn.list.items l.list.items;
}

abbrev pub decreases-loop-rest : goal.decreases-loop-rest
decreases-loop-rest l = length l.rest
