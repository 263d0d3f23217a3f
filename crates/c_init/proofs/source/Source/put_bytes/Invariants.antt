use Rattle.c_init.proofs.Common.{◌≡◌, ◌+◌, ◌++◌, map, drop, flat_map, stmt_of, write_data}
use Rattle.c_init.specs.Portions.{numbered_from}
use Rattle.c_init.proofs.source.Source.put_bytes.Given as goal

abbrev pub invariant-loop-segment : goal.invariant-loop-segment
invariant-loop-segment l = record {
  at : l.number ≡ l.from + l.segment-index;
  so_far : map stmt_of l.stmts ++ flat_map (write_data l.self.tree.now)
      (drop l.segment-index (numbered_from l.from l.segments)) ≡ map stmt_of l.fn.stmts ++ flat_map (write_data l.self.tree.now)
      (numbered_from l.from l.segments);
}
