use Rattle.c_init.proofs.Common.{◌≡◌, ◌+◌, ◌++◌, map, drop, stmt_of, make_global}
use Rattle.c_init.specs.Portions.{numbered_from}
use Rattle.c_init.proofs.source.Source.put_globals.Given as goal

abbrev pub invariant-loop-global : goal.invariant-loop-global
invariant-loop-global l = record {
  at : l.number ≡ l.from + l.global-index;
  so_far : map stmt_of l.stmts ++ map (make_global l.self.tree.now) (drop l.global-index (numbered_from l.from l.globals)) ≡ map
      stmt_of l.fn.stmts ++ map (make_global l.self.tree.now) (numbered_from l.from l.globals);
}
