use Rattle.c_init.proofs.Common.{◌≡◌, ◌+◌, ◌++◌, map, drop, stmt_of, write_element}
use Rattle.c_init.specs.Portions.{numbered_from}
use Rattle.c_init.proofs.source.Source.put_some.Given as goal

abbrev pub invariant-loop-func : goal.invariant-loop-func
invariant-loop-func l = record {
  at : l.number ≡ l.begin + l.func-index;
  so_far : map stmt_of l.stmts ++ map (λ f. write_element l.self.tree.now l.segment.offset f.0 f.1.index)
      (drop l.func-index (numbered_from l.begin l.some)) ≡ map stmt_of l.fn.stmts ++ map
      (λ f. write_element l.self.tree.now l.segment.offset f.0 f.1.index) (numbered_from l.begin l.some);
}
