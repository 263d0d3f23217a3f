use Rattle.c_init.proofs.Common.{◌≡◌, ◌≤◌, ◌++◌, map, drop, stmt_of, takes_from, module_of}
use Rattle.c_init.proofs.source.Source.put_takes.Given as goal

-- what was taken, and what the imports to come take
abbrev pub invariant-loop-place : goal.invariant-loop-place
invariant-loop-place l = record {
  small : l.number ≤ l.place;
  so_far : map stmt_of l.stmts ++ takes_from (module_of l.self) l.number (drop l.place l.self.tree.now.imports) ≡ map stmt_of
      l.fn.stmts ++ takes_from (module_of l.self) 0 l.self.tree.now.imports;
}
