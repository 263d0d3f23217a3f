use Rattle.c_scope.proofs.Common.{◌≡◌, ◌++◌, map, drop, locals_of, variable_pair}
use Rattle.c_scope.proofs.own.put_locals.Given as goal

abbrev pub invariant-loop-local : goal.invariant-loop-local
invariant-loop-local l =
    map variable_pair l.all.items ++ locals_of (drop l.local-index l.locals) ≡ map variable_pair l.fn.all.items ++ locals_of l.locals
