use Rattle.c_scope.proofs.Common.{◌≡◌, ◌++◌, map, drop, params_of, variable_pair}
use Rattle.c_scope.proofs.own.put_params.Given as goal

abbrev pub invariant-loop-param : goal.invariant-loop-param
invariant-loop-param l =
    map variable_pair l.all.items ++ params_of (drop l.param-index l.params) ≡ map variable_pair l.fn.all.items ++ params_of l.params
