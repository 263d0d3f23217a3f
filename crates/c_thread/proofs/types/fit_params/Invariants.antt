use Rattle.c_thread.proofs.Common.{◌≡◌, map, drop, are_of_types, param_types, Naming, value_of}
use Rattle.c_thread.proofs.types.fit_params.Given as goal

abbrev pub invariant-loop-param : goal.invariant-loop-param
invariant-loop-param l =
    (names : Naming) → are_of_types (param_types (drop l.param-index l.params)) (map (value_of names) l.rest)
    ≡ are_of_types (param_types l.params) (map (value_of names) l.values)
