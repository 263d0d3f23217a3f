use Rattle.c_types.proofs.Common.{◌≡◌, drop, list_all, arg_has_type, arg_of, scope_of}
use Rattle.c_types.proofs.typed.args_have_types.Given as goal

abbrev pub invariant-loop-arg : goal.invariant-loop-arg
invariant-loop-arg l =
    list_all (λ a. arg_has_type (scope_of l.s) (arg_of a)) (drop l.arg-index l.args)
    ≡ list_all (λ a. arg_has_type (scope_of l.s) (arg_of a)) l.args
