use Rattle.c_types.proofs.Common.{◌≡◌, drop, list_all, arg_uses, is_known, arg_of, scope_of}
use Rattle.c_types.proofs.known.is_each_arg_known.Given as goal

abbrev pub invariant-loop-arg : goal.invariant-loop-arg
invariant-loop-arg l =
    list_all (λ a. list_all (is_known (scope_of l.s)) (arg_uses (arg_of a))) (drop l.arg-index l.args)
    ≡ list_all (λ a. list_all (is_known (scope_of l.s)) (arg_uses (arg_of a))) l.args
