use Rattle.c_types.proofs.Common.{◌≡◌, map, drop, args_suit, arg_of, scope_of}
use Rattle.c_types.proofs.agreement.args_suit.Given as goal

abbrev pub invariant-loop-i : goal.invariant-loop-i
invariant-loop-i g l =
    args_suit (scope_of l.s) (map g.T.Typed.its_type (drop l.i l.types)) (map arg_of (drop l.i l.args))
    ≡ args_suit (scope_of l.s) (map g.T.Typed.its_type l.types) (map arg_of l.args)
