use Rattle.c_trim.proofs.Common.{◌≡◌, map, drop, flat_map, arg_of, reached_by, with_names, arg_functions}
use Rattle.c_trim.proofs.reach.Marks.reach_arguments.Given as goal

abbrev pub invariant-loop-argument : goal.invariant-loop-argument
invariant-loop-argument l = with_names l.table (flat_map arg_functions (map arg_of (drop l.argument-index l.arguments))) (reached_by l.self)
    ≡ with_names l.table (flat_map arg_functions (map arg_of l.arguments)) (reached_by l.fn.self)
