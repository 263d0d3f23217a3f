use Rattle.c_trim.proofs.Common.{◌≡◌, map, take, arg_of}
use Rattle.c_trim.proofs.copies.copy_arguments.Given as goal

abbrev pub invariant-loop-argument : goal.invariant-loop-argument
invariant-loop-argument l = map arg_of l.copies ≡ take l.argument-index (map arg_of l.arguments)
