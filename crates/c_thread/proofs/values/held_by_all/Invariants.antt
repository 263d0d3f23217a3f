use Rattle.c_thread.proofs.Common.{map, arg_of, Program, Machine, Running, Naming, value_of, Evaluates, Sees, sight_of}
use Rattle.c_thread.proofs.values.held_by_all.Given as goal

abbrev pub invariant-loop-arg : goal.invariant-loop-arg
invariant-loop-arg l = (names : Naming) (p : Program) (m : Machine) (r : Running) → Sees names (sight_of l.scope) p m r
    → Evaluates (value_of names) p m r l.values.items l.arg-index (map arg_of l.args)
