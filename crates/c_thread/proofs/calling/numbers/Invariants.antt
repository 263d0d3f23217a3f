use Rattle.c_objects.specs.Views.{Naming}
use Rattle.c_thread.proofs.Asks.{Counts}
use Rattle.c_thread.proofs.calling.numbers.Given as goal

abbrev pub invariant-loop-value : goal.invariant-loop-value
invariant-loop-value l = (names : Naming) → Counts names l.values l.value-index l.args.items
