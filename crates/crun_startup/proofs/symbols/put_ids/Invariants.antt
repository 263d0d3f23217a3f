use Rattle.crun_startup.proofs.Common.{◌≡◌, ◌++◌, map, range_with_len}
use Rattle.c_objects.specs.declared.held.FuncId.TheVariants as func
use Rattle.crun_startup.proofs.symbols.put_ids.Given as goal

abbrev pub invariant-loop-function : goal.invariant-loop-function
invariant-loop-function l = l.ids.items ≡ l.initial.ids.items ++ map (func.Host l.host) (range_with_len 0 l.function)
