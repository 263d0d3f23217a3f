use Rattle.std.proofs.Common.{◌≡◌, map, take}
use Rattle.c_objects.specs.declared.held.Held.TheVariants as held
use Rattle.crun.proofs.engine.held.Given as goal

abbrev pub invariant-loop-arg : goal.invariant-loop-arg
invariant-loop-arg l = l.values.items ≡ map held.Number (take l.arg-index l.args)
