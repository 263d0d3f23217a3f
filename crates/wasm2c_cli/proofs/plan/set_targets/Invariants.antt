use Rattle.wasm2c_cli.proofs.Common.{◌≡◌, map, take, names_of, seen_targets, target_in}
use Rattle.wasm2c_cli.proofs.plan.set_targets.Given as goal

-- the targets of so many files
abbrev pub invariant-loop-k : goal.invariant-loop-k
invariant-loop-k l = seen_targets l.targets.items ≡ take l.k (map (target_in l.dir) (names_of l.inputs))
