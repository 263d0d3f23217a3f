use Rattle.host_replay.proofs.Common.{◌≡◌, ◌++◌, map, take, AllByRecursion, function_of, function_texts, HasName}
use Rattle.host_replay.proofs.module.put_functions.Given as goal

abbrev pub invariant-loop-function : goal.invariant-loop-function
invariant-loop-function l = record {
  text : l.text ≡ l.initial.text ++ function_texts (map function_of (take l.function-index l.functions));
  names : AllByRecursion HasName (map function_of (take l.function-index l.functions));
}
