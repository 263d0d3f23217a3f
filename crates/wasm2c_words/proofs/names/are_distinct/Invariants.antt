use Rattle.wasm2c_words.proofs.Common.{◌≡◌, map, length, names_of, are_distinct, module_name_of}
use Rattle.wasm2c_words.proofs.names.are_distinct.Given as goal

-- the names that are left are distinct just where all are
abbrev pub invariant-loop-rest : goal.invariant-loop-rest
invariant-loop-rest l = record {
  same : are_distinct (map module_name_of (names_of l.rest)) ≡ are_distinct (map module_name_of (names_of l.files));
}

abbrev pub decreases-loop-rest : goal.decreases-loop-rest
decreases-loop-rest l = length l.rest
