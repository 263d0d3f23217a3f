use Rattle.wasm_valid.proofs.Common.{zip, zip_first, zip_second, iter_rest, bodies_of}
use Rattle.wasm_valid.proofs.EnteredBodies.{Entering}
use Rattle.wasm_valid.proofs.valid.enter_body_faults.Given as goal

abbrev pub invariant-loop-func : goal.invariant-loop-func
invariant-loop-func l =
    Entering l.m (bodies_of l.m) (zip (iter_rest (zip_first l.func-iterator)) (iter_rest (zip_second l.func-iterator))) l.fn.first.found
    l.first.found
