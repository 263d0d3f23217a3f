use Rattle.wasm_valid.proofs.Common.{subst, zip_first, zip_second, iter_rest, EntersBody, bodies_of}
use Rattle.std.proofs.lemmas.Slice.Zip.{Zip-more, either_empty_from_Zip}
use Rattle.wasm_valid.proofs.EnteredBodies.{same_body_context, one_pair_entered, all_pairs_entered}
use Rattle.wasm_valid.proofs.valid.enter_body_faults.Goals as goal

pub loop-func-preserved : goal.loop-func-preserved
loop-func-preserved c =
    let m = c.args.m.now in
    let before = c.loop-func.func-iterator in
    let behind = c.next.new.self in
    let func = c.in-Some.func.now in
    let body = c.in-Some.body.now in
    let more = Zip-more before behind c.next.result (c.in-Some.func, c.in-Some.body) c.in-Some.is c.next.ensures.steps in
    one_pair_entered m (bodies_of m) (iter_rest (zip_first before)) (iter_rest (zip_first behind)) (iter_rest (zip_second before))
    (iter_rest (zip_second behind))
    func body c.args.first.now.found c.loop-func.first.found c.enter_body_fault.new.first.found more.0 more.1 c.loop-func.invariant
    (subst (λ context. EntersBody context body c.loop-func.first.found c.enter_body_fault.new.first.found)
    (same_body_context c.args.spaces.now m func body c.requires) c.in_ok-enter_body_fault.ensures)

pub returns : goal.returns
returns c =
    let m = c.args.m.now in
    let left = c.loop-func.func-iterator in
    all_pairs_entered m (bodies_of m) (iter_rest (zip_first left))
    (iter_rest (zip_second left)) c.args.first.now.found c.loop-func.first.found
    (either_empty_from_Zip left c.next.new.self c.next.result c.in-None.is c.next.ensures.steps) c.loop-func.invariant
