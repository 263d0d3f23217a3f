use Rattle.wasm2c_cli.proofs.Common.{refl, subst, arith, AreBytes, IsRefusal}
use Rattle.std.proofs.lemmas.Option.{slice_get_read}
use Rattle.wasm2c_cli.proofs.Taken.{one_more_taken, stops_accepting}
use Rattle.wasm2c_cli.proofs.accepting.accept_modules.Goals as goal

pub returns-in-Err-clause-stop : goal.returns-in-Err-clause-stop
returns-in-Err-clause-stop c =
    let at = slice_get_read c.args.sources.now _ c.loop-k.k c.index-sources-k.result refl (omega arith) c.index-sources-k.is in
    stops_accepting _ _ _ c.loop-k.k _ c.in-Err.refusal c.stop_for.result at c.loop-k.invariant
    (subst (λ b. IsRefusal b c.in-Err.refusal) c.as_slice.ensures c.in-Err.ensures.refused) c.stop_for.ensures

pub loop-k-preserved : goal.loop-k-preserved
loop-k-preserved c =
    let at = slice_get_read c.args.sources.now _ c.loop-k.k c.index-sources-k.result refl (omega arith) c.index-sources-k.is in
    one_more_taken _ c.loop-k.k _ _ _ c.in-Ok.module at c.loop-k.invariant
    (subst AreBytes c.as_slice.ensures c.in-Ok.ensures.bytes) (rw c.as_slice.ensures at c.in-Ok.ensures.accepted)
    c.in_ok-push-in-Ok.ensures.items
