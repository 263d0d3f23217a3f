use Rattle.crun_words.proofs.Common.{◌<◌, length, slice_index_or, arith, rules, slice_get-get_or, Void}
use Rattle.crun_words.proofs.ArgumentValues.{no_argument, not_each, one_more}
use Rattle.crun_words.proofs.argument.arguments.Goals as goal

pub returns-then-params-numbers-clause-none : goal.returns-then-params-numbers-clause-none
returns-then-params-numbers-clause-none c = λ values are.
    let some : 0 < length c.args.numbers.now = search rules in
    not_each c.args.params.now c.args.numbers.now values some c.if-params-numbers.true are

pub returns-in_default-clause-none : goal.returns-in_default-clause-none
returns-in_default-clause-none c = λ values are.
    let params = c.args.params.now in
    let numbers = c.args.numbers.now in
    let k = c.loop-k.k in
    let within : k < length params = omega (arith, c.loop-k.invariant.each, c.loop-k-test.true) in
    no_argument params numbers values k (slice_index_or params k Void) (slice_index_or numbers k 0) c.loop-k.invariant.some
    (slice_get-get_or params k Void within) (slice_get-get_or numbers k 0 c.loop-k-test.true)
    (rw c.in_default.is at c.argument.ensures.none) are

pub loop-k-preserved : goal.loop-k-preserved
loop-k-preserved c =
    let params = c.args.params.now in
    let numbers = c.args.numbers.now in
    let k = c.loop-k.k in
    let within : k < length params = omega (arith, c.loop-k.invariant.each, c.loop-k-test.true) in
    record {
      each = c.loop-k.invariant.each;
      some = c.loop-k.invariant.some;
      values = one_more params numbers k (slice_index_or params k Void) (slice_index_or numbers k 0) c.loop-k.values c.push.new.self
          c.in-Some.value (slice_get-get_or params k Void within) (slice_get-get_or numbers k 0 c.loop-k-test.true)
          c.loop-k.invariant.values c.in-Some.ensures.some c.in_ok-push.ensures.ok;
    }
