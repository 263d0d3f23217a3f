use Rattle.crun_words.proofs.Common.{◌^◌, sym, ◌∙◌, names_of}
use Rattle.crun_words.specs.Numbers.{number_below}
use Rattle.crun_words.proofs.Lists.{not_given, one_more}
use Rattle.crun_words.proofs.call.numbers_of.Goals as goal

pub returns-in_default-clause-none : goal.returns-in_default-clause-none
returns-in_default-clause-none c = λ numbers are.
    not_given (number_below (2 ^ 64)) (names_of c.args.words.now) c.loop-k.k c.part_at-word.result.now numbers c.part_at-word.ensures
    (sym c.number.ensures ∙ c.in_default.is) are

pub loop-k-preserved : goal.loop-k-preserved
loop-k-preserved c =
    one_more (number_below (2 ^ 64)) (names_of c.args.words.now) c.loop-k.k c.part_at-word.result.now c.loop-k.numbers c.push.new.self
    c.in-Some.number c.part_at-word.ensures c.loop-k.invariant (sym c.number.ensures ∙ c.in-Some.is) c.in_ok-push.ensures.ok
