use Rattle.journal_lines.proofs.Common.{IsNumber, texts, number_text}
use Rattle.journal_lines.proofs.Items.{all_more, at_none, not_written, one_more}
use Rattle.journal_lines.proofs.values.values_of.Goals as goal

pub loop-k-preserved : goal.loop-k-preserved
loop-k-preserved c = record {
  numbers = all_more IsNumber c.loop-k.values c.push.new.self c.in-Some.value c.loop-k.invariant.numbers
      c.in-Some.ensures.some.0 c.in_ok-push.ensures.ok;
  written = one_more number_text (texts c.args.words.now) c.loop-k.k c.part_at-word.result.now c.loop-k.values c.push.new.self
      c.in-Some.value c.part_at-word.ensures c.loop-k.invariant.written c.in-Some.ensures.some.1 c.in_ok-push.ensures.ok;
}

pub returns-in_default-clause-none : goal.returns-in_default-clause-none
returns-in_default-clause-none c = λ vs numbers are.
    not_written number_text IsNumber (texts c.args.words.now) c.loop-k.k c.part_at-word.result.now c.part_at-word.ensures
    (at_none c.value_of.result c.in_default.is c.value_of.ensures.none) vs numbers are
