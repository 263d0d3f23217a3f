use Rattle.journal_lines.proofs.Common.{texts, type_text}
use Rattle.journal_lines.proofs.Items.{at_none, not_written, one_more}
use Rattle.journal_lines.proofs.Joins.{every_type, IsAny}
use Rattle.journal_lines.proofs.types.types_of.Goals as goal

pub loop-k-preserved : goal.loop-k-preserved
loop-k-preserved c =
    one_more type_text (texts c.args.words.now) c.loop-k.k c.part_at-word.result.now c.loop-k.types c.push.new.self
    c.in-Some.ty c.part_at-word.ensures c.loop-k.invariant c.in-Some.ensures.some c.in_ok-push.ensures.ok

pub returns-in_default-clause-none : goal.returns-in_default-clause-none
returns-in_default-clause-none c = λ types are.
    not_written type_text IsAny (texts c.args.words.now) c.loop-k.k c.part_at-word.result.now c.part_at-word.ensures
    (λ t any is. at_none c.type_of.result c.in_default.is c.type_of.ensures.none t is) types (every_type types) are
