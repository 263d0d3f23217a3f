use Rattle.journal_lines.proofs.Items.{text_in}
use Rattle.journal_lines.proofs.cuts.part_at.Goals as goal

pub returns : goal.returns
returns c = text_in c.args.parts.now c.args.k _ c.requires
