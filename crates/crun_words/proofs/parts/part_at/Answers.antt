use Rattle.w2c_files.proofs.Loops.{name_in}
use Rattle.crun_words.proofs.parts.part_at.Goals as goal

pub returns : goal.returns
returns c = name_in c.args.parts.now c.args.k _ c.requires
