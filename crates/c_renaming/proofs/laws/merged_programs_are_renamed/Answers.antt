use Rattle.c_renaming.proofs.MergedExternals.{merged_renames}
use Rattle.c_renaming.proofs.laws.merged_programs_are_renamed.Goals as goal

pub returns : goal.returns
returns c = merged_renames
