use Rattle.c_trim.proofs.Needed.{trimmed_again}
use Rattle.c_trim.proofs.laws.trimming_twice_is_trimming_once.Goals as goal

pub returns : goal.returns
returns c = trimmed_again
