use Rattle.crun_words.proofs.Said.{one_call}
use Rattle.crun_words.proofs.law.one_call.Goals as goal

pub returns : goal.returns
returns c = one_call
