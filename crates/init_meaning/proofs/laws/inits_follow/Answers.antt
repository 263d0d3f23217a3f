use Rattle.init_meaning.proofs.Tasks as tasks
use Rattle.init_meaning.proofs.laws.inits_follow.Goals as goal

pub returns : goal.returns
returns c = tasks.inits_follow
