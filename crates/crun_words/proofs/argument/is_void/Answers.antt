use Rattle.c_tree.proofs.OnlyVoid.{not_one}
use Rattle.crun_words.proofs.argument.is_void.Goals as goal

pub returns-then-params-ne1 : goal.returns-then-params-ne1
returns-then-params-ne1 c = not_one c.args.params.now c.if-params-ne1.true
