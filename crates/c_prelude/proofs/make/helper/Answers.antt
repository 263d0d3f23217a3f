use Rattle.c_prelude.proofs.EachHelper.{made_right}
use Rattle.c_prelude.proofs.Functions.{made_static}
use Rattle.c_prelude.proofs.make.helper.Goals as goal

pub returns-clause-does : goal.returns-clause-does
returns-clause-does c = made_right c.args.which _ c.in_ok-func.ensures

pub returns-clause-function : goal.returns-clause-function
returns-clause-function c = made_static c.args.which _ c.in_ok-func.ensures
