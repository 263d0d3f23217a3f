use Rattle.body_meaning.proofs.Control.{all_code_follows}
use Rattle.body_meaning.proofs.Indirect.{indirect_calls_follow}
use Rattle.body_meaning.proofs.Bodies as body
use Rattle.body_meaning.proofs.laws.bodies_follow.Goals as goal

pub returns : goal.returns
returns c = body.bodies_follow (all_code_follows (indirect_calls_follow c.equal_numbers_have_equal_types.ensures))
