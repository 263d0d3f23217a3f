use Rattle.w2c_mangle.proofs.EscapedNames.{escaped-injective}
use Rattle.w2c_mangle.proofs.escaping.equal_escapes_have_equal_names.Goals as goal

pub returns : goal.returns
returns c = escaped-injective
