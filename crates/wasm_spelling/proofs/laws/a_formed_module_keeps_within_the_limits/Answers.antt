use Rattle.std.proofs.Common.{refl}
use Rattle.wasm_spelling.proofs.WithinPlaces.{formed_is_within}
use Rattle.wasm_spelling.proofs.laws.a_formed_module_keeps_within_the_limits.Goals as goal

pub returns-clause-within : goal.returns-clause-within
returns-clause-within c = formed_is_within

pub returns-clause-spelled : goal.returns-clause-spelled
returns-clause-spelled c tree bytes are s = (bytes, are, (tree, refl, s))
