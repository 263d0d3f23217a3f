use Rattle.std.proofs.Common.{refl}
use Rattle.std.specs.Int.Count.{ones-ones}
use lib.Count.{count_leading_zeros, count_trailing_zeros, ones, ones_in}
use Rattle.wasm_meaning.proofs.cases.count_cases.Goals as goal

pub returns-clause-leading_zeros_of_0 : goal.returns-clause-leading_zeros_of_0
unfolding count_leading_zeros
returns-clause-leading_zeros_of_0 c = refl

pub returns-clause-trailing_zeros_of_0 : goal.returns-clause-trailing_zeros_of_0
unfolding count_trailing_zeros
returns-clause-trailing_zeros_of_0 c = refl

pub returns-clause-ones_of_a_byte : goal.returns-clause-ones_of_a_byte
unfolding ones ones_in
returns-clause-ones_of_a_byte c = refl

pub returns-clause-ones_of_the_greatest : goal.returns-clause-ones_of_the_greatest
returns-clause-ones_of_the_greatest c = ones-ones 64
