use Rattle.leb_bytes.proofs.Existence.{shortest_signed, shortest_unsigned}
use Rattle.leb_bytes.proofs.ShortestLemmas.{one_shortest_signed, one_shortest_unsigned}
use Rattle.leb_bytes.proofs.laws.a_number_has_one_shortest_spelling.Goals as goal

pub returns-clause-one_unsigned : goal.returns-clause-one_unsigned
returns-clause-one_unsigned c = one_shortest_unsigned

pub returns-clause-one_signed : goal.returns-clause-one_signed
returns-clause-one_signed c = one_shortest_signed

pub returns-clause-some_unsigned : goal.returns-clause-some_unsigned
returns-clause-some_unsigned c = shortest_unsigned

pub returns-clause-some_signed : goal.returns-clause-some_signed
returns-clause-some_signed c = shortest_signed
