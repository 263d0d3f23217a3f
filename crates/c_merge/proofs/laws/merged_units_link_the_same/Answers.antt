use Rattle.c_merge.proofs.OneLinks.{found_same, one_links, type_same}
use Rattle.c_merge.proofs.laws.merged_units_link_the_same.Goals as goal

pub returns-clause-links : goal.returns-clause-links
returns-clause-links c = one_links

pub returns-clause-found : goal.returns-clause-found
returns-clause-found c = found_same

pub returns-clause-typed : goal.returns-clause-typed
returns-clause-typed c = type_same
