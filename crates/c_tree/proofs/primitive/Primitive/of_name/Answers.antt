use Rattle.c_tree.proofs.Common.{option_map, ap, ◌∙◌, primitive_type}
use Rattle.c_tree.proofs.Primitives.{typed}
use Rattle.c_tree.proofs.primitive.Primitive.of_name.Goals as goal

pub returns-clause-found : goal.returns-clause-found
returns-clause-found c = c.find.ensures

pub returns-clause-typed : goal.returns-clause-typed
returns-clause-typed c = ap (option_map primitive_type) c.find.ensures ∙ typed c.args.name.now
