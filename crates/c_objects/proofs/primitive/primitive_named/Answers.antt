use Rattle.c_objects.proofs.Common.{option_map, ap, ◌∙◌}
use Rattle.c_objects.specs.Calls.{meaning_of}
use Rattle.c_objects.proofs.Primitives.{meant}
use Rattle.c_objects.proofs.primitive.primitive_named.Goals as goal

pub returns : goal.returns
returns c = ap (option_map meaning_of) c.of_name.ensures.found ∙ meant c.args.name.now
