use Rattle.c_check.proofs.Common.{map, ap, func_of, item_of, maybe_body_of, body_none}
use Rattle.c_check.proofs.pass.broken_in_function.Goals as goal

pub returns-in-None : goal.returns-in-None
returns-in-None c = body_none (map item_of c.args.file.now.items.now) c.args.i (func_of c.args.f.now) (ap maybe_body_of c.in-None.is)

pub returns-in-Some : goal.returns-in-Some
returns-in-Some c = c.broken_in_definition.ensures

pub broken_in_definition-requires-clause-count : goal.broken_in_definition-requires-clause-count
broken_in_definition-requires-clause-count c = c.requires

pub broken_in_definition-requires-clause-body : goal.broken_in_definition-requires-clause-body
broken_in_definition-requires-clause-body c = c.in-Some.is
