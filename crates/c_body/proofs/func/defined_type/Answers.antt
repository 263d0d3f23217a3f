use Rattle.body_definition.proofs.Zipped.{no_func_type, no_body_type, type_of_both}
use Rattle.c_body.proofs.func.defined_type.Goals as goal

pub returns-in-None : goal.returns-in-None
returns-in-None c = no_func_type c.args.spaces.now.tree.now c.args.index c.in-None.ensures

pub returns-in-None-body_at : goal.returns-in-None-body_at
returns-in-None-body_at c = no_body_type c.args.spaces.now.tree.now c.args.index c.in-None-body_at.ensures

pub returns-in-Some-body_at : goal.returns-in-Some-body_at
returns-in-Some-body_at c =
    type_of_both c.args.spaces.now.tree.now c.args.index c.in-Some.func.now _ _ c.in-Some.ensures c.in-Some-body_at.ensures c.ty.ensures
