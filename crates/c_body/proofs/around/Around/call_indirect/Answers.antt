use Rattle.c_body.proofs.around.Around.call_indirect.Goals as goal

pub call_element-requires-clause-few : goal.call_element-requires-clause-few
call_element-requires-clause-few c = c.args.self.now.spaces.now.few_params c.args.type_index c.in-Some.ty.now c.in-Some.ensures
