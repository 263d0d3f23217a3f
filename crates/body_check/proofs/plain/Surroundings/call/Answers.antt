use Rattle.body_check.proofs.Common.{◌≡◌, map, reverse, slice_get, Some, option_map, option_copied, sym, ap, ◌∙◌, slice_get-map, seen}
use Rattle.body_check.proofs.Common.{type_seen, shown}
use Rattle.body_check.proofs.Steps.{called}
use Rattle.body_check.proofs.plain.Surroundings.call.Goals as goal

pub returns-in-Some-func_type-clause-step : goal.returns-in-Some-func_type-clause-step
returns-in-Some-func_type-clause-step c labels =
    let spaces = c.args.self.now.spaces.now in
    let ty = c.in-Some-func_type.ty.now in
    let there : slice_get (map (type_seen spaces) spaces.funcs.items) c.args.index ≡ Some (Some ty) =
    slice_get-map (type_seen spaces) spaces.funcs.items c.args.index
    ∙ ap (option_map (type_seen spaces)) (sym c.type_index.ensures ∙ c.in-Some.is)
    ∙ ap Some (sym c.func_type.ensures ∙ ap option_copied c.in-Some-func_type.is) in
    called (seen c.args.self.now) (reverse labels) c.turn.result (shown c.args.operands.now) (shown c.turn.new.self) c.args.index ty
    c.as_slice.result.now there c.as_slice.ensures c.turn.ensures.step
