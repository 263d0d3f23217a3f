use Rattle.body_check.proofs.Common.{◌≡◌, ◌<◌, map, reverse, length, slice_get, Some, option_copied, sym, ap, ◌∙◌, arith, slice_get-map}
use Rattle.body_check.proofs.Common.{some_first, seen, shown}
use Rattle.body_check.proofs.Steps.{called_by_index}
use Rattle.body_check.proofs.plain.Surroundings.call_indirect.Goals as goal

pub returns-else-is_empty-clause-step : goal.returns-else-is_empty-clause-step
returns-else-is_empty-clause-step c labels =
    let spaces = c.args.self.now.spaces.now in
    let ty = c.in-Some.ty.now in
    let there : slice_get (map (λ t. t.ty) spaces.types.now) c.args.type_index ≡ Some ty =
    slice_get-map (λ t. t.ty) spaces.types.now c.args.type_index ∙ sym c.func_type.ensures ∙ ap option_copied c.in-Some.is in
    let some : 0 < length spaces.tables.items = search (arith, c.is_empty.ensures, c.if-is_empty) in
    called_by_index (seen c.args.self.now) (reverse labels) c.turn_by_index.result (shown c.args.operands.now)
    (shown c.turn_by_index.new.operands) c.args.type_index ty
    c.as_slice.result.now there (some_first spaces.tables.items some) c.as_slice.ensures c.turn_by_index.ensures.step
