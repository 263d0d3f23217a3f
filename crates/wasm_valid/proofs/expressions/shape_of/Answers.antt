use Rattle.wasm_valid.specs.Expressions.{globals_reached}
use Rattle.wasm_valid.proofs.Shapes.{more_than_one}
use Rattle.wasm_valid.proofs.expressions.shape_of.Goals as goal

pub returns-in_default-2 : goal.returns-in_default-2
returns-in_default-2 c =
    more_than_one (globals_reached c.args.spaces.now c.args.reach) c.as_slice.result.now c.args.code.now c.in_default.len_at_least
    c.as_slice.ensures
