use Rattle.std.proofs.Common.{refl}
use Rattle.wasm_set.proofs.Found.{taken_name}
use Rattle.wasm_set.proofs.joining.may_join.Goals as goal

pub returns-in-Some : goal.returns-in-Some
returns-in-Some c =
    taken_name c.args.modules.now c.args.name.now c.args.m.now c.in-Some.field-0 (c.in-Some.ensures.within _ refl)
    (c.in-Some.ensures.found _ refl)
