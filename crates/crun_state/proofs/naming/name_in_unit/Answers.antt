use Rattle.std.proofs.Common.{sym, ◌∙◌}
use Rattle.crun_state.proofs.Named.{named_at}
use Rattle.crun_state.proofs.naming.name_in_unit.Goals as goal

pub returns-in-Some : goal.returns-in-Some
returns-in-Some c =
    let found = c.in-Some.ensures.lookup in
    c.function_of_item.ensures ∙ sym (named_at c.args.items.now c.args.item c.in-Some.item.now found.3.0 found.1)
