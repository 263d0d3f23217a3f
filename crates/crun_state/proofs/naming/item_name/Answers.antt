use Rattle.crun_state.proofs.Common.{[], map, get_or, Some, None, option_copied, sym, ap, ◌∙◌, item_of}
use Rattle.crun_startup.specs.Names.{function_name}
use Rattle.crun_state.proofs.Named.{item_named}
use Rattle.crun_state.proofs.naming.item_name.Goals as goal

pub returns-in-Some : goal.returns-in-Some
returns-in-Some c =
    c.name_in_unit.ensures
    ∙ ap (λ items. get_or (map function_name (map item_of items)) c.args.item []) (c.as_slice.ensures ∙ c.unit.ensures.unit)
    ∙ item_named c.args.units.now c.args.unit c.args.item (Some c.in-Some.own.now) (sym (ap option_copied c.in-Some.is) ∙ c.at.ensures)

pub returns-in-None : goal.returns-in-None
returns-in-None c = item_named c.args.units.now c.args.unit c.args.item None (sym (ap option_copied c.in-None.is) ∙ c.at.ensures)
