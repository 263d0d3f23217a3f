use Rattle.crun_startup.proofs.Common.{[], is_some, sym, ap, ◌∙◌, item_of, value_of, has_object}
use Rattle.w2c_base.proofs.Options.{is_some_map}
use Rattle.crun_startup.proofs.names.has_object.Goals as goal

pub returns-in-Variable : goal.returns-in-Variable
returns-in-Variable c =
    c.is_some.ensures ∙ sym (is_some_map (value_of []) c.first_value.result) ∙ ap is_some (c.first_value.ensures [])
    ∙ sym (ap (λ k. has_object k (item_of c.args.item.now)) c.in-Variable.is)
