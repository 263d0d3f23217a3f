use Rattle.crun_startup.proofs.Common.{option_map, sym, ap, ◌∙◌, item_of, value_of, var_value}
use Rattle.crun_startup.proofs.Collected.{put_none}
use Rattle.crun_startup.proofs.objects.put_first_value.Goals as goal

pub returns-in-None : goal.returns-in-None
returns-in-None c names =
    put_none var_value (value_of names) (item_of c.args.item.now) c.args.values.now.items
    (sym (ap (option_map (value_of names)) c.in-None.is) ∙ c.first_value.ensures names)
