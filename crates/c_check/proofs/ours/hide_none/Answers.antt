use Rattle.c_check.proofs.Common.{map, refl, ◌∙◌, item_of}
use Rattle.c_check.proofs.Sets.{hides}
use Rattle.c_check.proofs.ours.hide_none.Goals as goal

pub returns : goal.returns
returns c = c.are_in_none.ensures ∙ hides c.args.names.now (map item_of c.args.file.now.items.now) c.args.own.now _ c.requires refl
