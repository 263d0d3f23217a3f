use Rattle.c_check.proofs.Common.{option_map, ap, ◌∙◌, Variable}
use Rattle.std.proofs.lemmas.Option.{slice_get-map, slice_get-get_or}
use Rattle.c_check.proofs.ours.name_at.Goals as goal

pub returns : goal.returns
returns c = slice_get-map (λ (v : Variable). v.name.now) c.args.own.now c.args.i
    ∙ ap (option_map (λ (v : Variable). v.name.now)) (slice_get-get_or c.args.own.now c.args.i _ c.requires)
