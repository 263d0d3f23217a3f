use Rattle.std.proofs.Common.{sym, ap, ◌∙◌, option_map}
use Rattle.c_meaning.specs.Step.{number_in}
use Rattle.c_objects.specs.Views.{value_of as held_of}
use Rattle.c_thread.proofs.values.number_named.Goals as goal

pub returns : goal.returns
returns c names p m r sees =
    c.number.ensures names
    ∙ ap (λ v. number_in (option_map (held_of names) v)) c.held.ensures
    ∙ ap number_in (sym (sees.values_are c.args.name.now))
