use Rattle.c_init.proofs.Common.{length, drop, refl, ap, ◌∙◌}
use Rattle.c_init.specs.Init.{most}
use Rattle.c_init.specs.Portions.{elements_behind}
use Rattle.c_init.proofs.PieceLists.{many_there}
use Rattle.c_init.proofs.pieces.has_many_elements.Goals as goal

pub returns : goal.returns
returns c =
    many_there c.args.m.now.elements c.behind.result.0.now c.behind.result.1 (length c.behind.result.0.now) refl
    (c.behind.ensures.same ∙ ap (λ es. drop most (elements_behind 0 es)) c.as_slice.ensures) c.behind.ensures.starts
