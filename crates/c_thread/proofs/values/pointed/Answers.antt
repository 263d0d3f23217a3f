use Rattle.c_thread.proofs.Common.{Some, option_map, sym, ap, ◌∙◌, sight_of}
use Rattle.c_objects.specs.declared.held.Held.TheVariants.{Pointer}
use Rattle.c_meaning.specs.Step.{number_in}
use Rattle.c_objects.specs.Views.{value_of as held_of}
use Rattle.c_thread.proofs.Stars.{star_sees}
use Rattle.c_thread.proofs.values.pointed.Goals as goal

pub returns-in-Some-Pointer-Some : goal.returns-in-Some-Pointer-Some
returns-in-Some-Pointer-Some c names p m r sees =
    c.number.ensures names
    ∙ ap (λ v. number_in (option_map (held_of names) v)) c.var.ensures
    ∙ sym (star_sees names (sight_of c.args.scope.now) p m r sees c.args.name.now c.in-Some-Pointer-Some.at
    (sym c.held.ensures ∙ c.in-Some-Pointer-Some.is
    ∙ ap Some (c.in-Some-Pointer-Some.field-0-is ∙ ap Pointer c.in-Some-Pointer-Some.field-0-0-is)))
