use Rattle.crun_words.proofs.Common.{◌≡◌, true, false, List, [], ◌∷◌, sym, ap, ◌∙◌, same_types, CType, Void}
use Rattle.crun_words.proofs.ArgumentValues.{no_number, no_number_void, void_is}
use Rattle.crun_words.proofs.argument.no_arguments.Goals as goal

pub returns-then-is_void-clause-some : goal.returns-then-is_void-clause-some
returns-then-is_void-clause-some c =
    rw c.new.ensures (no_number c.args.params.now (void_is c.args.params.now (sym c.is_void.ensures ∙ c.if-is_void.true)))

pub returns-clause-none : goal.returns-clause-none
returns-clause-none c = λ values are.
    let both : false ≡ true = sym c.if-is_void.false ∙ c.is_void.ensures
    ∙ ap (λ (types : List CType). same_types types (Void ∷ [])) (no_number_void c.args.params.now values are) in
    cc
