use Rattle.c_scope.proofs.Common.{[], ◌∷◌, codes, ap, ◌∙◌, option_or, named, found_of_four, local_variables, param_variables, body_of}
use Rattle.c_scope.proofs.Common.{func_of, declared, variables_of}
use Rattle.c_tree.specs.declared.tree.CType.TheVariants.{U32}
use Rattle.c_scope.proofs.scope.Scope.variable.Goals as goal

pub returns : goal.returns
returns c =
    let q = c.args.name.now in
    let s = c.args.self.now in
    c.or-2.ensures
    ∙ ap (λ o. option_or o c.runtime_variable.result)
    (c.or.ensures ∙ ap (λ o. option_or o c.variable.result) c.find.ensures ∙ ap (option_or (named q s.own.now)) c.variable.ensures)
    ∙ ap (option_or (option_or (named q s.own.now) (named q (variables_of (declared s.file.now))))) c.runtime_variable.ensures
    ∙ found_of_four q (param_variables (func_of s.func.now)) (local_variables (body_of s.body.now)) (variables_of (declared s.file.now))
    ((codes "w2c_depth", U32) ∷ []) s.own.now (s.own_found q)
