use Rattle.c_body.proofs.Common.{List, ◌++◌, sym, ap, ◌∙◌, subst, ValType, context_with, BodyIsReady}
use Rattle.c_body.proofs.func.content.Goals as goal

pub whole_body-requires-clause-ready : goal.whole_body-requires-clause-ready
whole_body-requires-clause-ready c =
    let ty = c.args.ty.now in
    let all = c.as_slice-2.ensures.value ∙ c.in_ok-all.ensures
    ∙ ap (λ (own : List ValType). ty.params ++ own) (c.as_slice.ensures.value ∙ c.in_ok-own.ensures) in
    subst (λ (locals : List ValType). BodyIsReady (context_with c.args.spaces.now.tree.now locals ty.result) c.args.body.now.code)
    (sym all) c.requires
