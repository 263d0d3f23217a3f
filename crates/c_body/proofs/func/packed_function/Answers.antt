use Rattle.c_body.proofs.Common.{◌≡◌, IfOk, Some, None, subst}
use Rattle.packed_stmts.specs.PackedItems.{packed_func_of}
use Rattle.c_tree.specs.Tree as tree
use Rattle.c_body.proofs.Readiness.{defined_ready, valid_alike, within_alike}
use Rattle.body_definition.proofs.Zipped.{no_function, no_body, by_its_type}
use Rattle.c_body.proofs.func.packed_function.Goals as goal

pub returns-in-None : goal.returns-in-None
returns-in-None c = subst (λ (x : tree.Func). IfOk c.no_func.result (λ f. packed_func_of f ≡ x))
    (no_function c.args.spaces.now.tree.now c.args.spaces.now.name.now c.args.index c.in-None.ensures) c.no_func.ensures

pub returns-in-None-body_at : goal.returns-in-None-body_at
returns-in-None-body_at c = subst (λ (x : tree.Func). IfOk c.no_func-in-None-body_at.result (λ f. packed_func_of f ≡ x))
    (no_body c.args.spaces.now.tree.now c.args.spaces.now.name.now c.args.index c.in-None-body_at.ensures) c.no_func-in-None-body_at.ensures

pub returns-in-None-ty : goal.returns-in-None-ty
returns-in-None-ty c = subst (λ (x : tree.Func). IfOk c.no_func-in-None-ty.result (λ f. packed_func_of f ≡ x))
    (by_its_type c.args.spaces.now.tree.now c.args.spaces.now.name.now c.args.index c.in-Some.func.now c.in-Some-body_at.body.now None
    c.in-Some.ensures c.in-Some-body_at.ensures c.in-None-ty.ensures) c.no_func-in-None-ty.ensures

pub returns-in-Some-ty : goal.returns-in-Some-ty
returns-in-Some-ty c = subst (λ (x : tree.Func). IfOk c.defined.result (λ f. packed_func_of f ≡ x))
    (by_its_type c.args.spaces.now.tree.now c.args.spaces.now.name.now c.args.index c.in-Some.func.now c.in-Some-body_at.body.now
    (Some c.in-Some-ty.ty.now)
    c.in-Some.ensures c.in-Some-body_at.ensures c.in-Some-ty.ensures) c.defined.ensures

pub defined-requires : goal.defined-requires
defined-requires c =
    let spaces = c.args.spaces.now in
    let checked = c.module.result.now in
    let found = c.module.ensures in
    defined_ready spaces.tree.now c.args.index c.in-Some.func.now c.in-Some-body_at.body.now c.in-Some-ty.ty.now
    (valid_alike checked c.args.m.now spaces.tree.now found.same c.requires found.valid)
    (within_alike checked c.args.m.now spaces.tree.now found.same c.requires found.within)
    c.in-Some.ensures c.in-Some-body_at.ensures c.in-Some-ty.ensures
