use Rattle.c_check.proofs.Common.{◌≡◌, List, map, Option, option_map, sym, ap, ◌∙◌, subst, item_of, Item, whole_unit, first_in_items}
use Rattle.c_check.proofs.Common.{broken_at}
use Rattle.c_tree.specs.FirstBroken.{BrokenRule, first_broken}
use Rattle.c_tree.proofs.FirstBroken.{none_is_broken}
use Rattle.c_tree.proofs.BrokenInOrder.{is_first}
use Rattle.c_check.specs.declared.pass.Broken.{Broken}
use Rattle.c_check.proofs.checked.CheckedUnitCheck.check.Goals as goal

-- what was found is the first of the unit
found : (u ys : List Item) (o r : Option Broken) → ys ≡ u → option_map broken_at o ≡ first_in_items (map item_of ys) 0 → o ≡ r
    → first_broken (map item_of u) ≡ option_map broken_at r
found u ys o r same e is =
    sym (whole_unit (map item_of u)) ∙ ap (λ (zs : List Item). first_in_items (map item_of zs) 0) (sym same) ∙ sym e
    ∙ ap (option_map broken_at) is

pub returns-in-Some-clause-rule : goal.returns-in-Some-clause-rule
returns-in-Some-clause-rule c =
    is_first (map item_of c.args.u) _ (found c.args.u c.as_slice.result.now _ _ c.as_slice.ensures c.in_ok-broken.ensures c.in-Some.is)

pub returns-in-Some-clause-found : goal.returns-in-Some-clause-found
returns-in-Some-clause-found c = found c.args.u c.as_slice.result.now _ _ c.as_slice.ensures c.in_ok-broken.ensures c.in-Some.is

pub known-requires-clause-kept : goal.known-requires-clause-kept
known-requires-clause-kept c = found c.args.u c.as_slice.result.now _ _ c.as_slice.ensures c.in_ok-broken.ensures c.in-None.is

pub returns-in_ok-known-in-None-clause-kept : goal.returns-in_ok-known-in-None-clause-kept
returns-in_ok-known-in-None-clause-kept c at =
    let keeps = found c.args.u c.as_slice.result.now _ _ c.as_slice.ensures c.in_ok-broken.ensures c.in-None.is in
    subst (λ (u : List Item). BrokenRule (map item_of u) at → ⊥) (sym c.in_ok-known-in-None.ensures)
    (none_is_broken (map item_of c.args.u) at keeps)
