use Rattle.c_link.proofs.Common.{◌≡◌, List, map, None, subst, unit_of, Item, first_refusal, c_symbols, AllChecked, HostSymbol}
use Rattle.c_link.proofs.linked.Linked.units.Goals as goal

pub returns-clause-checked : goal.returns-clause-checked
returns-clause-checked c =
    subst (λ (seen : List (List Item) × List HostSymbol). AllChecked (map unit_of seen.0)) c.self.view_is c.self.invariant.2

pub returns-clause-resolved : goal.returns-clause-resolved
returns-clause-resolved c =
    subst (λ (seen : List (List Item) × List HostSymbol). first_refusal (map unit_of seen.0) (c_symbols seen.1) ≡ None) c.self.view_is
    c.self.invariant.1
